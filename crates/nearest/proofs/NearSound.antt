-- The nodes that the walk comes to are sound: the children of a sound node, their polygons, the entries of a leaf.
use Prim.Native.Nat.{ℕ, suc, ◌+◌}
use mathlib.Core.Path.{◌≡◌, sym, ap, ◌∙◌, subst}
use mathlib.Core.Bool.{true}
use mathlib.Core.List.{List, ◌∷◌}
use mathlib.Core.Option.{some, some-injective}
use native.Mathlib.Omega.{arith}
use lib.ListN.{length}
use Rattle.geometry.specs.declared.rect.Rect.{Rect}
use Rattle.geometry.specs.Cells.{on_grid, all_valid}
use Rattle.geometry.proofs.NumberLaws.{length_rects}
use Rattle.tree.specs.Lists.{All}
use Rattle.tree.specs.Nodes.{Item, item_has}
use Rattle.tree.specs.Sound.{SoundItem}
use Rattle.tree.specs.Boxes.{GoodPolygon}
use Rattle.tree.proofs.Lists.{all_map}
use Rattle.plane.specs.Lines.{OnGrid}
use Rattle.plane.specs.Plane.{plane}
use Rattle.plane.specs.Fanout.{fanout, index_space}
use Rattle.plane.proofs.Rects.{valid_all, plane_space_laws}
use Rattle.memory.specs.Layout.{part, polygon_in, children_in, rect_count, rect_numbers, item_count, entries_in}
use Rattle.memory.specs.Reading.{read_row, read_node}
use Rattle.memory.proofs.ReadingLaws.{RowParts, row_parts, leaf_parts, node_parts_lem}
use Rattle.layout.specs.Nodes.{PolygonPart, GoodPolygonPart}
use Rattle.layout.proofs.ReadNodes.{node_polygon}
use Rattle.walks.proofs.WalkRows.{RowWalkable}
use Rattle.nearest.specs.Below.{NearWalk}

-- what a sound branch says of its polygon and of its child
fine_of : (n : ℕ) (p : List Rect) (b : Item index_space (suc n)) → SoundItem index_space (suc n) p b → GoodPolygon (plane fanout) b.poly
unfolding SoundItem
fine_of n p b s = s.fine

each_of : (n : ℕ) (p : List Rect) (b : Item index_space (suc (suc n))) → SoundItem index_space (suc (suc n)) p b
    → All (SoundItem index_space (suc n) b.poly) b.child
unfolding SoundItem
each_of n p b s = s.each

-- a row of children that read is sound
abbrev pub SoundRow : ℕ → List ℕ → ℕ → ℕ → List ℕ → Type 0
SoundRow n m lo hi ks = (bs : List (Item index_space (suc n))) → read_row (read_node fanout n m) lo hi ks ≡ some bs
    → (p : List Rect) × All (SoundItem index_space (suc n) p) bs

-- the children of a sound node
pub row_sound : (n : ℕ) (m : List ℕ) (lo k : ℕ) → NearWalk (suc n) m lo k → SoundRow n m lo k (children_in (part m k))
row_sound n m lo k x bs h =
    let b = x.walk.node in
    let f = node_parts_lem fanout n m lo k b x.walk.reads in
    let s = x.sound b x.walk.reads in
    let q : b.child ≡ bs = some-injective _ _ (sym f.row ∙ h) in
    (b.poly, subst (λ (l : List (Item index_space (suc n))). All (SoundItem index_space (suc n) b.poly) l) q (each_of n s.0 b s.1))

-- of a row, the first child and the others
module _ (n : ℕ) (m : List ℕ) (lo hi j : ℕ) (ks : List ℕ) (row : RowWalkable n m lo hi (j ∷ ks)) (sound : SoundRow n m lo hi (j ∷ ks)) where
  parts : RowParts (read_node fanout n m) lo hi j ks row.row
  parts = row_parts (read_node fanout n m) lo hi j ks row.row row.reads

  whole : (p : List Rect) × All (SoundItem index_space (suc n) p) (parts.first ∷ parts.others)
  whole =
      let s = sound row.row row.reads in
      (s.0, subst (λ (l : List (Item index_space (suc n))). All (SoundItem index_space (suc n) s.0) l) (sym parts.whole) s.1)

  pub first_sound : (b : Item index_space (suc n)) → read_node fanout n m lo j ≡ some b → (p : List Rect) × SoundItem index_space (suc n) p b
  unfolding All
  first_sound b e =
      let w = whole in
      (w.0, subst (SoundItem index_space (suc n) w.0) (some-injective _ _ (sym parts.head ∙ e)) w.1.0)

  pub rest_sound : SoundRow n m (j + 1) hi ks
  unfolding All
  rest_sound bs e =
      let w = whole in
      (w.0, subst (λ (l : List (Item index_space (suc n))). All (SoundItem index_space (suc n) w.0) l) (some-injective _ _ (sym parts.tail ∙ e)) w.1.1)

-- the polygon of a sound node
pub polygon_sound : (n : ℕ) (m : List ℕ) (lo k : ℕ) → NearWalk n m lo k → PolygonPart m k → GoodPolygonPart m k
polygon_sound n m lo k x p =
    let b = x.walk.node in
    let s = x.sound b x.walk.reads in
    let q : b.poly ≡ polygon_in (part m k) = node_polygon n m lo k b x.walk.reads in
    let f = fine_of n s.0 b s.1 in
    let l : length b.poly ≡ rect_count (part m k) = ap length q ∙ length_rects (rect_numbers (part m k)) (rect_count (part m k)) in
    record {
      polygon = p;
      some_rects = let u = f.lower in omega arith;
      valid = ap all_valid (sym q) ∙ valid_all b.poly f.valid;
    }

-- the entries of a sound leaf are on the grid
leaf_grid : (m : List ℕ) (lo k : ℕ) → NearWalk 0 m lo k → OnGrid (entries_in (part m k) (item_count (part m k)))
unfolding SoundItem item_has
leaf_grid m lo k x =
    let b = x.walk.node in
    let s = x.sound b x.walk.reads in
    let f = leaf_parts fanout m lo k b x.walk.reads in
    let w = plane_space_laws fanout in
    subst OnGrid f.entries
    (all_map (SoundItem index_space 0 b.poly) (λ e. on_grid e.cell ≡ true) b.child
    (λ e i. w.fine_real b.poly e.cell s.1.fine (i e.cell (w.same_self e.cell))) s.1.each)

pub leaf_on_grid : (level : ℕ) (m : List ℕ) (lo k : ℕ) (p : List ℕ) → level ≡ 0 → NearWalk level m lo k → p ≡ part m k
    → OnGrid (entries_in p (item_count p))
leaf_on_grid level m lo k p z x q =
    subst (λ (s : List ℕ). OnGrid (entries_in s (item_count s))) (sym q) (leaf_grid m lo k (subst (λ (n : ℕ). NearWalk n m lo k) z x))
