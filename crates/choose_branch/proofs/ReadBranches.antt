-- A routing node that reads: the polygons of its branches are those of its children's parts, and what the code relies on.
use Prim.Native.Nat.{ℕ, suc, ◌+◌, ◌≤◌}
use mathlib.Core.Path.{◌≡◌, sym, ap, subst, ◌∙◌}
use mathlib.Core.Bool.{true}
use mathlib.Core.List.{List, [], ◌∷◌, map}
use mathlib.Core.Option.{some}
use native.Mathlib.Omega.{arith}
use lib.ListN.{length, length-map}
use Rattle.geometry.specs.declared.rect.Rect.{Rect}
use Rattle.geometry.proofs.NumberLaws.{length_rects}
use Rattle.tree.specs.Lists.{All}
use Rattle.tree.specs.Nodes.{Item}
use Rattle.tree.proofs.Lists.{all_at}
use Rattle.plane.specs.Fanout.{fanout, index_space}
use Rattle.memory.specs.Layout.{is_index_length, part, rect_count, polygon_in, children_in}
use Rattle.memory.specs.Reading.{read_row, read_node}
use Rattle.memory.proofs.ReadingLaws.{row_none, row_parts, node_parts_lem, node_below, fits_as, children_length}
use Rattle.memory.proofs.SoundTested.{valid_of_fine}
use Rattle.layout.specs.Nodes.{count_at, GoodPolygonPart}
use Rattle.layout.proofs.NodeLaws.{child_in_lem}
use Rattle.layout.proofs.ReadNodes.{node_polygon}
use Rattle.walks.proofs.WalkRows.{walkable, walk_polygon}
use Rattle.choose_branch.specs.Branches.{polygons_in, Branches}
use Rattle.choose_branch.specs.Choose.{Routing}

module _ (n : ℕ) (m : List ℕ) where
  row_polygons : (lo hi : ℕ) (ks : List ℕ) (bs : List (Item index_space (suc n))) → read_row (read_node fanout n m) lo hi ks ≡ some bs
      → map (λ b. b.poly) bs ≡ map (λ j. polygon_in (part m j)) ks
  row_polygons lo hi [] bs e = rw (row_none (read_node fanout n m) lo hi bs e)
  row_polygons lo hi (k ∷ ks) bs e =
      let r = row_parts (read_node fanout n m) lo hi k ks bs e in
      let q = node_polygon n m lo k r.first r.head in
      ap (map (λ b. b.poly)) (sym r.whole) ∙ rw (q, row_polygons (k + 1) hi ks r.others r.tail)

  row_good : (lo hi : ℕ) (ks : List ℕ) (bs : List (Item index_space (suc n))) → is_index_length m ≡ true
      → read_row (read_node fanout n m) lo hi ks ≡ some bs → All (λ b. index_space.Fine b.poly) bs → All (GoodPolygonPart m) ks
  unfolding All
  row_good lo hi [] bs z e f = tt
  row_good lo hi (k ∷ ks) bs z e f =
      let r = row_parts (read_node fanout n m) lo hi k ks bs e in
      let q = node_polygon n m lo k r.first r.head in
      let g : All (λ b. index_space.Fine b.poly) (r.first ∷ r.others) = subst (λ (l : List (Item index_space (suc n))). All (λ b. index_space.Fine b.poly) l) (sym r.whole) f in
      let h : index_space.Fine (polygon_in (part m k)) = subst (λ (p : List Rect). index_space.Fine p) q g.0 in
      let l : 1 ≤ length (polygon_in (part m k)) = h.lower in (
        record {
          polygon = walk_polygon n m lo k (walkable n m lo k r.first z r.from r.head);
          some_rects = rw (length_rects _ (rect_count (part m k))) at l;
          valid = valid_of_fine fanout (polygon_in (part m k)) h;
        },
        row_good (k + 1) hi ks r.others z r.tail g.1,
      )

-- the polygons of the branches, whichever way the node is read
pub polygons_read : (n : ℕ) (m : List ℕ) (lo k : ℕ) (b : Item index_space (suc (suc n))) → read_node fanout (suc n) m lo k ≡ some b
    → map (λ x. x.poly) b.child ≡ polygons_in m k
unfolding polygons_in
polygons_read n m lo k b e = row_polygons n m lo k (children_in (part m k)) b.child (node_parts_lem fanout n m lo k b e).row

pub branches_of : (m : List ℕ) (k : ℕ) → Routing m k → Branches m k
unfolding polygons_in
branches_of m k v =
    let w = walkable (suc v.n) m v.lo k v.node v.right v.from v.reads in
    let b = node_below fanout m (suc v.n) v.lo k v.node v.reads in
    let p = node_parts_lem fanout v.n m v.lo k v.node v.reads in
    let f = fits_as fanout 1 m k p.fits in
    let s = f.some_items in
    let t = f.few_items in
    let few : count_at m k ≤ 8 = w.few in
    let c : length (children_in (part m k)) ≡ count_at m k = children_length fanout m k b (omega arith) in
    let g = row_good v.n m v.lo k (children_in (part m k)) v.node.child v.right p.row v.fine in
    record {
      below = b;
      some = omega arith;
      few = few;
      count = length-map (children_in (part m k)) (λ j. polygon_in (part m j)) ∙ c;
      good = λ i h. rw (child_in_lem (part m k) i h) at (all_at (GoodPolygonPart m) (children_in (part m k)) i 0 (omega arith) g);
    }
