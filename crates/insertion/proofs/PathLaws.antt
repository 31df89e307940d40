-- A line written into the path leaves its nodes and polygons, and so the way.
use Prim.Native.Nat.{ℕ, zero, suc, ◌≤◌, ◌<◌}
use mathlib.Core.Path.{◌≡◌, sym, ap, ◌∙◌, subst}
use mathlib.Core.List.{List}
use mathlib.Core.Option.{some}
use native.Mathlib.Omega.{arith}
use native.Mathlib.Decide.{ℕ_discrete}
use Rattle.path.specs.declared.level.Level.{Level}
use Rattle.geometry.specs.declared.rect.Cell.{Cell}
use Rattle.geometry.specs.declared.rect.Line.{Line}
use Rattle.geometry.specs.declared.rect.Rect.{Rect}
use Rattle.geometry.specs.Numbers.{rects_of}
use Rattle.tree.specs.Plan.{Way, descend}
use Rattle.tree.proofs.GoodWays.{GoodWay}
use Rattle.plane.specs.Lines.{CellEntry, entry_of}
use Rattle.plane.specs.Fanout.{index_space}
use Rattle.layout.specs.Nodes.{count_at, child_at}
use Rattle.walks.specs.Walks.{Walkable}
use Rattle.path.specs.Path.{part_on, place_on, line_on, rect_count_on, polygon_on}
use Rattle.path.proofs.PutLaws.{LinePut}
use Rattle.path.proofs.PutLaws.{level_kept, few_kept}
use Rattle.tree_after.specs.Path.{way_at, PathNode, PathFrom}
use Rattle.insertion.specs.Descent.{items_at}
use Rattle.insertion.specs.Planning.{GoodPath}

-- the part of a path below a level
pub path_below : (path : List Level) (m : List ℕ) (j i : ℕ) → PathFrom j path m → i ≤ j → PathFrom i path m
unfolding PathFrom
path_below path m zero i f h = subst (λ (y : ℕ). PathFrom y path m) (let z : 0 ≡ i = omega arith in z) f
path_below path m (suc j) i f h = go (ℕ_discrete i (suc j)) (path_below path m j i f.2)
  where
    go : Dec (i ≡ suc j) → (i ≤ j → PathFrom i path m) → PathFrom i path m
    go (yes e) g = subst (λ (y : ℕ). PathFrom y path m) (sym e) f
    go (no e) g = g (omega arith)

-- The line x was written to the level n.
module _ (path : List Level) (n : ℕ) (x : Line) (path' : List Level) (v : LinePut path n x path') where
  -- what holds of the level n and of all others holds of every level
  each : (P : ℕ → Type 0) → P n → ((j : ℕ) → (j ≡ n → ⊥) → P j) → (j : ℕ) → P j
  each P here others j = go (ℕ_discrete j n)
    where
      go : Dec (j ≡ n) → P j
      go (yes e) = subst P (sym e) here
      go (no e) = others j e

  pub part_kept : (j : ℕ) → part_on path' j ≡ part_on path j
  part_kept = each (λ j. part_on path' j ≡ part_on path j) v.part (λ j h. ap (λ l. l.part) (v.others j h))

  pub place_kept : (j : ℕ) → place_on path' j ≡ place_on path j
  place_kept = each (λ j. place_on path' j ≡ place_on path j) v.place (λ j h. ap (λ l. l.place) (v.others j h))

  pub line_kept : (j : ℕ) → (j ≡ n → ⊥) → line_on path' j ≡ line_on path j
  line_kept j h = ap (λ l. l.line) (v.others j h)

  count_kept : (j : ℕ) → rect_count_on path' j ≡ rect_count_on path j
  count_kept = each (λ j. rect_count_on path' j ≡ rect_count_on path j) v.count (λ j h. ap (λ l. l.polygon.count) (v.others j h))

  pub polygon_kept : (j : ℕ) → polygon_on path' j ≡ polygon_on path j
  polygon_kept = each (λ j. polygon_on path' j ≡ polygon_on path j) v.polygon (λ j h. ap (λ l. rects_of l.polygon) (v.others j h))

  module _ (m : List ℕ) where
    pub way_kept : (j : ℕ) (e : CellEntry) → PathFrom j path m → way_at j path' m e ≡ way_at j path m e
    unfolding way_at PathFrom
    way_kept zero e f = rw (part_kept 0)
    way_kept (suc j) e f = rw (part_kept (suc j), place_kept (suc j), polygon_kept j, way_kept j e f.2)

    node_kept : (j : ℕ) → PathNode j path m → PathNode j path' m
    node_kept j f = record {
      walk = subst (Walkable j m 0) (sym (part_kept j)) f.walk;
      room = level_kept path path' j v.same_length f.room;
      few = few_kept path path' j (count_kept j) f.few;
    }

    pub from_kept : (j : ℕ) → PathFrom j path m → PathFrom j path' m
    unfolding PathFrom
    from_kept zero f = node_kept zero f
    from_kept (suc j) f =
        let a = place_kept (suc j) in
        (node_kept (suc j) f.0, subst (λ (i : ℕ). place_on path' (suc j) < count_at m i) (sym (part_kept (suc j))) (let b = f.1 in omega arith), from_kept j f.2)

    -- a good path stays good
    pub good_kept : (level : ℕ) (c : Cell) → GoodPath level path m c → GoodPath level path' m c
    good_kept level c g = record {
      from = from_kept level g.from;
      linked = record {
        child = λ j h. part_kept j ∙ g.linked.child j h ∙ sym (ap (λ (i : ℕ). child_at m i (place_on path' (suc j))) (part_kept (suc j)) ∙ ap (λ (i : ℕ). child_at m (part_on path (suc j)) i) (place_kept (suc j)));
        fine = λ j h. subst (λ (p : List Rect). index_space.Fine p) (sym (polygon_kept j)) (g.linked.fine j h);
      };
      grid = g.grid;
      ways = λ j h t.
          let f = path_below path m level j g.from h in
          ap (λ (p : List Rect). descend index_space j p (items_at j m (part_on path' j)) (entry_of c t)) (polygon_kept j)
          ∙ ap (λ (i : ℕ). descend index_space j (polygon_on path j) (items_at j m i) (entry_of c t)) (part_kept j) ∙ g.ways j h t ∙ ap some (sym (way_kept j (entry_of c t) f));
      goods = λ j h t. subst (λ (w : Way index_space j). GoodWay index_space j w) (sym (way_kept j (entry_of c t) (path_below path m level j g.from h))) (g.goods j h t);
    }
