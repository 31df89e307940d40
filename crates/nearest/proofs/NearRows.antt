-- The walk below a node, child by child.
use Prim.Native.Nat.{ℕ, suc, ◌+◌, ◌≤◌}
use mathlib.Core.Path.{◌≡◌, refl, ap, ◌∙◌}
use mathlib.Core.Bool.{true, false, cond}
use mathlib.Core.List.{List, ◌∷◌}
use native.Mathlib.Omega.{arith}
use Rattle.geometry.specs.declared.rect.Cell.{Cell}
use Rattle.tree.specs.Nodes.{Item}
use Rattle.tree.specs.Nearest.{enters, enter, walk_node}
use Rattle.tree.specs.Walk.{node_walk_visits}
use Rattle.tree.proofs.NearestWalk.{to_branch, below_few}
use Rattle.tree.proofs.Walk.{walk_every}
use Rattle.plane.specs.Fanout.{fanout, index_space}
use Rattle.memory.specs.Layout.{part, polygon_in, children_in, item_count, entries_in}
use Rattle.memory.proofs.ReadingLaws.{leaf_parts, node_parts_lem}
use Rattle.walks.specs.Walks.{any_polygon, visits_below, visits_from, Walkable}
use Rattle.walks.proofs.WalkRows.{RowWalkable}
use Rattle.walks.proofs.FoldRows.{fold_row, row_fold, fold_first}
use Rattle.nearest.specs.Near.{MetBy, nearest_among}
use Rattle.nearest.specs.Below.{walk_from, walk_below}

module _ (c : Cell) where
  -- a row of children by their parts, from what was met so far
  abbrev pub walk_row : ℕ → List ℕ → ℕ → ℕ → List ℕ → MetBy c → MetBy c
  walk_row n m lo hi ks u = fold_row n (to_branch index_space c n) m lo hi ks u

  -- the child at part j
  unfoldable pub child_walk : ℕ → List ℕ → ℕ → ℕ → MetBy c → MetBy c
  child_walk n m lo j u = cond (enters index_space c (polygon_in (part m j)) u.best) (walk_below c n m lo j u) u

  pub row_walk : (n : ℕ) (m : List ℕ) (lo hi j : ℕ) (ks : List ℕ) (u : MetBy c) → RowWalkable n m lo hi (j ∷ ks)
      → walk_row n m lo hi (j ∷ ks) u ≡ walk_row n m (j + 1) hi ks (child_walk n m lo j u)
  unfolding child_walk walk_below walk_from
  row_walk n m lo hi j ks u v =
      let r = fold_first n (to_branch index_space c n) m lo hi j ks v in
      let e : to_branch index_space c n u r.child ≡ child_walk n m lo j u = rw (r.reads, ← r.polygon) in
      r.folds u ∙ ap (walk_row n m (j + 1) hi ks) e

  pub child_passed : (n : ℕ) (m : List ℕ) (lo j : ℕ) (u : MetBy c) → enters index_space c (polygon_in (part m j)) u.best ≡ false → child_walk n m lo j u ≡ u
  unfolding child_walk
  child_passed n m lo j u h = rw h

  pub child_entered : (n : ℕ) (m : List ℕ) (lo j : ℕ) (u : MetBy c) → enters index_space c (polygon_in (part m j)) u.best ≡ true → child_walk n m lo j u ≡ walk_below c n m lo j u
  unfolding child_walk
  child_entered n m lo j u h = rw h

  -- a leaf
  pub leaf_walk : (m : List ℕ) (lo k : ℕ) (u : MetBy c) → Walkable 0 m lo k
      → walk_below c 0 m lo k u ≡ record { best = nearest_among c u.best (entries_in (part m k) (item_count (part m k))); entered = suc u.entered }
  unfolding walk_below walk_from walk_node
  leaf_walk m lo k u x =
      let p = leaf_parts fanout m lo k x.node x.reads in
      rw (x.reads, p.entries)

  -- a routing node
  pub node_walk : (n : ℕ) (m : List ℕ) (lo k : ℕ) (u : MetBy c) → Walkable (suc n) m lo k
      → walk_below c (suc n) m lo k u ≡ walk_row n m lo k (children_in (part m k)) (enter index_space c u)
  unfolding walk_below walk_from walk_node fold_row row_fold
  node_walk n m lo k u x =
      let p = node_parts_lem fanout n m lo k x.node x.reads in
      rw (x.reads, p.row)

  -- the walk enters at most all nodes
  entered_few : (n : ℕ) (u : MetBy c) (items : List (Item index_space n))
      → (walk_node index_space c n u items).entered ≤ u.entered + node_walk_visits index_space any_polygon n items
  entered_few n u items =
      let a = below_few index_space c n items u in
      let b = walk_every index_space any_polygon (λ p. unfold any_polygon in refl) n items in
      omega arith

  pub walk_bound : (n : ℕ) (m : List ℕ) (lo k : ℕ) (u : MetBy c) → Walkable n m lo k → (walk_below c n m lo k u).entered ≤ u.entered + visits_below any_polygon n m lo k
  unfolding walk_below walk_from visits_below visits_from
  walk_bound n m lo k u x = rw x.reads (entered_few n u x.node.child)
