-- The walk below a node, child by child.
use Prim.Native.Nat.{ℕ, suc, ◌+◌, ◌≤◌}
use mathlib.Core.Path.{◌≡◌, refl, sym, ap, ◌∙◌}
use mathlib.Core.Bool.{Bool, true, false, cond}
use mathlib.Core.List.{List, ◌∷◌}
use mathlib.Core.Option.{Option, none, some}
use Rattle.geometry.specs.declared.rect.Rect.{Rect}
use Rattle.tree.specs.Lists.{not_empty}
use Rattle.tree.specs.Nodes.{Item}
use Rattle.tree.specs.Query.{matching}
use Rattle.tree.specs.Emptiness.{ToMatch, node_to_match}
use Rattle.tree.proofs.Any.{kept_any}
use Rattle.tree.proofs.Emptiness.{to_branch, stays_found, few_below}
use Rattle.plane.specs.Fanout.{fanout, index_space, index_window}
use Rattle.memory.specs.Layout.{part, polygon_in, children_in}
use Rattle.memory.specs.Reading.{read_row, read_node}
use Rattle.memory.proofs.ReadingLaws.{leaf_parts, node_parts_lem}
use Rattle.walks.specs.Walks.{meets_test, inside_test, visits_below, visits_from, leaf_entries, Walkable}
use Rattle.walks.proofs.WalkRows.{RowWalkable}
use Rattle.walks.proofs.FoldRows.{fold_row, row_fold, fold_first}
use Rattle.emptiness.specs.Below.{to_match_from, to_match_below}

module _ (w : Rect) where
  -- a row of children by their parts, from how far the walk has come
  abbrev pub to_match_row : ℕ → List ℕ → ℕ → ℕ → List ℕ → ToMatch → ToMatch
  to_match_row n m lo hi ks u = fold_row n (to_branch index_space index_window w n) m lo hi ks u

  -- the child at part j
  unfoldable pub child_to_match : ℕ → List ℕ → ℕ → ℕ → ToMatch → ToMatch
  child_to_match n m lo j u =
      cond u.found u (cond (meets_test w (polygon_in (part m j))) (to_match_below w n m lo j u.entered) u)

  pub row_walk : (n : ℕ) (m : List ℕ) (lo hi j : ℕ) (ks : List ℕ) (u : ToMatch) → RowWalkable n m lo hi (j ∷ ks)
      → to_match_row n m lo hi (j ∷ ks) u ≡ to_match_row n m (j + 1) hi ks (child_to_match n m lo j u)
  unfolding child_to_match to_match_below to_match_from meets_test
  row_walk n m lo hi j ks u v =
      let r = fold_first n (to_branch index_space index_window w n) m lo hi j ks v in
      let e : to_branch index_space index_window w n u r.child ≡ child_to_match n m lo j u
      = rw (r.reads, ← r.polygon) in
      r.folds u ∙ ap (to_match_row n m (j + 1) hi ks) e

  -- where a match was met, nothing more is entered
  pub row_found : (n : ℕ) (m : List ℕ) (lo hi : ℕ) (ks : List ℕ) (u : ToMatch) → u.found ≡ true
      → to_match_row n m lo hi ks u ≡ u
  unfolding fold_row row_fold
  row_found n m lo hi ks u h = go (read_row (read_node fanout n m) lo hi ks)
    where
      go : (o : Option (List (Item index_space (suc n))))
          → row_fold n (to_branch index_space index_window w n) u o ≡ u
      go none = refl
      go (some bs) = stays_found index_space index_window w n u bs h

  pub child_passed : (n : ℕ) (m : List ℕ) (lo j v : ℕ) → meets_test w (polygon_in (part m j)) ≡ false
      → child_to_match n m lo j (record { found = false; entered = v }) ≡ record { found = false; entered = v }
  unfolding child_to_match
  child_passed n m lo j v h = rw h

  pub child_entered : (n : ℕ) (m : List ℕ) (lo j v : ℕ) → meets_test w (polygon_in (part m j)) ≡ true
      → child_to_match n m lo j (record { found = false; entered = v }) ≡ to_match_below w n m lo j v
  unfolding child_to_match
  child_entered n m lo j v h = rw h

  -- a leaf
  pub leaf_walk : (m : List ℕ) (lo k v : ℕ) → Walkable 0 m lo k
      → to_match_below w 0 m lo k v ≡ record { found = not_empty (leaf_entries (inside_test w) (part m k)); entered = suc v }
  unfolding to_match_below to_match_from node_to_match leaf_entries inside_test
  leaf_walk m lo k v x =
      let p = leaf_parts fanout m lo k x.node x.reads in
      let k = kept_any (matching index_space index_window w) _ in
      rw (x.reads, p.entries) (ap (λ (b : Bool). record { found = b; entered = suc v }) (sym k))

  -- a routing node
  pub node_walk : (n : ℕ) (m : List ℕ) (lo k v : ℕ) → Walkable (suc n) m lo k
      → to_match_below w (suc n) m lo k v
      ≡ to_match_row n m lo k (children_in (part m k)) (record { found = false; entered = suc v })
  unfolding to_match_below to_match_from node_to_match fold_row row_fold
  node_walk n m lo k v x =
      let p = node_parts_lem fanout n m lo k x.node x.reads in
      rw (x.reads, p.row)

  -- it enters at most what the window query's walk enters
  pub walk_bound : (n : ℕ) (m : List ℕ) (lo k v : ℕ) → Walkable n m lo k
      → (to_match_below w n m lo k v).entered ≤ v + visits_below (meets_test w) n m lo k
  unfolding to_match_below to_match_from visits_below visits_from meets_test
  walk_bound n m lo k v x = rw x.reads (few_below index_space index_window w n v x.node.child)
