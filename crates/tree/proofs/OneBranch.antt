-- A walk by a test that at most one branch of a node passes goes into that branch alone. So the walk of a point query
-- is one path: siblings share no cell.
use Prim.Native.Nat.{ℕ, suc, ◌+◌, ◌<◌}
use mathlib.Core.Bool.{Bool, true, false, cond}
use mathlib.Core.Path.{◌≡◌}
use mathlib.Core.List.{List, []}
use native.Mathlib.Omega.{arith}
use lib.ListN.{length, get_or}
use Rattle.polygons.proofs.Booleans.{is_false}
use Rattle.tree.specs.Lists.{All, Pairs}
use Rattle.tree.specs.Space.{Space}
use Rattle.tree.specs.Nodes.{EntryOf, Item, item_has}
use Rattle.tree.specs.Sound.{Apart, SoundItem}
use Rattle.tree.specs.Walk.{node_walk_visits, node_walk_entries}
use Rattle.tree.proofs.Lists.{all_map, pairs_map}
use Rattle.tree.proofs.Counts.{total_none, flat_map_none, total_only, flat_map_only}

module _ (S : Space) (c : S.Cell) (u : EntryOf S → Bool) (n : ℕ) (p : S.Poly) (b : Item S (suc (suc n)))
    (h : SoundItem S (suc (suc n)) p b) where
  -- the test of the point query's walk
  abbrev has : S.Poly → Bool
  has q = S.has q c

  one_has : Pairs (λ x y. has x.poly ≡ true → has y.poly ≡ false) b.child
  unfolding SoundItem item_has
  one_has = pairs_map (Apart S (suc n)) (λ x y. has x.poly ≡ true → has y.poly ≡ false) b.child
      (λ x y r e. is_false (has y.poly) (r c e)) h.apart

  -- the i-th branch has the cell
  module _ (i : ℕ) (d : Item S (suc n)) (k : i < length b.child) (e : has (get_or b.child i d).poly ≡ true) where
    pub visits_one : node_walk_visits S has (suc n) b.child ≡ 1 + node_walk_visits S has n (get_or b.child i d).child
    unfolding node_walk_visits
    visits_one = let z = total_only (λ x. has x.poly) (λ x. node_walk_visits S has n x.child) b.child
        i d one_has k e in omega arith

    pub entries_one : node_walk_entries S has u (suc n) b.child
        ≡ node_walk_entries S has u n (get_or b.child i d).child
    unfolding node_walk_entries
    entries_one = flat_map_only (λ x. has x.poly) (λ x. node_walk_entries S has u n x.child) b.child
        i d one_has k e

-- No branch passes the test: the walk ends at the node.
module _ (S : Space) (t : S.Poly → Bool) (u : EntryOf S → Bool) (n : ℕ) (bs : List (Item S (suc n)))
    (h : All (λ b. t b.poly ≡ false) bs) where
  pub visits_none : node_walk_visits S t (suc n) bs ≡ 1
  unfolding node_walk_visits
  visits_none =
      let z = total_none (λ b. cond (t b.poly) (node_walk_visits S t n b.child) 0) bs
      (all_map (λ b. t b.poly ≡ false) (λ b. cond (t b.poly) (node_walk_visits S t n b.child) 0 ≡ 0) bs
      (λ b e. rw e) h) in
      omega arith

  pub entries_none : node_walk_entries S t u (suc n) bs ≡ []
  unfolding node_walk_entries
  entries_none =
      flat_map_none (λ b. cond (t b.poly) (node_walk_entries S t u n b.child) []) bs
      (all_map (λ b. t b.poly ≡ false) (λ b. cond (t b.poly) (node_walk_entries S t u n b.child) [] ≡ []) bs
      (λ b e. rw e) h)
