-- What removal leaves of a node: the ways in which a node is left, and in which it is gone.
use Prim.Native.Nat.{ℕ, suc, ◌+◌, ◌≤◌}
use mathlib.Core.Path.{◌≡◌, refl, sym, ap, ◌∙◌}
use mathlib.Core.Bool.{true, false}
use mathlib.Core.List.{List, [], ◌∷◌, head?}
use mathlib.Core.Option.{some}
use native.Mathlib.Omega.{arith}
use lib.ListN.{length}
use Rattle.geometry.specs.declared.rect.Cell.{Cell}
use Rattle.tree.specs.Lists.{total}
use Rattle.tree.specs.Nodes.{Item, nodes}
use Rattle.tree.specs.Split.{branch_if}
use Rattle.tree.specs.Remove.{prune, without}
use Rattle.plane.specs.Fanout.{fanout, index_space}
use Rattle.memory.specs.Layout.{parts_of, part, in_use, bits_set, others_zero, item_count, node_fits}
use Rattle.memory.specs.Reading.{read_node}
use Rattle.memory.proofs.ReadingLaws.{fits_as, of_fits}
use Rattle.layout.specs.Beside.{Beside}
use Rattle.layout.specs.Gap.{ItemDropped}
use Rattle.removal.specs.Below.{node_remaining, RemovedBelow}

branch_if_lem : (n : ℕ) (b : Item index_space (suc n)) (l : List (Item index_space n)) → 1 ≤ length l
    → branch_if index_space b.poly l ≡ record { poly = b.poly; child = l } ∷ []
branch_if_lem n b [] h = absurd (omega arith)
branch_if_lem n b (x ∷ l) h = refl

module _ (n : ℕ) (m : List ℕ) (lo k : ℕ) (c : Cell) (m' : List ℕ) (b : Item index_space (suc n)) (before : read_node fanout n m lo k ≡ some b)
    (unused : others_zero m' (parts_of m') ≡ true) (beside : Beside m lo k m') where
  -- the node is left with the items l
  pub removed_remaining : (l : List (Item index_space n)) → without index_space n c b.child ≡ l → 1 ≤ length l
      → read_node fanout n m' lo k ≡ some (record { poly = b.poly; child = l })
      → bits_set m' + total (nodes index_space n) b.child ≡ bits_set m + total (nodes index_space n) l
      → RemovedBelow n m lo k c m' true
  unfolding prune nodes total
  removed_remaining l w h r t =
      let e : node_remaining n c b ≡ record { poly = b.poly; child = l } ∷ [] = ap (branch_if index_space b.poly) w ∙ branch_if_lem n b l h in
      record {
        node = b;
        before = before;
        remaining_is = rw e;
        after = λ d q. r ∙ ap head? (sym e ∙ q);
        bits = rw e (omega arith);
        unused = unused;
        beside = beside;
      }

  -- nothing is left of the node
  pub removed_gone : without index_space n c b.child ≡ [] → bits_set m' + (1 + total (nodes index_space n) b.child) ≡ bits_set m
      → RemovedBelow n m lo k c m' false
  unfolding prune nodes total
  removed_gone w t =
      let e : node_remaining n c b ≡ [] = ap (branch_if index_space b.poly) w in
      record {
        node = b;
        before = before;
        remaining_is = rw e;
        after = λ d q. let z : ◌≡◌ {A = ℕ} 0 1 = (let u : ◌≡◌ {A = List (Item index_space (suc n))} [] (d ∷ []) = sym e ∙ q in cc) in absurd (omega arith);
        bits = rw e (omega arith);
        unused = unused;
        beside = beside;
      }

-- a node's part that fits and lost one of several items still fits
pub fits_dropped : (w : ℕ) (m : List ℕ) (k : ℕ) (m₁ m' : List ℕ) (p : List ℕ) → node_fits fanout w m k ≡ true → length m' ≡ length m → part m₁ k ≡ part m k
    → in_use m' k ≡ true → part m' k ≡ p → ItemDropped w (part m₁ k) p → 2 ≤ item_count (part m₁ k) → node_fits fanout w m' k ≡ true
fits_dropped w m k m₁ m' p f l s u e d t =
    let a = fits_as fanout w m k f in
    let g = rw s at d in
    let h = rw s at t in
    let r = g.rects in
    let c = g.count in
    let x = a.some_rects in
    let y = a.few_rects in
    let z = a.few_items in
    of_fits fanout w m' k (record {
      below = rw l a.below;
      used = u;
      some_rects = rw e (omega arith);
      few_rects = rw e (omega arith);
      some_items = rw e (omega arith);
      few_items = rw e (omega arith);
      rest = rw e (g.rest a.rest);
    })

-- a node's part that is as it was fits as it did
pub fits_kept : (w : ℕ) (m : List ℕ) (k : ℕ) (m' : List ℕ) → node_fits fanout w m k ≡ true → length m' ≡ length m → part m' k ≡ part m k → in_use m' k ≡ in_use m k
    → node_fits fanout w m' k ≡ true
unfolding node_fits
fits_kept w m k m' f l p u = rw (p, u, l) f
