-- A half keeps the entries of its side, in order, and is sound; the halves of the two sides share no cell.
use Prim.Native.Nat.{ℕ, zero, suc, ◌≤◌}
use mathlib.Core.Bool.{Bool, true, false, not}
use mathlib.Core.Path.{◌≡◌, refl, ap}
use mathlib.Core.List.{List, flat_map}
use lib.ListN.{length}
use native.Mathlib.Omega.{arith}
use Rattle.tree.specs.Lists.{keep, All}
use Rattle.tree.specs.Space.{Space, Side, left, right}
use Rattle.tree.specs.Nodes.{Item, on, entry_on, item_has, held}
use Rattle.tree.specs.Sound.{Apart, SoundItems}
use Rattle.tree.specs.Split.{branch_if, half, half_items}
use Rattle.tree.specs.Remove.{prune}
use Rattle.tree.proofs.Laws.{Laws}
use Rattle.tree.proofs.Lists.{flat_map_same, all_map, Across}
use Rattle.tree.proofs.Prune.{prune_one, held_prune, prune_on, row_prune}

module _ (S : Space) where
  -- a half is an item pruned to the entries of its side, its polygons clipped
  half_is : (n : ℕ) (s : Side S.Line) (x : Item S n) → half S n s x ≡ prune S n (entry_on S s) (S.clip s) x
  unfolding half prune
  half_is zero s e = refl
  half_is (suc n) s b = ap (branch_if S (S.clip s b.poly)) (flat_map_same (half S n s) (prune S n (entry_on S s) (S.clip s)) b.child (half_is n s))

  -- at most one item
  pub half_one : (n : ℕ) (s : Side S.Line) (x : Item S n) → length (half S n s x) ≤ 1
  half_one n s x = rw (half_is n s x) (prune_one S (entry_on S s) (S.clip s) n x)

  -- its entries are those of the side, in order
  pub held_half : (n : ℕ) (s : Side S.Line) (x : Item S n) → flat_map (held S n) (half S n s x) ≡ keep (entry_on S s) (held S n x)
  held_half n s x = rw (half_is n s x) (held_prune S (entry_on S s) (S.clip s) n x)

  not_both : (b : Bool) → b ≡ true → not b ≡ true → ⊥
  not_both true h k = let z : ◌≡◌ {A = ℕ} 0 1 = cc in absurd (omega arith)
  not_both false h k = let z : ◌≡◌ {A = ℕ} 0 1 = cc in absurd (omega arith)

  module _ (W : Laws S) where
    half_on : (n : ℕ) (s : Side S.Line) (x : Item S n) → All (λ y. (c : S.Cell) → item_has S n y c ≡ true → on S s c ≡ true) (half S n s x)
    half_on n s x = rw (half_is n s x) (prune_on S (entry_on S s) (S.clip s) W (λ c. on S s c ≡ true) (W.clip_old s) (W.clip_on s) (W.clip_has s) (W.clip_fine s) (λ e h. h) n x)

    -- the two sides share no cell
    pub apart_sides : (n : ℕ) (l : S.Line) (x y : Item S n) → Across (Apart S n) (half S n (left l) x) (half S n (right l) y)
    apart_sides n l x y =
        all_map (λ a. (c : S.Cell) → item_has S n a c ≡ true → on S (left l) c ≡ true) (λ a. All (Apart S n a) (half S n (right l) y)) (half S n (left l) x)
        (λ a i. all_map (λ b. (c : S.Cell) → item_has S n b c ≡ true → on S (right l) c ≡ true) (Apart S n a) (half S n (right l) y) (λ b j c p q. not_both (S.below l c) (i c p) (j c q)) (half_on n (right l) y))
        (half_on n (left l) x)

    -- the half of a sound node is sound
    pub row_half : (n : ℕ) (s : Side S.Line) (p : S.Poly) (l : List (Item S n)) → SoundItems S n p l → SoundItems S n (S.clip s p) (half_items S n s l)
    row_half n s p l r =
        rw (flat_map_same (half S n s) (prune S n (entry_on S s) (S.clip s)) l (half_is n s))
        (row_prune S (entry_on S s) (S.clip s) W (λ c. on S s c ≡ true) (W.clip_old s) (W.clip_on s) (W.clip_has s) (W.clip_fine s) (λ e h. h) n p l r)
