-- Removal takes out the entries of that cell and nothing else, and keeps a node sound.
use Prim.Native.Nat.{ℕ, zero, suc, ◌≤◌}
use mathlib.Core.Bool.{Bool, true, false, not}
use mathlib.Core.Path.{◌≡◌, refl, ap, ◌∙◌, subst}
use mathlib.Core.List.{List, [], ◌∷◌, flat_map}
use lib.ListN.{length}
use native.Mathlib.Omega.{arith}
use Rattle.polygons.proofs.Booleans.{is_false, not_both}
use Rattle.polygons.proofs.ListLaws.{length_flat_map}
use Rattle.tree.specs.Lists.{keep, All}
use Rattle.tree.specs.Space.{Space}
use Rattle.tree.specs.Nodes.{EntryOf, Item, held, item_has}
use Rattle.tree.specs.Sound.{SoundItem, SoundItems}
use Rattle.tree.specs.Split.{branch_if}
use Rattle.tree.specs.Remove.{prune, other, without}
use Rattle.tree.proofs.Lists.{flat_map_all, all_map}
use Rattle.tree.proofs.Laws.{Laws}
use Rattle.tree.proofs.Once.{held_inside}
use Rattle.tree.proofs.Prune.{prune_one, held_prunes, row_prune}

module _ (S : Space) (W : Laws S) where
  -- what is left of a sound node is sound
  pub remove_row : (n : ℕ) (c : S.Cell) (p : S.Poly) (l : List (Item S n)) → SoundItems S n p l → SoundItems S n p (without S n c l)
  remove_row n c p l r = row_prune S (other S c) (λ p. p) W (λ d. Unit {0}) (λ p d h. h) (λ p d h. tt) (λ p d h k. h) (λ p d f h. f) (λ e h. tt) n p l r

  -- not more items
  pub remove_count : (n : ℕ) (c : S.Cell) (l : List (Item S n)) → length (without S n c l) ≤ length l
  remove_count n c l = length_flat_map (prune S n (other S c) (λ p. p)) l (prune_one S (other S c) (λ p. p) n)

  -- the entries of other cells, in order
  pub remove_held : (n : ℕ) (c : S.Cell) (l : List (Item S n)) → flat_map (held S n) (without S n c l) ≡ keep (other S c) (flat_map (held S n) l)
  remove_held n c l = held_prunes S (other S c) (λ p. p) n l

  -- what has no such entry stays as it is: the code goes down one path
  stays : (n : ℕ) (p : S.Poly) (f : Item S n → List (Item S n)) (P : Item S n → Type 0) (l : List (Item S n)) → ((x : Item S n) → SoundItem S n p x → P x → f x ≡ x ∷ []) → All (SoundItem S n p) l → All P l → flat_map f l ≡ l
  unfolding flat_map All
  stays n p f P [] g h k = refl
  stays n p f P (x ∷ l) g h k = rw (g x h.0 k.0, stays n p f P l g h.1 k.1)

  if_not_empty : {A : Type 0} (p : S.Poly) (l : List A) → 1 ≤ length l → branch_if S p l ≡ record { poly = p; child = l } ∷ []
  if_not_empty p [] h = absurd (omega arith)
  if_not_empty p (x ∷ l) h = refl

  pub prune_stays : (n : ℕ) (t : EntryOf S → Bool) (p : S.Poly) (x : Item S n) → SoundItem S n p x → All (λ e. t e ≡ true) (held S n x) → prune S n t (λ r. r) x ≡ x ∷ []
  unfolding prune held All SoundItem
  prune_stays zero t p e o h = rw h.0
  prune_stays (suc n) t p b o h =
      ap (branch_if S b.poly) (stays n b.poly (prune S n t (λ r. r)) (λ x. All (λ e. t e ≡ true) (held S n x)) b.child (prune_stays n t b.poly) o.each (flat_map_all (λ e. t e ≡ true) (held S n) b.child h))
      ∙ if_not_empty b.poly b.child o.count.0

  -- a branch whose polygon lacks the cell stays as it is
  pub prune_elsewhere : (n : ℕ) (c : S.Cell) (p : S.Poly) (b : Item S (suc n)) → SoundItem S (suc n) p b → S.has b.poly c ≡ false → prune S (suc n) (other S c) (λ r. r) b ≡ b ∷ []
  prune_elsewhere n c p b h k =
      prune_stays (suc n) (other S c) p b h
      (all_map (λ e. item_has S (suc n) b e.cell ≡ true) (λ e. other S c e ≡ true) (held S (suc n) b)
      (λ e i. ap not (is_false (S.same e.cell c) (λ s. not_both (S.has b.poly c) (subst (λ (d : S.Cell). S.has b.poly d ≡ true) (W.same_is e.cell c s) (unfold item_has in i)) k))) (held_inside S W (suc n) p b h))
