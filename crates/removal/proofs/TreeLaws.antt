-- Removal goes down one path: one item of a node changes, the others stay.
use Prim.Native.Nat.{ℕ, zero, suc, ◌+◌, ◌<◌}
use mathlib.Core.Path.{◌≡◌, refl, sym, ap, ◌∙◌, subst}
use mathlib.Core.Bool.{Bool, true, false, ◌||◌}
use mathlib.Core.List.{List, [], ◌∷◌, ◌++◌, flat_map}
use native.Mathlib.Omega.{arith}
use native.Mathlib.Decide.{dec_lt}
use native.Mathlib.Numerals.{add-one}
use lib.ListN.{length, get_or, take, drop}
use Rattle.polygons.specs.Lists.{any}
use Rattle.polygons.proofs.Booleans.{is_false, not_both}
use Rattle.polygons.proofs.ListLaws.{any_append}
use Rattle.tree.specs.Lists.{All, Pairs, total}
use Rattle.tree.specs.Space.{Space}
use Rattle.tree.specs.Nodes.{Item, held, item_has}
use Rattle.tree.specs.Sound.{SoundItem, Apart}
use Rattle.tree.specs.Query.{of_cell}
use Rattle.tree.specs.Remove.{prune, other, without}
use Rattle.tree.proofs.Lists.{all_map, all_both_map, all_at, pairs_map, flat_map_single}
use Rattle.tree.proofs.Laws.{Laws}
use Rattle.tree.proofs.Any.{any_from}
use Rattle.tree.proofs.Once.{held_inside}
use Rattle.tree.proofs.Remove.{prune_elsewhere}

module _ {A : Type 0} where
  one_changes' : (f : A → List A) (t : A → Bool) (l : List A) (i : ℕ) (d : A) → i < length l → t (get_or l i d) ≡ true
      → All (λ a. t a ≡ false → f a ≡ a ∷ []) l → Pairs (λ a b. t a ≡ true → t b ≡ true → ⊥) l
      → flat_map f l ≡ take i l ++ (f (get_or l i d) ++ drop (suc i) l)
  unfolding All Pairs flat_map
  one_changes' f t [] i d h e s p = absurd (omega arith)
  one_changes' f t (a ∷ l) zero d h e s p =
      ap (λ r. f a ++ r)
      (flat_map_single f l (all_both_map (λ b. t b ≡ false → f b ≡ b ∷ []) (λ b. t a ≡ true → t b ≡ true → ⊥) (λ b. f b ≡ b ∷ []) l (λ b u v. u (is_false (t b) (v e))) s.1 p.0))
  one_changes' f t (a ∷ l) (suc i) d h e s p =
      let g : f a ≡ a ∷ [] = s.0 (is_false (t a) (λ u. all_at (λ b. t a ≡ true → t b ≡ true → ⊥) l i d (omega arith) p.0 u e)) in
      rw g (ap (λ r. a ∷ r) (one_changes' f t l i d (omega arith) e s.1 p.1))

  -- where f keeps the elements that do not pass, and the i-th alone passes, only it changes
  one_changes : (f : A → List A) (t : A → Bool) (l : List A) (i : ℕ) (d : A) → i < length l → t (get_or l i d) ≡ true
      → All (λ a. t a ≡ false → f a ≡ a ∷ []) l → Pairs (λ a b. t a ≡ true → t b ≡ true → ⊥) l
      → flat_map f l ≡ take i l ++ (f (get_or l i d) ++ drop (i + 1) l)
  one_changes f t l i d h e s p = rw add-one (one_changes' f t l i d h e s p)

  total_at' : (f : A → ℕ) (l : List A) (i : ℕ) (d : A) → i < length l → total f l ≡ total f (take i l) + (f (get_or l i d) + total f (drop (suc i) l))
  unfolding total
  total_at' f [] i d h = absurd (omega arith)
  total_at' f (a ∷ l) zero d h = omega arith
  total_at' f (a ∷ l) (suc i) d h = let ih = total_at' f l i d (omega arith) in omega arith

  -- a sum by what comes before and behind the i-th element
  pub total_at : (f : A → ℕ) (l : List A) (i : ℕ) (d : A) → i < length l → total f l ≡ total f (take i l) + (f (get_or l i d) + total f (drop (i + 1) l))
  total_at f l i d h = rw add-one (total_at' f l i d h)

module _ (S : Space) (W : Laws S) where
  -- an item without the cell stays
  item_stays : (n : ℕ) (c : S.Cell) (p : S.Poly) (x : Item S n) → SoundItem S n p x → item_has S n x c ≡ false → prune S n (other S c) (λ r. r) x ≡ x ∷ []
  unfolding prune item_has
  item_stays zero c p e s h = rw h
  item_stays (suc n) c p b s h = prune_elsewhere S W n c p b s h

  -- of a node's items only the one with the cell changes
  pub without_at_lem : (n : ℕ) (c : S.Cell) (p : S.Poly) (l : List (Item S n)) (i : ℕ) (d : Item S n) → All (SoundItem S n p) l → Pairs (Apart S n) l → i < length l
      → item_has S n (get_or l i d) c ≡ true → without S n c l ≡ take i l ++ (prune S n (other S c) (λ r. r) (get_or l i d) ++ drop (i + 1) l)
  without_at_lem n c p l i d s a h e =
      one_changes (prune S n (other S c) (λ r. r)) (λ x. item_has S n x c) l i d h e
      (all_map (SoundItem S n p) (λ x. item_has S n x c ≡ false → prune S n (other S c) (λ r. r) x ≡ x ∷ []) l (item_stays n c p) s)
      (pairs_cell l a)
    where
      pairs_cell : (l : List (Item S n)) → Pairs (Apart S n) l → Pairs (λ x y. item_has S n x c ≡ true → item_has S n y c ≡ true → ⊥) l
      pairs_cell l a = pairs_map (Apart S n) (λ x y. item_has S n x c ≡ true → item_has S n y c ≡ true → ⊥) l (λ x y k. k c) a

  -- an item that holds the cell has it
  pub holder_has : (n : ℕ) (c : S.Cell) (p : S.Poly) (x : Item S n) → SoundItem S n p x → any (of_cell S c) (held S n x) ≡ true → item_has S n x c ≡ true
  holder_has n c p x s h =
      any_from (of_cell S c) (item_has S n x c ≡ true) (held S n x)
      (all_map (λ e. item_has S n x e.cell ≡ true) (λ e. of_cell S c e ≡ true → item_has S n x c ≡ true) (held S n x)
      (λ e k u. subst (λ (d : S.Cell). item_has S n x d ≡ true) (W.same_is e.cell c u) k) (held_inside S W n p x s))
      h

  -- A node's item that has the cell.
  pub record Holder (n : ℕ) (c : S.Cell) (l : List (Item S n)) (d : Item S n) : Type 0 where
    pub at : ℕ
    pub inside : at < length l
    pub holds : any (of_cell S c) (held S n (get_or l at d)) ≡ true

  -- where a node holds the cell, one of its items does
  pub holder : (n : ℕ) (c : S.Cell) (l : List (Item S n)) (d : Item S n) → any (of_cell S c) (flat_map (held S n) l) ≡ true → Holder n c l d
  unfolding flat_map any
  holder n c [] d h = absurd (not_both false h refl)
  holder n c (x ∷ l) d h = go (any (of_cell S c) (held S n x)) refl (sym (any_append (of_cell S c) (held S n x) (flat_map (held S n) l)) ∙ h) (holder n c l d)
    where
      go : (b : Bool) → any (of_cell S c) (held S n x) ≡ b → any (of_cell S c) (held S n x) || any (of_cell S c) (flat_map (held S n) l) ≡ true
          → (any (of_cell S c) (flat_map (held S n) l) ≡ true → Holder n c l d) → Holder n c (x ∷ l) d
      go true e k ih = record { at = 0; inside = omega arith; holds = e }
      go false e k ih =
          let r = ih (rw e at k) in
          record { at = suc r.at; inside = let q = r.inside in omega arith; holds = r.holds }

  at_most_one : {A : Type 0} (P : A → A → Type 0) (l : List A) (i j : ℕ) (d : A) → i < j → j < length l → Pairs P l → P (get_or l i d) (get_or l j d)
  unfolding Pairs
  at_most_one P [] i j d h k p = absurd (omega arith)
  at_most_one P (a ∷ l) zero zero d h k p = absurd (omega arith)
  at_most_one P (a ∷ l) zero (suc j) d h k p = all_at (P a) l j d (omega arith) p.0
  at_most_one P (a ∷ l) (suc i) zero d h k p = absurd (omega arith)
  at_most_one P (a ∷ l) (suc i) (suc j) d h k p = at_most_one P l i j d (omega arith) (omega arith) p.1

  -- the item that has the cell is the one that holds it
  pub has_holds : (n : ℕ) (c : S.Cell) (p : S.Poly) (l : List (Item S n)) (i : ℕ) (d : Item S n) → All (SoundItem S n p) l → Pairs (Apart S n) l → i < length l
      → item_has S n (get_or l i d) c ≡ true → any (of_cell S c) (flat_map (held S n) l) ≡ true → any (of_cell S c) (held S n (get_or l i d)) ≡ true
  has_holds n c p l i d s a h e k = go (holder n c l d k)
    where
      same : (r : Holder n c l d) → Dec (r.at < i) → Dec (i < r.at) → any (of_cell S c) (held S n (get_or l i d)) ≡ true
      same r (yes u) v = absurd (at_most_one (Apart S n) l r.at i d u h a c (holder_has n c p (get_or l r.at d) (all_at (SoundItem S n p) l r.at d r.inside s) r.holds) e)
      same r (no u) (yes v) = absurd (at_most_one (Apart S n) l i r.at d v r.inside a c e (holder_has n c p (get_or l r.at d) (all_at (SoundItem S n p) l r.at d r.inside s) r.holds))
      same r (no u) (no v) = let q : r.at ≡ i = omega arith in rw q at r.holds

      go : Holder n c l d → any (of_cell S c) (held S n (get_or l i d)) ≡ true
      go r = same r (dec_lt r.at i) (dec_lt i r.at)
