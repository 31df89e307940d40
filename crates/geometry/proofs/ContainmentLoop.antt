-- What the containment test answers, from the place of the first rectangle that has the cell.
use Rattle.std.proofs.Common.{◌≡◌, ℕ, zero, suc, ◌+◌, Bool, true, false, not, cond, List, [], ◌∷◌, length, refl, sym, ◌∙◌, arith, Option, Some, None, MatchOption}
use borrow.Author.Tests.{lt-ltb, le-ltb}
use lib.Dec.{ltb}
use Rattle.std.specs.List.{position_or_len}
use Rattle.polygons.specs.Lists.{any, first_place, compared_by}
use Rattle.polygons.proofs.Booleans.{neither}
use Rattle.polygons.proofs.PlaceLaws.{place_some, compared_some, compared_none}
use Rattle.geometry.specs.declared.rect.Cell.{Cell}
use Rattle.geometry.specs.declared.rect.Rect.{Rect}
use Rattle.geometry.specs.declared.containment.Containment.{Containment}
use Rattle.geometry.specs.Cells.{has_cell, any_has}
use Rattle.geometry.specs.Containment.{compared, containment}

-- std's word for the first place
at_head : {A : Type 0} (t : A → Bool) (b : Bool) (l : List A) → position_or_len t l ≡ first_place t l → cond (not b) (1 + position_or_len t l) 0 ≡ cond b zero (suc (first_place t l))
at_head t true l e = refl
at_head t false l e = omega arith

position-place : {A : Type 0} (t : A → Bool) (l : List A) → position_or_len t l ≡ first_place t l
unfolding first_place
position-place t [] = refl
position-place t (a ∷ l) = at_head t (t a) l (position-place t l)

-- where none passes, it is behind the list
no_place : {A : Type 0} (t : A → Bool) (l : List A) → any t l ≡ false → first_place t l ≡ length l
unfolding any first_place
no_place t [] h = refl
no_place t (a ∷ l) h = let n = neither (t a) (any t l) h in rw (n.0, no_place t l n.1)

containment_is : (r : Containment) (a : Bool) (n : ℕ) → r.has ≡ a → r.compared ≡ n → r ≡ record { has = a; compared = n }
containment_is r a n e f = λ i. record { has = e i; compared = f i }

-- what std's `position` gives
abbrev pub place_of : List Rect → Cell → Option ℕ
place_of l c = cond (ltb (position_or_len (λ s. has_cell s c) l) (length l)) (Some (position_or_len (λ s. has_cell s c) l)) None

module _ (l : List Rect) (c : Cell) (r : Containment) where
  decided : (b : Bool) → any (λ s. has_cell s c) l ≡ b
      → MatchOption (place_of l c) ((r.has ≡ false) × (r.compared ≡ length l)) (λ i. (r.has ≡ true) × (r.compared ≡ i + 1))
      → (r.has ≡ b) × (r.compared ≡ compared_by (λ s. has_cell s c) l)
  decided true f h =
      let p = position-place (λ s. has_cell s c) l in
      let q = place_some (λ s. has_cell s c) l f in
      let k = compared_some (λ s. has_cell s c) l f in
      let m = (rw (p, lt-ltb _ _ q) at h) in
      (m.0, m.1 ∙ sym k)
  decided false f h =
      let p = position-place (λ s. has_cell s c) l in
      let q = no_place (λ s. has_cell s c) l f in
      let k = compared_none (λ s. has_cell s c) l f in
      let m = (rw (p, q, le-ltb (length l) (length l) (omega arith)) at h) in
      (m.0, m.1 ∙ sym k)

  -- the place of the first that has the cell, if one has it
  pub from_place : (place : Option ℕ) (n : ℕ) → place ≡ place_of l c → n ≡ length l
      → MatchOption place ((r.has ≡ false) × (r.compared ≡ n)) (λ i. (r.has ≡ true) × (r.compared ≡ i + 1)) → r ≡ containment l c
  unfolding containment any_has compared
  from_place place n e z h =
      let d = decided (any (λ s. has_cell s c) l) refl (rw (e, z) at h) in
      containment_is r _ _ d.0 d.1
