-- Lists by their elements: one taken out, zeros.
use Prim.Native.Nat.{ℕ, suc, ◌+◌, ◌-◌, ◌≤◌, ◌<◌}
use mathlib.Core.Path.{◌≡◌, refl, ap, ◌∙◌}
use mathlib.Core.Bool.{true}
use mathlib.Core.List.{List, [], ◌∷◌}
use native.Mathlib.Omega.{arith}
use borrow.Author.Tests.{eq-eqb}
use lib.ListN.{length, get_or, take, drop, length-append, length-take, length-drop, get_or-append}
use lib.Seq.{length-take-le, get_or-append-add, get_or-take, get_or-drop}
use Rattle.polygons.proofs.Booleans.{both}
use Rattle.memory.specs.Layout.{all_zero}
use Rattle.layout.specs.Gap.{without_at}

-- a list whose numbers are all zero
pub zeros_of : (l : List ℕ) → ((x : ℕ) → x < length l → get_or l x 0 ≡ 0) → all_zero l ≡ true
unfolding all_zero
zeros_of [] f = refl
zeros_of (a ∷ l) f = both _ _ (eq-eqb a 0 (f 0 (omega arith))) (zeros_of l (λ x h. f (suc x) (omega arith)))

module _ {A : Type 0} (i : ℕ) (l : List A) (h : i < length l) where
  pub length_without : length (without_at i l) ≡ length l - 1
  length_without = simp (length-append, length-take, length-drop) (omega arith)

  -- an element before the one taken out
  pub without_before : (x : ℕ) (d : A) → x < i → get_or (without_at i l) x d ≡ get_or l x d
  without_before x d k =
      let e = length-take-le i l (omega arith) in
      let s : x < length (take i l) = omega arith in
      get_or-append (take i l) (drop (i + 1) l) d x s ∙ get_or-take i l x d k

  -- an element behind it
  pub without_behind : (x : ℕ) (d : A) → i ≤ x → get_or (without_at i l) x d ≡ get_or l (x + 1) d
  without_behind x d k =
      let e = length-take-le i l (omega arith) in
      let s : x ≡ length (take i l) + (x - i) = omega arith in
      let t : i + 1 + (x - i) ≡ x + 1 = omega arith in
      ap (λ (j : ℕ). get_or (without_at i l) j d) s
      ∙ get_or-append-add (take i l) (drop (i + 1) l) (x - i) d
      ∙ get_or-drop (i + 1) l (x - i) d
      ∙ ap (λ (j : ℕ). get_or l j d) t
