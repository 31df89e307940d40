-- Lists whose bits are all clear.
use Prim.Native.Nat.{ℕ}
use mathlib.Core.Path.{◌≡◌, sym, ap, ◌∙◌}
use mathlib.Core.Bool.{Bool, ◌&&◌, and-true, and_assoc}
use mathlib.Core.List.{List, [], ◌∷◌}
use native.Mathlib.Omega.{arith}
use borrow.Author.Tests.{eqb-true, eq-eqb}
use lib.Bits.{bit_or, or_add_and, and_le_l, and_le_r, or_zero_l}
use lib.Dec.{eqb}
use Rattle.polygons.proofs.Booleans.{same, both, split_and}
use Rattle.std.specs.List.{fold}
use Rattle.memory.specs.Layout.{all_zero}

-- one of two numbers has a bit exactly if one of them is not zero
or_zero : (a b : ℕ) → bit_or a b ≡ 0 → (a ≡ 0) × (b ≡ 0)
or_zero a b e =
    let s = or_add_and a b in
    let l = and_le_l a b in
    let r = and_le_r a b in
    (omega arith, omega arith)

zero_both : (a b : ℕ) → eqb (bit_or a b) 0 ≡ eqb a 0 && eqb b 0
zero_both a b = same _ _
    (λ t. let z = or_zero a b (eqb-true _ _ t) in both _ _ (eq-eqb a 0 z.0) (eq-eqb b 0 z.1))
    (λ t. let z = split_and (eqb a 0) (eqb b 0) t in eq-eqb _ 0 (ap (λ x. bit_or x b) (eqb-true a 0 z.0) ∙ or_zero_l b ∙ eqb-true b 0 z.1))

-- no bit is set in any of some numbers, nor in a
pub zero_fold : (a : ℕ) (l : List ℕ) → eqb (fold bit_or a l) 0 ≡ eqb a 0 && all_zero l
unfolding all_zero
zero_fold a [] = sym (and-true (eqb a 0))
zero_fold a (b ∷ l) =
    zero_fold (bit_or a b) l ∙ ap (λ (t : Bool). t && all_zero l) (zero_both a b) ∙ and_assoc (eqb a 0) (eqb b 0) (all_zero l)
