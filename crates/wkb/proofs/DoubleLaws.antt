-- The double of a whole number: no NaN, exact, eight bytes; read back, they are the number.
use Prim.Native.Nat.{ℕ, ◌^◌, ◌≤◌, ◌<◌}
use mathlib.Core.Path.{◌≡◌, sym, ap, subst, ◌∙◌}
use mathlib.Core.Bool.{false, not}
use native.Mathlib.Omega.{arith}
use lib.Dec.{T}
use lib.IntN.{pos}
use lib.ListN.{length}
use lib.Ieee.{Float, nan, inf, fin, binary64, of_int, of_bits, to_bits, is_nan}
use lib.Ieee.Back.{round_whole}
use lib.Ieee.Bits.{of_bits-to_bits, to_bits-lt}
use lib.Ieee.Exact.{HasValue}
use lib.Ieee.Fits.{of_int-fits}
use Rattle.wkb.specs.Bytes.{little_value}
use Rattle.wkb.specs.Doubles.{double_of, double_bytes, ReadAs}
use Rattle.wkb.proofs.ByteLaws.{length_little, little_whole}

-- 'the exact whole numbers': up to 2 ^ 53 the double's value is the number
pub double_exact : (n : ℕ) → n ≤ 2 ^ 53 → HasValue (double_of n) false n 1
unfolding of_int
double_exact n h = round_whole binary64 false n h

-- what has a value is no NaN
value_no_nan : (x : Float) (n : ℕ) → HasValue x false n 1 → T (not (is_nan x))
unfolding is_nan
value_no_nan nan n h = absurd h
value_no_nan (inf s) n h = tt
value_no_nan (fin s m e) n h = tt

pub double_no_nan : (n : ℕ) → n < 2 ^ 32 → T (not (is_nan (double_of n)))
double_no_nan n h = value_no_nan (double_of n) n (double_exact n (omega arith))

-- eight bytes
pub length_double : (n : ℕ) → length (double_bytes n) ≡ 8
unfolding double_bytes
length_double n = length_little 8 _

-- read back as a double, they are the same double
pub double_back : (n : ℕ) → of_bits binary64 (little_value (double_bytes n)) ≡ double_of n
unfolding double_bytes
double_back n =
    let f = of_int-fits binary64 (pos n) in
    let b : to_bits binary64 (double_of n) < 256 ^ 8 = to_bits-lt binary64 (double_of n) f in
    ap (of_bits binary64) (little_whole 8 _ b) ∙ of_bits-to_bits binary64 (double_of n) f

-- so each double read back is the number
pub double_read : (n : ℕ) → n ≤ 2 ^ 53 → ReadAs (double_bytes n) n
double_read n h = subst (λ (x : Float). HasValue x false n 1) (sym (double_back n)) (double_exact n h)
