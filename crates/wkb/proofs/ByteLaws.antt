-- A number's bytes and their value are inverse.
use Prim.Native.Nat.{ℕ, zero, suc, ◌+◌, ◌*◌, ◌^◌, ◌/◌, ◌%◌, ◌<◌}
use mathlib.Core.Path.{◌≡◌, refl, sym, ap, ap₂, ◌∙◌}
use mathlib.Core.Bool.{true}
use mathlib.Core.List.{List, [], ◌∷◌}
use native.Mathlib.Nat.{add_comm, mul_comm, mod-eq_of_lt, one-le-pow, pow-suc}
use native.Mathlib.Omega.{arith}
use lib.Arith.{mod-mul}
use borrow.Author.Tests.{ltb-true}
use lib.Dec.{ltb}
use lib.ListN.{length}
use lib.Pow.{are_bytes}
use Rattle.polygons.proofs.Booleans.{split_and}
use Rattle.wkb.specs.Bytes.{little_bytes, little_value}

-- k bytes
pub length_little : (k v : ℕ) → length (little_bytes k v) ≡ k
unfolding little_bytes
length_little zero v = refl
length_little (suc k) v = ap suc (length_little k (v / 256))

-- the value of k bytes of a number is the number, down to its k lowest bytes
pub little_value_lem : (k v : ℕ) → little_value (little_bytes k v) ≡ v % 256 ^ k
unfolding little_bytes little_value
little_value_lem zero v = omega arith
little_value_lem (suc k) v =
    let p : 0 < 256 ^ k = one-le-pow k 256 (omega arith) in
    let c : 0 < 256 = omega arith in
    ap (λ (n : ℕ). v % 256 + 256 * n) (little_value_lem k (v / 256)) ∙ add_comm (v % 256) (256 * (v / 256 % 256 ^ k))
    ∙ ap (λ (n : ℕ). n + v % 256) (mul_comm 256 (v / 256 % 256 ^ k))
    ∙ sym (mod-mul v p c) ∙ ap (λ (n : ℕ). v % n) (sym (pow-suc 256 k))

-- all of it, where it has no more
pub little_whole : (k v : ℕ) → v < 256 ^ k → little_value (little_bytes k v) ≡ v
little_whole k v h = little_value_lem k v ∙ mod-eq_of_lt h

-- the bytes of the value of bytes are these bytes
pub little_bytes_lem : (l : List ℕ) → are_bytes l ≡ true → little_bytes (length l) (little_value l) ≡ l
unfolding little_bytes little_value
little_bytes_lem [] h = refl
little_bytes_lem (b ∷ l) h =
    let s = split_and (ltb b 256) (are_bytes l) h in
    let lt : b < 256 = ltb-true b 256 s.0 in
    let low : (b + 256 * little_value l) % 256 ≡ b = omega arith in
    let high : (b + 256 * little_value l) / 256 ≡ little_value l = omega arith in
    ap₂ (λ (d : ℕ) (m : List ℕ). d ∷ m) low (ap (little_bytes (length l)) high ∙ little_bytes_lem l s.1)

-- the value of bytes has no more bytes than they are
pub value_below : (l : List ℕ) → are_bytes l ≡ true → little_value l < 256 ^ length l
unfolding little_value
value_below [] h = omega arith
value_below (b ∷ l) h =
    let s = split_and (ltb b 256) (are_bytes l) h in
    let lt : b < 256 = ltb-true b 256 s.0 in
    let i = value_below l s.1 in
    rw (pow-suc 256 (length l)) (omega arith)
