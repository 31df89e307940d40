-- The first 64 numbers of an image, read back.
use mathlib.Core.Path.{◌≡◌, refl, sym, ap, ◌∙◌}
use mathlib.Core.Bool.{true}
use mathlib.Core.List.{List, ◌++◌, append_assoc, map}
use Prim.Native.Nat.{ℕ, zero, suc, ◌+◌, ◌*◌, ◌-◌, ◌/◌, ◌%◌, ◌^◌, ◌≤◌, ◌<◌, min}
use native.Mathlib.Omega.{arith}
use native.Mathlib.Nat.{pow-suc, div-div-eq-div-mul, div-eq_of_lt}
use native.Mathlib.Decide.{dec_lt}
use borrow.Author.Tests.{lt-ltb, le-ltb, eq-eqb}
use lib.Count.{ones-ones}
use lib.Dec.{eqb, ltb}
use lib.ListN.{length, take, drop, get_or}
use lib.Pow.{pow_pos, pow_mono}
use Rattle.plane.specs.Best.{up_from}
use Rattle.memory.specs.Layout.{all_zero, in_use, ones_of, bits_set, height_in, root_in}
use Rattle.memory.specs.Image.{padded, bits_word, head_numbers}
use Rattle.memory.proofs.ReadingLaws.{zeros_zero}

-- the bit above, of the half
half_bit : (w s : ℕ) → w / 2 ^ suc s ≡ w / 2 / 2 ^ s
half_bit w s =
    let e : 2 ^ suc s ≡ 2 * 2 ^ s = pow-suc 2 s ∙ omega arith in
    ap (λ (p : ℕ). w / p) e ∙ sym (div-div-eq-div-mul w 2 (2 ^ s))

-- of 2 ^ a - 1 the first a bits are set
low_bit : (s a : ℕ) → s < a → (2 ^ a - 1) / 2 ^ s % 2 ≡ 1
low_bit s zero h = absurd (omega arith)
low_bit zero (suc a) h = let p = pow-suc 2 a in let q = pow_pos a in omega arith
low_bit (suc s) (suc a) h =
    let p = pow-suc 2 a in
    let q = pow_pos a in
    let e : (2 ^ suc a - 1) / 2 ≡ 2 ^ a - 1 = omega arith in
    rw (half_bit (2 ^ suc a - 1) s, e) (low_bit s a (omega arith))

-- and no more
high_bit : (s a : ℕ) → a ≤ s → (2 ^ a - 1) / 2 ^ s ≡ 0
high_bit s a h = let p = pow_pos a in let q : 2 ^ a ≤ 2 ^ s = pow_mono h in div-eq_of_lt (omega arith)

-- the i-th of n numbers from k on, under f
map_from : (f : ℕ → ℕ) (k n i : ℕ) (rest : List ℕ) → i < n → get_or (map f (up_from k n) ++ rest) i 0 ≡ f (k + i)
unfolding up_from
map_from f k zero i rest h = absurd (omega arith)
map_from f k (suc n) zero rest h = let e : k + 0 ≡ k = omega arith in rw e
map_from f k (suc n) (suc i) rest h = let e : k + suc i ≡ suc k + i = omega arith in rw e (map_from f (suc k) n i rest (omega arith))

-- the bits set in n words from the k-th on
ones_from : (used k n : ℕ) → ones_of (map (bits_word used) (up_from k n)) ≡ min (32 * n) (used - 32 * k)
unfolding ones_of up_from bits_word
ones_from used k zero = omega arith
ones_from used k (suc n) = let ih = ones_from used (suc k) n in rw (ones-ones, ih) (omega arith)

-- the first numbers are 64
pub head_length : (used height : ℕ) → length (head_numbers used height) ≡ 64
unfolding head_numbers padded up_from
head_length used height = refl

module _ (used height : ℕ) (rest : List ℕ) where
  -- the height is read back
  pub head_height : height_in (head_numbers used height ++ rest) ≡ height
  unfolding head_numbers padded up_from
  head_height = refl

  -- the root's part is the last in use
  pub head_root : root_in (head_numbers used height ++ rest) ≡ used - 1
  unfolding head_numbers padded up_from
  head_root = refl

  -- the numbers from 10 on are zero
  pub head_zero : all_zero (drop 10 (take 64 (head_numbers used height ++ rest))) ≡ true
  unfolding head_numbers padded up_from
  head_zero = zeros_zero 54

  -- as many bits are set as parts are in use
  pub head_bits : used ≤ 256 → bits_set (head_numbers used height ++ rest) ≡ used
  unfolding head_numbers padded up_from
  head_bits h = ones_from used 0 8 ∙ omega arith

  -- the j-th of the first eight
  head_word : (j : ℕ) → j < 8 → get_or (head_numbers used height ++ rest) j 0 ≡ bits_word used j
  unfolding head_numbers padded
  head_word j h = let e : 0 + j ≡ j = omega arith in simp append_assoc (map_from (bits_word used) 0 8 j _ h ∙ ap (bits_word used) e)

  -- exactly the first parts are in use
  pub head_in_use : (k : ℕ) → k < 256 → in_use (head_numbers used height ++ rest) k ≡ ltb k used
  unfolding in_use bits_word
  head_in_use k h = rw (head_word (k / 32) (omega arith)) (go (dec_lt k used))
    where
      go : Dec (k < used) → eqb ((2 ^ min 32 (used - 32 * (k / 32)) - 1) / 2 ^ (k % 32) % 2) 1 ≡ ltb k used
      go (yes l) = rw (lt-ltb k used l) (eq-eqb _ 1 (low_bit (k % 32) (min 32 (used - 32 * (k / 32))) (omega arith)))
      go (no l) =
          let m : used ≤ k = omega arith in
          rw (le-ltb k used m, high_bit (k % 32) (min 32 (used - 32 * (k / 32))) (omega arith))
