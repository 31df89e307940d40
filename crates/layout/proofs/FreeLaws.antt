-- A part set free: its bit is cleared, so the count of the bits set falls by one, and the other bits stay.
use Prim.Native.Nat.{ℕ, zero, suc, ◌+◌, ◌*◌, ◌-◌, ◌/◌, ◌%◌, ◌^◌, ◌≤◌, ◌<◌}
use mathlib.Core.Path.{◌≡◌, refl, sym, ap, ◌∙◌}
use mathlib.Core.List.{List, [], ◌∷◌}
use mathlib.Core.Logic.{◌≢◌}
use native.Mathlib.Omega.{arith}
use native.Mathlib.Nat.{pow-suc, div-div-eq-div-mul, mod-eq_of_lt, one-mul}
use native.Mathlib.Decide.{ℕ_discrete}
use borrow.Author.Tests.{eqb-true}
use lib.Count.{ones, ones_step}
use lib.Dec.{eqb}
use lib.ListN.{length, get_or, set, take, length-set, length-take}
use lib.Pow.{pow-lt}
use lib.Seq.{get_or-set_same, get_or-set_other, get_or-take, take-set-lt, drop-set-lt}
use Rattle.memory.specs.Layout.{part, in_use, ones_of, bits_set}
use Rattle.layout.specs.PartSet.{without_bit, UsedPart}

-- bit s of a word
abbrev bit : ℕ → ℕ → ℕ
bit w s = w / 2 ^ s % 2

-- the bit above, of the half
bit_half : (w s : ℕ) → bit w (suc s) ≡ bit (w / 2) s
bit_half w s =
    let e : 2 ^ suc s ≡ 2 * 2 ^ s = pow-suc 2 s ∙ omega arith in
    ap (λ (p : ℕ). w / p % 2) e ∙ ap (λ (q : ℕ). q % 2) (sym (div-div-eq-div-mul w 2 (2 ^ s)))

-- a word is not below a bit of it that is set
bit_le : (s w : ℕ) → bit w s ≡ 1 → 2 ^ s ≤ w
bit_le zero w h = omega arith
bit_le (suc s) w h =
    let q : 2 ^ suc s ≡ 2 ^ s * 2 = pow-suc 2 s in
    let ih = bit_le s (w / 2) (sym (bit_half w s) ∙ h) in
    omega arith

-- the half of a word without a bit
half_less : (s w : ℕ) → 2 ^ suc s ≤ w → (w - 2 ^ suc s) / 2 ≡ w / 2 - 2 ^ s
half_less s w h = let q : 2 ^ suc s ≡ 2 ^ s * 2 = pow-suc 2 s in omega arith

ones_clear : (s w : ℕ) → bit w s ≡ 1 → ones (w - 2 ^ s) + 1 ≡ ones w
ones_clear zero w h =
    let a = ones_step (w - 1) in
    let b = ones_step w in
    let e : (w - 1) / 2 ≡ w / 2 = omega arith in
    let f = ap ones e in
    omega arith
ones_clear (suc s) w h =
    let l = bit_le (suc s) w h in
    let q : 2 ^ suc s ≡ 2 ^ s * 2 = pow-suc 2 s in
    let a = ones_step (w - 2 ^ suc s) in
    let b = ones_step w in
    let f = ap ones (half_less s w l) in
    let ih = ones_clear s (w / 2) (sym (bit_half w s) ∙ h) in
    omega arith

-- the other bits
bit_kept : (s t w : ℕ) → bit w s ≡ 1 → t ≢ s → bit (w - 2 ^ s) t ≡ bit w t
bit_kept zero zero w h n = absurd (n refl)
bit_kept zero (suc t) w h n =
    let e : (w - 1) / 2 ≡ w / 2 = omega arith in
    bit_half (w - 1) t ∙ ap (λ (v : ℕ). bit v t) e ∙ sym (bit_half w t)
bit_kept (suc s) zero w h n =
    let l = bit_le (suc s) w h in
    let q : 2 ^ suc s ≡ 2 ^ s * 2 = pow-suc 2 s in
    omega arith
bit_kept (suc s) (suc t) w h n =
    let l = bit_le (suc s) w h in
    bit_half (w - 2 ^ suc s) t ∙ ap (λ (v : ℕ). bit v t) (half_less s w l)
    ∙ bit_kept s t (w / 2) (sym (bit_half w s) ∙ h) (λ e. n (ap suc e)) ∙ sym (bit_half w t)

-- the power of a bit, as the code shifts it
pub shifted : (s : ℕ) → s < 32 → 1 * 2 ^ s % 2 ^ 32 ≡ 2 ^ s
shifted s h = ap (λ (p : ℕ). p % 2 ^ 32) (one-mul (2 ^ s)) ∙ mod-eq_of_lt (pow-lt h)

-- the bits set of a list in which one number changed
ones_set : (l : List ℕ) (i v : ℕ) → i < length l → ones_of (set l i v) + ones (get_or l i 0) ≡ ones_of l + ones v
unfolding ones_of
ones_set [] i v h = absurd (omega arith)
ones_set (w ∷ l) zero v h = omega arith
ones_set (w ∷ l) (suc i) v h = let ih = ones_set l i v (omega arith) in omega arith

module _ (m : List ℕ) (k : ℕ) (u : UsedPart m k) where
  -- the bit of part k is set
  bit_is : bit (get_or m (k / 32) 0) (k % 32) ≡ 1
  unfolding in_use
  bit_is = eqb-true _ 1 u.used

  bit_fits : 2 ^ (k % 32) ≤ get_or m (k / 32) 0
  bit_fits = bit_le (k % 32) (get_or m (k / 32) 0) bit_is

  word_in : k / 32 < length m
  word_in = let b = u.below in let e = u.ends in omega arith

  pub cleared_length : length (without_bit m k) ≡ length m
  unfolding without_bit
  cleared_length = length-set m (k / 32) _

  -- one bit less is set
  pub cleared_bits : bits_set (without_bit m k) + 1 ≡ bits_set m
  unfolding without_bit
  cleared_bits =
      let b = u.below in
      let w = word_in in
      let l : k / 32 < length (take 8 m) = (let q = length-take 8 m in let e = u.ends in omega arith) in
      let a = ones_set (take 8 m) (k / 32) (get_or m (k / 32) 0 - 2 ^ (k % 32)) l in
      let g : get_or (take 8 m) (k / 32) 0 ≡ get_or m (k / 32) 0 = get_or-take 8 m (k / 32) 0 (omega arith) in
      let o = ones_clear (k % 32) (get_or m (k / 32) 0) bit_is in
      let t : take 8 (set m (k / 32) (get_or m (k / 32) 0 - 2 ^ (k % 32))) ≡ set (take 8 m) (k / 32) (get_or m (k / 32) 0 - 2 ^ (k % 32)) =
      take-set-lt 8 m (k / 32) _ (omega arith) in
      let c = ap ones_of t in
      let d = ap ones g in
      omega arith

  -- the other parts are in use as they were
  pub cleared_others : (j : ℕ) → j ≢ k → in_use (without_bit m k) j ≡ in_use m j
  unfolding without_bit in_use
  cleared_others j n = go (ℕ_discrete (j / 32) (k / 32))
    where
      go : Dec (j / 32 ≡ k / 32) → eqb (get_or (set m (k / 32) (get_or m (k / 32) 0 - 2 ^ (k % 32))) (j / 32) 0 / 2 ^ (j % 32) % 2) 1 ≡ eqb (get_or m (j / 32) 0 / 2 ^ (j % 32) % 2) 1
      go (yes e) =
          let d : j % 32 ≢ k % 32 = λ f. n (omega arith) in
          rw (e, get_or-set_same m (k / 32) (get_or m (k / 32) 0 - 2 ^ (k % 32)) 0 word_in, bit_kept (k % 32) (j % 32) (get_or m (k / 32) 0) bit_is d)
      go (no e) = rw (get_or-set_other m (k / 32) (j / 32) (get_or m (k / 32) 0 - 2 ^ (k % 32)) 0 e)

  -- the numbers behind the bits are as they were
  pub cleared_head : (x : ℕ) → 8 ≤ x → get_or (without_bit m k) x 0 ≡ get_or m x 0
  unfolding without_bit
  cleared_head x h = let b = u.below in get_or-set_other m (k / 32) x _ 0 (λ e. absurd (omega arith))

  pub cleared_part : (j : ℕ) → part (without_bit m k) j ≡ part m j
  unfolding without_bit part
  cleared_part j = let b = u.below in ap (take 128) (drop-set-lt (64 + 128 * j) m (k / 32) _ (omega arith))

  -- what the code computes
  shift_is : 1 * 2 ^ (k % 32) % 2 ^ 32 ≡ 2 ^ (k % 32)
  shift_is = shifted (k % 32) (omega arith)

  pub bit_taken : 1 * 2 ^ (k % 32) % 2 ^ 32 ≤ get_or m (k / 32) 0
  bit_taken = let e = shift_is in let f = bit_fits in omega arith

  pub bit_done : set m (k / 32) (get_or m (k / 32) 0 - 1 * 2 ^ (k % 32) % 2 ^ 32) ≡ without_bit m k
  unfolding without_bit
  bit_done = rw shift_is
