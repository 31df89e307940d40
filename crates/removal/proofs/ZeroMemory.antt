-- 'The last removal leaves all zeros': a memory with no bit set, no height and no root is all zeros.
use Prim.Native.Nat.{ℕ, zero, suc, ◌+◌, ◌*◌, ◌-◌, ◌/◌, ◌%◌, ◌^◌, ◌≤◌, ◌<◌}
use mathlib.Core.Path.{◌≡◌, refl, sym, ap, ◌∙◌}
use mathlib.Core.Bool.{true, false}
use mathlib.Core.List.{List, [], ◌∷◌}
use mathlib.Core.Logic.{◌⊎◌, inl, inr}
use native.Mathlib.Omega.{arith}
use native.Mathlib.Nat.{zero-div}
use native.Mathlib.Decide.{dec_lt}
use lib.Count.{ones, ones_step}
use lib.ListN.{length, get_or, set, take, drop, length-set}
use lib.Seq.{get_or-set_same, get_or-set_other, get_or-take, get_or-drop}
use Rattle.memory.specs.Layout.{parts_of, is_index_length, part, in_use, ones_of, bits_set, all_zero, others_zero}
use Rattle.memory.proofs.ReadingLaws.{index_length, zero_at, unused_zero}
use Rattle.layout.specs.PartSet.{no_tree}
use Rattle.layout.proofs.GapLists.{zeros_of}
use Rattle.layout.proofs.NodeLaws.{part_number}

-- a word without bits is zero
no_ones : (f w : ℕ) → w ≤ f → ones w ≡ 0 → w ≡ 0
no_ones zero w h e = omega arith
no_ones (suc f) w h e =
    let s = ones_step w in
    let i = no_ones f (w / 2) (omega arith) (omega arith) in
    omega arith

no_bits : (l : List ℕ) (i : ℕ) → ones_of l ≡ 0 → get_or l i 0 ≡ 0
unfolding ones_of
no_bits [] i e = refl
no_bits (w ∷ l) zero e = no_ones w w (omega arith) (omega arith)
no_bits (w ∷ l) (suc i) e = no_bits l i (omega arith)

module _ (m : List ℕ) (right : is_index_length m ≡ true) (none_set : bits_set m ≡ 0) (head : all_zero (drop 10 (take 64 m)) ≡ true) (others : others_zero m (parts_of m) ≡ true) where
  word_zero : (i : ℕ) → i < 8 → get_or m i 0 ≡ 0
  word_zero i h = sym (get_or-take 8 m i 0 h) ∙ no_bits (take 8 m) i none_set

  head_zero : (x : ℕ) → 10 ≤ x → x < 64 → get_or m x 0 ≡ 0
  head_zero x a b =
      let q : 10 + (x - 10) ≡ x = omega arith in
      ap (λ (i : ℕ). get_or m i 0) (sym q) ∙ sym (get_or-drop 10 (take 64 m) (x - 10) 0 ∙ get_or-take 64 m (10 + (x - 10)) 0 (omega arith)) ∙ zero_at (drop 10 (take 64 m)) (x - 10) head

  none_used : (j : ℕ) → j < 256 → in_use m j ≡ false
  unfolding in_use
  none_used j h = rw (word_zero (j / 32) (omega arith), zero-div (2 ^ (j % 32)))

  part_zero : (x : ℕ) → 64 ≤ x → x < length m → get_or m x 0 ≡ 0
  part_zero x a b =
      let r = index_length m right in
      let l = r.length_is in
      let f = r.few_parts in
      let j = (x - 64) / 128 in
      let i = (x - 64) % 128 in
      let h : j < parts_of m = omega arith in
      let q : 64 + 128 * j + i ≡ x = omega arith in
      ap (λ (y : ℕ). get_or m y 0) (sym q) ∙ sym (part_number m j i (omega arith)) ∙ zero_at (part m j) i (unused_zero m (parts_of m) j others h (none_used j (omega arith)))

  -- with no height and no root it is all zeros
  pub all_zeros : all_zero (no_tree m) ≡ true
  all_zeros = zeros_of (no_tree m) (λ x h. go x (rw (length-set (set m 8 0) 9 0, length-set m 8 0) at h) (dec_lt x 8) (dec_lt x 10) (dec_lt x 64))
    where
      beside : (x : ℕ) → (x < 8) ⊎ (9 < x) → get_or (no_tree m) x 0 ≡ get_or m x 0
      beside x (inl a) = get_or-set_other (set m 8 0) 9 x 0 0 (λ e. absurd (omega arith)) ∙ get_or-set_other m 8 x 0 0 (λ e. absurd (omega arith))
      beside x (inr a) = get_or-set_other (set m 8 0) 9 x 0 0 (λ e. absurd (omega arith)) ∙ get_or-set_other m 8 x 0 0 (λ e. absurd (omega arith))

      middle : (x : ℕ) → x < length m → Dec (x < 9) → 8 ≤ x → x < 10 → get_or (no_tree m) x 0 ≡ 0
      middle x h (yes a) b d =
          let e : x ≡ 8 = omega arith in
          rw e (get_or-set_other (set m 8 0) 9 8 0 0 (λ q. absurd (omega arith)) ∙ get_or-set_same m 8 0 0 (omega arith))
      middle x h (no a) b d =
          let e : x ≡ 9 = omega arith in
          let l = length-set m 8 0 in
          rw e (get_or-set_same (set m 8 0) 9 0 0 (omega arith))

      go : (x : ℕ) → x < length m → Dec (x < 8) → Dec (x < 10) → Dec (x < 64) → get_or (no_tree m) x 0 ≡ 0
      go x h (yes a) p q = beside x (inl a) ∙ word_zero x a
      go x h (no a) (yes b) q = middle x h (dec_lt x 9) (omega arith) b
      go x h (no a) (no b) (yes d) = beside x (inr (omega arith)) ∙ head_zero x (omega arith) d
      go x h (no a) (no b) (no d) = beside x (inr (omega arith)) ∙ part_zero x (omega arith) h
