-- The loop that reads a field's digits.
use Rattle.std.proofs.Common.{◌≡◌, ℕ, ◌+◌, ◌*◌, ◌-◌, ◌^◌, ◌≤◌, ◌<◌, true, false, List, [], ◌∷◌, length, get_or, drop, refl, ◌∙◌, arith, add-one, drop-cons}
use Rattle.std.specs.Prelude.{Result, Ok, Err, None}
use Rattle.std.specs.Result.{OkIff, result_ok}
use Rattle.std.specs.Char.{IsAsciiDigit, IsNotAsciiDigit}
use native.Mathlib.Nat.{pow-succ'}
use borrow.Author.Tests.{le-leb, lt-leb}
use lib.ListN.{drop_of_length-le}
use Rattle.commands.specs.Fields.{is_digit, all_digits, decimal_from, number_of}

digit_yes : (b : ℕ) → IsAsciiDigit b → is_digit b ≡ true
unfolding is_digit
digit_yes b h = grind arith

digit_no : (b : ℕ) → IsNotAsciiDigit b → is_digit b ≡ false
unfolding is_digit
digit_no b h = grind arith

module _ (f : List ℕ) where
  -- The first i bytes are digits, with the value v.
  pub record Digits (v i : ℕ) : Type 0 where
    pub i_le : i ≤ length f
    pub least : 1 ≤ length f
    pub most : length f ≤ 10
    pub small : v < 10 ^ i
    pub digits : all_digits f ≡ all_digits (drop i f)
    pub value : decimal_from 0 f ≡ decimal_from v (drop i f)

  module _ (v i : ℕ) (x : Digits v i) where
    module _ (h : i < length f) where
      next : drop i f ≡ get_or f i 0 ∷ drop (i + 1) f
      next = drop-cons f i 0 h ∙ rw add-one

      pub no_digit : IsNotAsciiDigit (get_or f i 0) → None ≡ number_of f
      unfolding number_of all_digits
      no_digit g =
          let e : all_digits f ≡ false = x.digits ∙ rw (next, digit_no _ g) in
          simp (le-leb _ _ x.least, le-leb _ _ x.most, e)

      pub digits_again : IsAsciiDigit (get_or f i 0) → Digits (10 * v + (get_or f i 0 - 48)) (i + 1)
      unfolding all_digits decimal_from
      digits_again g =
          record {
            i_le = omega arith;
            least = x.least;
            most = x.most;
            small = rw (add-one, pow-succ') (omega (arith, x.small));
            digits = x.digits ∙ rw (next, digit_yes _ g);
            value = x.value ∙ rw next;
          }

    module _ (h : length f ≤ i) where
      no_more : drop i f ≡ []
      no_more = drop_of_length-le f h

      all_read : all_digits f ≡ true
      unfolding all_digits
      all_read = x.digits ∙ rw no_more

      value_is : decimal_from 0 f ≡ v
      unfolding decimal_from
      value_is = x.value ∙ rw no_more

      pub value_read : {E : Type 0} (r : Result ℕ E) → OkIff r (v < 4294967296) v → result_ok r ≡ number_of f
      unfolding number_of
      value_read (Ok n) g =
          let l : v ≤ 4294967295 = omega (arith, g.0) in
          rw g.1 (simp (le-leb _ _ x.least, le-leb _ _ x.most, all_read, value_is, le-leb _ _ l) refl)
      value_read (Err e) g =
          let l : 4294967295 < v = omega (arith, g) in
          simp (le-leb _ _ x.least, le-leb _ _ x.most, all_read, value_is, lt-leb _ _ l) refl
