-- Document 01: 'Fields are decimal, 1 to 10 digits, at most 4294967295'.
-- docs/RULES.md 9.5
use Rattle.std.specs.Prelude.{ℕ, ◌+◌, ◌*◌, ◌-◌, ◌<◌, Bool, true, ◌&&◌, cond, List, [], ◌∷◌, leb, length, drop, Option, Some, None}
use Rattle.commands.specs.Bytes.{space, digit_zero, digit_nine}
use Rattle.commands.specs.Split.{pieces_behind}

unfoldable pub is_digit : ℕ → Bool
is_digit b = leb digit_zero b && leb b digit_nine

unfoldable pub all_digits : List ℕ → Bool
all_digits [] = true
all_digits (b ∷ s) = is_digit b && all_digits s

-- the value of digits behind others that have the value v
unfoldable pub decimal_from : ℕ → List ℕ → ℕ
decimal_from v [] = v
decimal_from v (b ∷ s) = decimal_from (10 * v + (b - digit_zero)) s

-- the number of a field: decimal, 1 to 10 digits, at most 4294967295
unfoldable pub number_of : List ℕ → Option ℕ
number_of f =
    cond (leb 1 (length f) && leb (length f) 10 && all_digits f && leb (decimal_from 0 f) 4294967295)
    (Some (decimal_from 0 f))
    None

-- a number before others; none where one of them is no number
unfoldable pub with_number : Option ℕ → Option (List ℕ) → Option (List ℕ)
with_number None vs = None
with_number (Some v) None = None
with_number (Some v) (Some vs) = Some (v ∷ vs)

-- the numbers of some fields; none where one of them is no number
unfoldable pub numbers_of : List (List ℕ) → Option (List ℕ)
numbers_of [] = Some []
numbers_of (f ∷ fs) = with_number (number_of f) (numbers_of fs)

-- the numbers of the fields behind a line's letter
unfoldable pub numbers_in : List ℕ → Option (List ℕ)
numbers_in line = numbers_of (pieces_behind space (drop 1 line))

-- no command has these numbers: one of the fields is none, or there are more than four
unfoldable pub NotFew : Option (List ℕ) → Type 0
NotFew None = Unit {0}
NotFew (Some vs) = 4 < length vs
