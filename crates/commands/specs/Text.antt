-- Numbers and lines as bytes.
-- docs/RULES.md 9.7, 9.8
use Rattle.std.specs.Prelude.{ℕ, zero, suc, ◌+◌, ◌/◌, ◌%◌, cond, ltb, List, [], ◌∷◌, ◌++◌}
use Rattle.std.specs.List.{flat_map}
use Rattle.commands.specs.Bytes.{line_feed, space, exclamation_mark, digit_zero}

-- the decimal digits of a number, if it has at most k, without leading zeros
unfoldable pub digits_of : ℕ → ℕ → List ℕ
digits_of zero v = []
digits_of (suc k) v = cond (ltb v 10) ((digit_zero + v) ∷ []) (digits_of k (v / 10) ++ ((digit_zero + v % 10) ∷ []))

-- a number of 64 bits, or fewer, in decimal
unfoldable pub number_text : ℕ → List ℕ
number_text v = digits_of 20 v

-- a field behind another: one space and the number
unfoldable pub field_text : ℕ → List ℕ
field_text v = space ∷ number_text v

-- 'Each answer line begins with the command's letter.'
unfoldable pub line_text : ℕ → List ℕ → List ℕ
line_text letter vs = (letter ∷ flat_map field_text vs) ++ (line_feed ∷ [])

-- 'A refusal prints the letter, `!`, the number.'
unfoldable pub refusal_text : ℕ → ℕ → List ℕ
refusal_text letter n = (letter ∷ space ∷ exclamation_mark ∷ field_text n) ++ (line_feed ∷ [])
