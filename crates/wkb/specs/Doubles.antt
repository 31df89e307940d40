-- Request A.4, whole numbers as doubles, eight bytes each: 'Coordinates are doubles of the exact whole numbers.'
-- docs/RULES.md 2.28
use Rattle.std.specs.Prelude.{ℕ, false, List, pos, Float}
use Rattle.std.specs.Float.{binary64}
use Rattle.std.specs.Float.Ieee.{of_int, of_bits, to_bits}
use Rattle.std.specs.Float.Ieee.Exact.{HasValue}
use Rattle.wkb.specs.Bytes.{little_bytes, little_value}

-- the double of a whole number
abbrev pub double_of : ℕ → Float
double_of n = of_int binary64 (pos n)

-- its 64 bits as bytes, lowest first
unfoldable pub double_bytes : ℕ → List ℕ
double_bytes n = little_bytes 8 (to_bits binary64 (double_of n))

-- Read as a double, the bytes are exactly the whole number n: the double is finite, its sign is clear, and its value is
-- n / 1.
abbrev pub ReadAs : List ℕ → ℕ → Type 0
ReadAs bytes n = HasValue (of_bits binary64 (little_value bytes)) false n 1
