-- Request A.4, 'little-endian': numbers as bytes, lowest first; and bytes written over a list.
-- docs/RULES.md 2.27
use Rattle.std.specs.Prelude.{ℕ, zero, suc, ◌+◌, ◌*◌, ◌/◌, ◌%◌, List, [], ◌∷◌, ◌++◌, length, take, drop}

-- the k lowest bytes of a number, lowest first
unfoldable pub little_bytes : ℕ → ℕ → List ℕ
little_bytes zero v = []
little_bytes (suc k) v = (v % 256) ∷ little_bytes k (v / 256)

-- the number that bytes stand for, the lowest first
unfoldable pub little_value : List ℕ → ℕ
little_value [] = 0
little_value (b ∷ l) = b + 256 * little_value l

-- a list with bytes written over it from a place on; all others stay
unfoldable pub overwritten : List ℕ → ℕ → List ℕ → List ℕ
overwritten out at bytes = take at out ++ bytes ++ drop (at + length bytes) out
