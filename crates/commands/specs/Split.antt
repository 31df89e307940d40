-- Bytes split at each of their separators: a line into fields at its spaces, the input into lines at its line feeds.
-- docs/RULES.md 9.2
use Rattle.std.specs.Prelude.{ℕ, ◌-◌, ◌≤◌, ◌<◌, cond, List, [], ◌∷◌, ◌≡◌, eqb, length, get_or, take, drop}

-- the pieces with a byte put in front of the first
unfoldable pub put_first : ℕ → List (List ℕ) → List (List ℕ)
put_first b [] = (b ∷ []) ∷ []
put_first b (p ∷ ps) = (b ∷ p) ∷ ps

-- the pieces between separators: one more than there are separators, and each may be empty
unfoldable pub split_at : ℕ → List ℕ → List (List ℕ)
split_at sep [] = [] ∷ []
split_at sep (b ∷ s) = cond (eqb b sep) ([] ∷ split_at sep s) (put_first b (split_at sep s))

-- the pieces behind a piece: none at the end, else those behind the separator
unfoldable pub pieces_behind : ℕ → List ℕ → List (List ℕ)
pieces_behind sep [] = []
pieces_behind sep (b ∷ s) = split_at sep s

-- The piece that starts at a place of s ends at another: at the first separator, or at the end of s.
pub record PieceEnd (sep : ℕ) (s : List ℕ) (start end : ℕ) : Type 0 where
  pub forward : start ≤ end
  pub within : end ≤ length s
  pub separator : end < length s → get_or s end 0 ≡ sep
  pub pieces : split_at sep (drop start s) ≡ take (end - start) (drop start s) ∷ pieces_behind sep (drop end s)
