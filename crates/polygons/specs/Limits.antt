-- The limits of document 01, each named once, and what a limited list is.
-- docs/RULES.md 2.6, 2.20, 2.23, 4.9
use Rattle.std.specs.Prelude.{ℕ, cond, List, leb, length}
use Rattle.std.proofs.Math.Option.{Option, none, some}

-- 'A polygon is a list of 1 to 16 rectangles'
abbrev pub most_of_polygon : ℕ
most_of_polygon = 16

-- 'a list over 256 after a single cut'; 'pieces over 256 after a cut by one rectangle or after the common parts'
abbrev pub most_pieces : ℕ
most_pieces = 256

-- the list, or none where it is over the limit
unfoldable pub at_most : {A : Type 0} → ℕ → List A → Option (List A)
at_most n l = cond (leb (length l) n) (some l) none
