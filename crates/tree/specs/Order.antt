-- Lists of numbers in lexicographic order: the first numbers that differ decide.
-- docs/RULES.md 5.13
use Rattle.std.specs.Prelude.{ℕ, Bool, true, false, ◌&&◌, ◌||◌, List, [], ◌∷◌, ltb, eqb}

-- The first list comes before the second. (The lists compared are equally long.)
unfoldable pub comes_before : List ℕ → List ℕ → Bool
comes_before [] [] = false
comes_before [] (b ∷ m) = true
comes_before (a ∷ l) [] = false
comes_before (a ∷ l) (b ∷ m) = ltb a b || (eqb a b && comes_before l m)
