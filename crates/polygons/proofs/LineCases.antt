-- The cells that a polygon removes, on a line of ten cells: 'rectangles' are ranges of the line.
use Prim.Native.Nat.{ℕ, zero, suc, ◌+◌}
use mathlib.Core.Bool.{Bool, ◌&&◌, cond}
use mathlib.Core.List.{[], ◌∷◌}
use mathlib.Core.Path.{◌≡◌, refl}
use lib.Dec.{leb, ltb}
use Rattle.polygons.specs.Lists.{any}
use Rattle.polygons.specs.Rules.{removed_by}

-- the cells from one up to before another
pub record Range : Type 0 where
  pub from : ℕ
  pub to : ℕ

abbrev pub range : ℕ → ℕ → Range
range a b = record { from = a; to = b }

abbrev pub has : Range → ℕ → Bool
has r c = leb r.from c && ltb c r.to

-- how many of the first n cells pass a test
unfoldable pub count_to : ℕ → (ℕ → Bool) → ℕ
count_to zero t = 0
count_to (suc n) t = count_to n t + cond (t n) 1 0

-- a list that overlaps itself: the cells 3 and 4, of which the list has 3 twice
pub list_once : removed_by (count_to 10) has (range 0 4 ∷ range 2 6 ∷ []) (range 3 5 ∷ []) ≡ 2
unfolding count_to any
list_once = refl

-- a polygon that overlaps itself: the cells 0, 1 and 2
pub polygon_once : removed_by (count_to 10) has (range 0 10 ∷ []) (range 0 2 ∷ range 1 3 ∷ []) ≡ 3
unfolding count_to any
polygon_once = refl

-- side by side
pub none_shared : removed_by (count_to 10) has (range 0 4 ∷ []) (range 4 8 ∷ []) ≡ 0
unfolding count_to any
none_shared = refl
