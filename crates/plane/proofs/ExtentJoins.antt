-- The extent of a group as code collects it: entry by entry, or from parts.
use Prim.Native.Nat.{ℕ, ◌≤◌, max}
use mathlib.Core.Path.{◌≡◌, refl, ◌∙◌}
use mathlib.Core.List.{List, [], ◌∷◌, ◌++◌}
use lib.ListN.{length}
use native.Mathlib.Omega.{arith}
use Rattle.polygons.specs.Lists.{least}
use Rattle.polygons.proofs.LeastLaws.{least_append}
use Rattle.plane.specs.Best.{greatest}
use Rattle.plane.specs.Lines.{CellEntry, x_of, y_of}
use Rattle.plane.specs.Candidates.{extent_of, cell_extent, join_extents}

module _ {A : Type 0} (f : A → ℕ) (b : A) (m : List A) where
  greatest_append : (a : A) (l : List A) → greatest f ((a ∷ l) ++ (b ∷ m)) ≡ max (greatest f (a ∷ l)) (greatest f (b ∷ m))
  unfolding greatest
  greatest_append a [] = refl
  greatest_append a (c ∷ l) = let i = greatest_append c l in omega arith

-- the extent of one entry
pub extent_one : (e : CellEntry) → extent_of (e ∷ []) ≡ cell_extent e.cell
unfolding extent_of cell_extent least greatest
extent_one e = refl

-- the extent of two groups together
pub extent_append : (g h : List CellEntry) → 1 ≤ length g → 1 ≤ length h → extent_of (g ++ h) ≡ join_extents (extent_of g) (extent_of h)
unfolding extent_of join_extents
extent_append [] h m n = absurd (omega arith)
extent_append (a ∷ g) [] m n = absurd (omega arith)
extent_append (a ∷ g) (b ∷ h) m n = λ i. record {
  min_x = least_append x_of b h a g i;
  max_x = greatest_append x_of b h a g i;
  min_y = least_append y_of b h a g i;
  max_y = greatest_append y_of b h a g i;
}

-- the extent of a group with one entry more
pub extent_more : (g : List CellEntry) (e : CellEntry) → 1 ≤ length g → extent_of (g ++ (e ∷ [])) ≡ join_extents (extent_of g) (cell_extent e.cell)
extent_more g e n = extent_append g (e ∷ []) n (omega arith) ∙ rw (extent_one e)
