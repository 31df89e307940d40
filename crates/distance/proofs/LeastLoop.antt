-- The loop over the rectangles of a list that keeps the least distance.
use Prim.Native.Nat.{ℕ, min}
use mathlib.Core.Bool.{true}
use mathlib.Core.Path.{◌≡◌, refl, sym, ◌∙◌}
use mathlib.Core.List.{List, [], ◌∷◌}
use native.Mathlib.Omega.{arith}
use Rattle.polygons.specs.Lists.{least}
use Rattle.polygons.specs.Rules.{least_distance}
use Rattle.polygons.proofs.Booleans.{split_and}
use Rattle.geometry.specs.declared.rect.Cell.{Cell}
use Rattle.geometry.specs.declared.rect.Rect.{Rect}
use Rattle.geometry.specs.declared.rects.Rects.{Rects}
use Rattle.geometry.specs.Rects.{rects_left}
use Rattle.geometry.specs.Cells.{valid, all_valid}
use Rattle.distance.specs.Distance.{rect_distance}

-- the lesser of a number and the least distance to some rectangles
unfoldable pub lesser : Cell → ℕ → List Rect → ℕ
lesser c best [] = best
lesser c best (r ∷ l) = min best (least_distance rect_distance c (r ∷ l))

-- the least distance to all, where the best so far and the rest are left to compare
pub record Least (c : Cell) (all rest : List Rect) (best : ℕ) : Type 0 where
  pub fine : all_valid rest ≡ true
  pub total : least_distance rect_distance c all ≡ lesser c best rest

-- the first of valid rectangles is valid
pub valid_first : (r : Rect) (rest l : List Rect) → all_valid l ≡ true → l ≡ r ∷ rest → valid r ≡ true
unfolding all_valid
valid_first r rest l h e = (split_and (valid r) (all_valid rest) (rw e at h)).0

valid_rest : (r : Rect) (rest l : List Rect) → all_valid l ≡ true → l ≡ r ∷ rest → all_valid rest ≡ true
unfolding all_valid
valid_rest r rest l h e = (split_and (valid r) (all_valid rest) (rw e at h)).1

module _ (c : Cell) (all : List Rect) where
  pub least_none : all ≡ [] → 0 ≡ least_distance rect_distance c all
  unfolding least
  least_none e = rw e

  start : (r : Rect) (rest : List Rect) → least_distance rect_distance c (r ∷ rest) ≡ lesser c (rect_distance c r) rest
  unfolding least lesser
  start r [] = refl
  start r (s ∷ l) = refl

  pub least_start : (r : Rect) (more it : Rects) → it ≡ more → (d : ℕ) → all_valid all ≡ true → all ≡ r ∷ rects_left more → d ≡ rect_distance c r → Least c all (rects_left it) d
  least_start r more it q d h e f = rw q (record { fine = valid_rest r (rects_left more) all h e; total = rw (e, f) (start r (rects_left more)) })

  next : (r : Rect) (rest : List Rect) (best : ℕ) → lesser c best (r ∷ rest) ≡ lesser c (min best (rect_distance c r)) rest
  unfolding least lesser
  next r [] best = refl
  next r (s ∷ l) best = omega arith

  pub least_next : (rest : List Rect) (best : ℕ) → Least c all rest best → (r : Rect) (rest' : List Rect) → rest ≡ r ∷ rest' → (b d : ℕ) → b ≡ min best d → d ≡ rect_distance c r
      → Least c all rest' b
  least_next rest best v r rest' e b d f g = record { fine = valid_rest r rest' rest v.fine e; total = v.total ∙ rw (e, f, g) (next r rest' best) }

  pub least_end : (rest : List Rect) (best : ℕ) → Least c all rest best → rest ≡ [] → best ≡ least_distance rect_distance c all
  unfolding lesser
  least_end rest best v e = sym (v.total ∙ rw e)
