-- Where extra area is 0; extra area in a polygon and alone.
use mathlib.Core.Path.{◌≡◌, refl, sym}
use mathlib.Core.Bool.{Bool, true, false, ◌&&◌, ◌||◌, not, false≢true}
use mathlib.Core.List.{List, [], ◌∷◌}
use Prim.Native.Nat.{◌≤◌}
use native.Mathlib.Omega.{arith}
use Rattle.polygons.specs.Lists.{any}
use Rattle.geometry.specs.declared.rect.Cell.{Cell}
use Rattle.geometry.specs.declared.rect.Rect.{Rect}
use Rattle.geometry.specs.Cells.{on_grid, has_cell, any_has}
use Rattle.geometry.specs.Grow.{grown}
use Rattle.geometry.proofs.GrowLaws.{grow_keeps}
use Rattle.area.specs.Lacked.{extra_area}
use Rattle.area.proofs.LackLaws.{count_none, count_le, extra_some}

module _ (p : List Rect) (r : Rect) (c : Cell) where
  -- where there is none, the polygon has the cell
  pub extra_zero : on_grid c ≡ true → extra_area p r c ≡ 0 → any_has p c ≡ true
  extra_zero g z = go (any_has p c) (extra_some p r c g)
    where
      go : (b : Bool) → (b ≡ false → 1 ≤ extra_area p r c) → b ≡ true
      go true h = refl
      go false h = let k = h refl in absurd (omega arith)

  -- where a rectangle of the polygon has the cell already, it adds none
  pub extra_of_inside : ((d : Cell) → has_cell r d ≡ true → any_has p d ≡ true) → has_cell r c ≡ true → extra_area p r c ≡ 0
  unfolding extra_area any_has
  extra_of_inside m t = rw (grow_keeps r c t) (count_none _ (λ d. none (has_cell r d) _ (m d)))
    where
      none : (a b : Bool) → (a ≡ true → b ≡ true) → a && not b ≡ false
      none true true h = refl
      none true false h = sym (h refl)
      none false b h = refl

  -- a rectangle of the polygon adds no more cells to it than to a polygon of its own
  pub extra_alone : ((d : Cell) → has_cell r d ≡ true → any_has p d ≡ true) → extra_area p r c ≤ extra_area (r ∷ []) r c
  unfolding extra_area any_has any
  extra_alone m = count_le _ _ (λ d. go (has_cell (grown r c) d) (has_cell r d) (any_has p d) (m d))
    where
      go : (a b e : Bool) → (b ≡ true → e ≡ true) → a && not e ≡ true → a && not (b || false) ≡ true
      go false b e h t = t
      go true false e h t = refl
      go true true true h t = t
      go true true false h t = absurd (false≢true (h refl))
