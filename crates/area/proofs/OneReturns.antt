-- The extra area of a polygon of one rectangle, as the code computes it.
use mathlib.Core.Path.{◌≡◌, sym}
use mathlib.Core.Bool.{true}
use mathlib.Core.List.{[], ◌∷◌}
use Prim.Native.Nat.{ℕ, ◌-◌, ◌≤◌}
use Rattle.geometry.specs.declared.rect.Cell.{Cell}
use Rattle.geometry.specs.declared.rect.Rect.{Rect}
use Rattle.geometry.specs.Cells.{on_grid, valid, area}
use Rattle.geometry.specs.Grow.{grown}
use Rattle.geometry.proofs.CellLaws.{Valid, valid_of}
use Rattle.geometry.proofs.GrowLaws.{grow_valid, area_grows}
use Rattle.area.specs.Lacked.{extra_area}
use Rattle.area.proofs.LackLaws.{extra_single}

-- a rectangle r and the grown one g
module _ (r : Rect) (c : Cell) (e : valid r ≡ true) (f : on_grid c ≡ true) (g : Rect) (eg : g ≡ grown r c) where
  pub grown_valid : Valid g
  grown_valid = rw eg (valid_of _ (grow_valid r c e f))

  module _ (a b : ℕ) (ea : a ≡ area g) (eb : b ≡ area r) where
    pub area_less : b ≤ a
    area_less = rw (ea, eb, eg) (area_grows r c)

    pub area_extra : a - b ≡ extra_area (r ∷ []) r c
    area_extra = rw (ea, eb, eg) (sym (extra_single r c e f))
