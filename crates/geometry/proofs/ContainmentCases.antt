-- The containment test worked out: some polygons and cells as one table, and one theorem.
use mathlib.Core.Path.{◌≡◌, refl}
use mathlib.Core.Bool.{Bool, true, false}
use mathlib.Core.List.{List, [], ◌∷◌}
use Prim.Native.Nat.{ℕ}
use Rattle.polygons.specs.Lists.{any, compared_by}
use Rattle.geometry.specs.declared.rect.Cell.{Cell}
use Rattle.geometry.specs.declared.rect.Rect.{Rect}
use Rattle.geometry.specs.Cells.{has_cell, any_has, cell_of, rect_of}
use Rattle.geometry.specs.Containment.{compared, containment}

-- a row: a polygon, a cell, whether the polygon has it, and how many rectangles are compared
pub record Row : Type 0 where
  pub polygon : List Rect
  pub at : Cell
  pub has : Bool
  pub count : ℕ

-- the definitions give the row's answer
abbrev pub Holds : Row → Type 0
Holds w = containment w.polygon w.at ≡ record { has = w.has; compared = w.count }

-- every row of a table holds
abbrev pub AllHold : List Row → Type 0
AllHold [] = Unit {0}
AllHold (w ∷ l) = Holds w × AllHold l

-- two that overlap, and one apart
abbrev three : List Rect
three = rect_of 0 0 2 2 ∷ rect_of 1 1 4 4 ∷ rect_of 8 8 9 9 ∷ []

-- sixteen cells in a row
abbrev sixteen : List Rect
sixteen =
    rect_of 0 0 1 1 ∷ rect_of 1 0 2 1 ∷ rect_of 2 0 3 1 ∷ rect_of 3 0 4 1 ∷ rect_of 4 0 5 1 ∷ rect_of 5 0 6 1
    ∷ rect_of 6 0 7 1 ∷ rect_of 7 0 8 1 ∷ rect_of 8 0 9 1 ∷ rect_of 9 0 10 1 ∷ rect_of 10 0 11 1 ∷ rect_of 11 0 12 1
    ∷ rect_of 12 0 13 1 ∷ rect_of 13 0 14 1 ∷ rect_of 14 0 15 1 ∷ rect_of 15 0 16 1 ∷ []

abbrev pub table : List Row
table =
    record { polygon = three; at = cell_of 0 0; has = true; count = 1 }
    ∷ record { polygon = three; at = cell_of 1 1; has = true; count = 1 }
    ∷ record { polygon = three; at = cell_of 3 3; has = true; count = 2 }
    ∷ record { polygon = three; at = cell_of 8 8; has = true; count = 3 }
    ∷ record { polygon = three; at = cell_of 9 9; has = false; count = 3 }
    ∷ record { polygon = sixteen; at = cell_of 0 0; has = true; count = 1 }
    ∷ record { polygon = sixteen; at = cell_of 15 0; has = true; count = 16 }
    ∷ record { polygon = sixteen; at = cell_of 16 0; has = false; count = 16 } ∷ []

-- all rows hold
pub cases_hold : AllHold table
unfolding containment any_has any compared compared_by has_cell
cases_hold = (refl, (refl, (refl, (refl, (refl, (refl, (refl, (refl, tt))))))))
