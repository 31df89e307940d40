-- Numbers of removed cells worked out: some lists and polygons as one table, and one theorem.
use mathlib.Core.Path.{◌≡◌, refl, ◌∙◌}
use mathlib.Core.Bool.{true}
use mathlib.Core.List.{List, [], ◌∷◌, ◌++◌, flat_map}
use Prim.Native.Nat.{ℕ, ◌+◌, ◌-◌}
use native.Mathlib.Omega.{arith}
use Rattle.polygons.proofs.Booleans.{split_and}
use Rattle.geometry.specs.declared.rect.Rect.{Rect}
use Rattle.geometry.specs.Cells.{non_empty, valid, all_valid, area, rect_of}
use Rattle.geometry.specs.Common.{overlap, unless_empty}
use Rattle.geometry.specs.Cut.{x_ceiling, x_floor, y_ceiling, y_floor, pieces, cut, cut_list, cut_all}
use Rattle.area.specs.Removed.{removed, total_area}
use Rattle.area.proofs.CutAreas.{pieces_area}
use Rattle.area.proofs.RemovedMore.{removed_none, removed_more, lacked_fewer}

-- a row: a list, the polygon that cuts it, and how many cells it removes
pub record Row : Type 0 where
  pub list : List Rect
  pub polygon : List Rect
  pub cells : ℕ

-- the definition gives the row's number
abbrev pub Holds : Row → Type 0
Holds w = removed w.list w.polygon ≡ w.cells

-- every row of a table holds
abbrev pub AllHold : List Row → Type 0
AllHold [] = Unit {0}
AllHold (w ∷ l) = Holds w × AllHold l

-- a list that overlaps itself; a polygon that does; both, each rectangle given twice; the grid by itself; edge to edge
abbrev pub table : List Row
table =
    record { list = rect_of 0 0 4 4 ∷ rect_of 2 0 6 4 ∷ []; polygon = rect_of 3 0 5 4 ∷ []; cells = 8 }
    ∷ record { list = rect_of 0 0 10 10 ∷ []; polygon = rect_of 0 0 2 2 ∷ rect_of 1 1 3 3 ∷ []; cells = 7 }
    ∷ record {
      list = rect_of 0 0 4 4 ∷ rect_of 0 0 4 4 ∷ [];
      polygon = rect_of 2 2 6 6 ∷ rect_of 2 2 6 6 ∷ [];
      cells = 4;
    }
    ∷ record { list = rect_of 0 0 65536 65536 ∷ []; polygon = rect_of 0 0 65536 65536 ∷ []; cells = 4294967296 }
    ∷ record { list = rect_of 0 0 4 4 ∷ []; polygon = rect_of 4 0 8 4 ∷ []; cells = 0 }
    ∷ []

-- what the rectangles of a polygon remove from l: of each, the areas of the pieces that the later ones leave, less
-- those of the pieces that these and l leave
unfoldable by_areas : List Rect → List Rect → ℕ
by_areas l [] = 0
by_areas l (s ∷ p) = total_area (cut_all (s ∷ []) p) - total_area (cut_all (s ∷ []) (p ++ l)) + by_areas l p

removed_areas : (l p : List Rect) → all_valid p ≡ true → removed l p ≡ by_areas l p
unfolding by_areas all_valid
removed_areas l [] e = removed_none l
removed_areas l (s ∷ p) e =
    let k = split_and (valid s) (all_valid p) e in
    let ih = removed_areas l p k.1 in
    let m = removed_more l p s in
    let f = lacked_fewer l p s in
    let x = pieces_area s p k.0 in
    let y = pieces_area s (p ++ l) k.0 in
    omega arith

-- what is computed of a row: its polygon is valid, and the areas give its number
abbrev Computed : Row → Type 0
Computed w = (all_valid w.polygon ≡ true) × (by_areas w.list w.polygon ≡ w.cells)

abbrev AllComputed : List Row → Type 0
AllComputed [] = Unit {0}
AllComputed (w ∷ l) = Computed w × AllComputed l

computed_hold : (l : List Row) → AllComputed l → AllHold l
computed_hold [] h = tt
computed_hold (w ∷ l) h = (removed_areas w.list w.polygon h.0.0 ∙ h.0.1, computed_hold l h.1)

computed : AllComputed table
unfolding all_valid valid cut_all cut_list flat_map cut pieces x_ceiling x_floor y_ceiling y_floor overlap unless_empty non_empty total_area area
    by_areas
computed = ((refl, refl), ((refl, refl), ((refl, refl), ((refl, refl), ((refl, refl), tt)))))

-- all rows hold
pub cases_hold : AllHold table
cases_hold = computed_hold table computed
