-- Extra areas worked out: some polygons and cells as one table, and one theorem.
use mathlib.Core.Path.{◌≡◌, refl, ◌∙◌}
use mathlib.Core.Bool.{true}
use mathlib.Core.List.{List, [], ◌∷◌, map, flat_map}
use Prim.Native.Nat.{ℕ}
use Rattle.polygons.proofs.Booleans.{split_and}
use Rattle.geometry.specs.declared.rect.Cell.{Cell}
use Rattle.geometry.specs.declared.rect.Rect.{Rect}
use Rattle.geometry.specs.Cells.{on_grid, non_empty, valid, all_valid, area, cell_of, rect_of}
use Rattle.geometry.specs.Common.{overlap, unless_empty}
use Rattle.geometry.specs.Cut.{x_ceiling, x_floor, y_ceiling, y_floor, pieces, cut, cut_list, cut_all}
use Rattle.geometry.specs.Grow.{grown}
use Rattle.area.specs.Lacked.{extra_area}
use Rattle.area.specs.Removed.{total_area}
use Rattle.area.proofs.CutAreas.{extra_pieces}

-- a row: a polygon, a cell, and the extra area of each of its rectangles grown to the cell
pub record Row : Type 0 where
  pub polygon : List Rect
  pub cell : Cell
  pub extras : List ℕ

-- the definitions give the row's numbers
abbrev pub Holds : Row → Type 0
Holds w = map (λ r. extra_area w.polygon r w.cell) w.polygon ≡ w.extras

-- every row of a table holds
abbrev pub AllHold : List Row → Type 0
AllHold [] = Unit {0}
AllHold (w ∷ l) = Holds w × AllHold l

-- two that cross at a corner; a U; one rectangle twice; a tie; the two polygons of a worked insertion
abbrev pub table : List Row
table =
    record { polygon = rect_of 0 0 10 1 ∷ rect_of 0 0 1 10 ∷ []; cell = cell_of 9 9; extras = 81 ∷ 81 ∷ [] }
    ∷ record {
      polygon = rect_of 0 0 2 10 ∷ rect_of 4 0 6 10 ∷ rect_of 2 0 4 2 ∷ [];
      cell = cell_of 3 9;
      extras = 16 ∷ 8 ∷ 16 ∷ [];
    }
    ∷ record { polygon = rect_of 2 2 4 4 ∷ rect_of 2 2 4 4 ∷ []; cell = cell_of 4 3; extras = 2 ∷ 2 ∷ [] }
    ∷ record { polygon = rect_of 0 0 4 4 ∷ rect_of 4 0 6 2 ∷ []; cell = cell_of 5 3; extras = 4 ∷ 4 ∷ [] }
    ∷ record { polygon = rect_of 1 1 4 7 ∷ rect_of 4 1 5 3 ∷ []; cell = cell_of 0 3; extras = 6 ∷ 4 ∷ [] }
    ∷ record { polygon = rect_of 4 3 7 7 ∷ []; cell = cell_of 0 3; extras = 16 ∷ [] }
    ∷ []

-- the extra areas of some rectangles by their pieces
by_pieces : (p : List Rect) (c : Cell) (l : List Rect) → all_valid l ≡ true → on_grid c ≡ true
    → map (λ r. extra_area p r c) l ≡ map (λ r. total_area (cut_all (grown r c ∷ []) p)) l
unfolding all_valid
by_pieces p c [] e f = refl
by_pieces p c (r ∷ l) e f =
    let k = split_and (valid r) (all_valid l) e in
    rw (extra_pieces p r c k.0 f, by_pieces p c l k.1 f)

-- what is computed of a row: its rectangles and its cell are the grid's, and the areas of the pieces are its numbers
abbrev Computed : Row → Type 0
Computed w = (all_valid w.polygon ≡ true) × (on_grid w.cell ≡ true)
    × (map (λ r. total_area (cut_all (grown r w.cell ∷ []) w.polygon)) w.polygon ≡ w.extras)

abbrev AllComputed : List Row → Type 0
AllComputed [] = Unit {0}
AllComputed (w ∷ l) = Computed w × AllComputed l

computed_hold : (l : List Row) → AllComputed l → AllHold l
computed_hold [] h = tt
computed_hold (w ∷ l) h =
    let k = h.0 in
    (by_pieces w.polygon w.cell w.polygon k.0 k.1 ∙ k.2, computed_hold l h.1)

computed : AllComputed table
unfolding all_valid valid on_grid grown cut_all cut_list flat_map cut pieces x_ceiling x_floor y_ceiling y_floor overlap unless_empty non_empty
    total_area area
computed =
    ((refl, refl, refl), ((refl, refl, refl), ((refl, refl, refl), ((refl, refl, refl), ((refl, refl, refl), ((refl, refl, refl), tt))))))

-- all rows hold
pub cases_hold : AllHold table
cases_hold = computed_hold table computed
