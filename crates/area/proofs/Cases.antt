-- Document 01, 'Cells on paper': the rows G1 to G9 as one table, and one theorem.
-- A crate above may have rows of its own, with one constructor for a row of this table.
use mathlib.Core.Path.{◌≡◌, refl}
use mathlib.Core.List.{List, [], ◌∷◌}
use Prim.Native.Nat.{ℕ}
use Rattle.polygons.specs.Lists.{any}
use Rattle.geometry.specs.declared.rect.Cell.{Cell}
use Rattle.geometry.specs.declared.rect.Rect.{Rect}
use Rattle.geometry.specs.Cells.{on_grid, non_empty, valid, area, cell_of, rect_of}
use Rattle.geometry.specs.Common.{overlap, unless_empty}
use Rattle.geometry.specs.Grow.{grown}
use Rattle.geometry.specs.Cut.{x_ceiling, x_floor, y_ceiling, y_floor, pieces, cut}
use Rattle.geometry.specs.Refine.{first_from, within, strictly_within, contained, first_contained, stacked, abreast, joinable, union, joins, partner, has_partner, first_join, refine_step, refine_steps, refine}
use Rattle.area.specs.Lacked.{extra_area}
use Rattle.area.proofs.LackLaws.{extra_single}

-- a row: what is given, and the result
pub data Row : Type 0 where
  cuts : Rect → Rect → List Rect → Row
  takes : Rect → Cell → Rect → ℕ → Row
  refines : List Rect → List Rect → Row

-- the definitions give the row's result; a rectangle that grows is 'taken as a polygon of one rectangle'
abbrev pub Holds : Row → Type 0
Holds (cuts r s l) = cut r s ≡ l
Holds (takes r c g n) = (grown r c ≡ g) × (extra_area (r ∷ []) r c ≡ n)
Holds (refines l m) = refine l ≡ m

-- every row of a table holds
abbrev pub AllHold : List Row → Type 0
AllHold [] = Unit {0}
AllHold (r ∷ l) = Holds r × AllHold l

-- the rows, in the document's order
abbrev pub table : List Row
table =
    -- G1
    cuts (rect_of 0 0 10 10) (rect_of 4 4 6 12) (rect_of 6 0 10 10 ∷ rect_of 0 0 4 10 ∷ rect_of 4 0 6 4 ∷ [])
    -- G2
    ∷ cuts (rect_of 0 0 10 10) (rect_of 3 3 5 5)
    (rect_of 5 0 10 10 ∷ rect_of 0 0 3 10 ∷ rect_of 3 5 5 10 ∷ rect_of 3 0 5 3 ∷ [])
    -- G3
    ∷ cuts (rect_of 0 0 4 4) (rect_of 4 0 8 4) (rect_of 0 0 4 4 ∷ [])
    -- G4
    ∷ cuts (rect_of 0 0 4 4) (rect_of 0 0 4 4) []
    -- G5
    ∷ takes (rect_of 2 2 4 4) (cell_of 4 3) (rect_of 2 2 5 4) 2
    -- G6
    ∷ takes (rect_of 2 2 4 4) (cell_of 3 3) (rect_of 2 2 4 4) 0
    -- G7
    ∷ refines (rect_of 0 0 2 4 ∷ rect_of 2 0 5 4 ∷ rect_of 1 1 2 2 ∷ []) (rect_of 0 0 5 4 ∷ [])
    -- G8
    ∷ refines (rect_of 0 0 2 2 ∷ rect_of 0 0 2 2 ∷ []) (rect_of 0 0 2 2 ∷ [])
    -- G9
    ∷ refines (rect_of 0 0 2 2 ∷ rect_of 2 2 4 4 ∷ []) (rect_of 0 0 2 2 ∷ rect_of 2 2 4 4 ∷ [])
    ∷ []

-- the extra areas of G5 and G6
extra_5 : extra_area (rect_of 2 2 4 4 ∷ []) (rect_of 2 2 4 4) (cell_of 4 3) ≡ 2
unfolding valid on_grid area grown
extra_5 = extra_single (rect_of 2 2 4 4) (cell_of 4 3) refl refl

extra_6 : extra_area (rect_of 2 2 4 4 ∷ []) (rect_of 2 2 4 4) (cell_of 3 3) ≡ 0
unfolding valid on_grid area grown
extra_6 = extra_single (rect_of 2 2 4 4) (cell_of 3 3) refl refl

-- all rows hold
pub cases_hold : AllHold table
unfolding non_empty overlap unless_empty grown x_ceiling x_floor y_ceiling y_floor pieces cut first_from any within strictly_within contained
    first_contained stacked abreast joinable union joins partner has_partner first_join refine_step refine_steps refine
cases_hold = (refl, (refl, (refl, (refl, ((refl, extra_5), ((refl, extra_6), (refl, (refl, (refl, tt)))))))))
