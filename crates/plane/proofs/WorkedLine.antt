-- The line of a routing node worked out by its candidates.
use Prim.Native.Nat.{ℕ}
use mathlib.Core.Path.{◌≡◌, refl, sym, ◌∙◌}
use mathlib.Core.List.{List, [], ◌∷◌, map, flat_map}
use native.Mathlib.Omega.{arith}
use Rattle.polygons.specs.Lists.{least}
use Rattle.geometry.specs.declared.rect.Line.TheVariants.{AtY}
use Rattle.geometry.specs.Cells.{on_grid, cell_of}
use Rattle.geometry.specs.Clip.{below}
use Rattle.tree.specs.Lists.{keep, All}
use Rattle.plane.specs.Best.{greatest, scan}
use Rattle.plane.specs.Lines.{CellEntry, holds_on, node_line}
use Rattle.plane.specs.Candidates.{extent_of, extents, candidates, best_candidate, tried, least_key, numbered_line, key_line}
use Rattle.plane.proofs.NodeLine.{GridGroups, Fits}
use Rattle.plane.proofs.Extents.{SomeEach}
use Rattle.plane.proofs.Candidates.{candidate_line}

-- nine branches, each with two entries in one row of cells: every line in x has all of them on one side or on both
abbrev row : ℕ → List CellEntry
row y = record { cell = cell_of 3 y; tag = 0 } ∷ record { cell = cell_of 20 y; tag = 1 } ∷ []

abbrev rows : List (List CellEntry)
rows = map row (0 ∷ 1 ∷ 2 ∷ 3 ∷ 4 ∷ 5 ∷ 6 ∷ 7 ∷ 8 ∷ [])

rows_some : SomeEach rows
unfolding All
rows_some = (omega arith, (omega arith, (omega arith, (omega arith, (omega arith, (omega arith, (omega arith, (omega arith, (omega arith, tt)))))))))

rows_grid : GridGroups rows
unfolding All on_grid
rows_grid =
    ((refl, (refl, tt)), ((refl, (refl, tt)), ((refl, (refl, tt)), ((refl, (refl, tt)), ((refl, (refl, tt)), ((refl, (refl, tt)), ((refl, (refl, tt)), ((refl, (refl, tt)), ((refl, (refl, tt)), tt)))))))))

rows_fit : Fits holds_on 8 rows (AtY 1)
unfolding keep below
rows_fit = record { lefts_some = omega arith; lefts_few = omega arith; rights_some = omega arith; rights_few = omega arith }

candidates_give : best_candidate 8 (extents rows) ≡ AtY 1
unfolding best_candidate candidates flat_map scan keep extent_of least greatest
candidates_give = refl

-- so y, l = 1
pub rows_line : node_line 8 rows ≡ AtY 1
rows_line = sym (candidate_line 8 rows rows_some rows_grid (AtY 1, rows_fit)) ∙ candidates_give

-- and the least key gives it too
pub rows_key : key_line (least_key 8 (extents rows) 4294967295 (candidates (extents rows))) ≡ AtY 1
unfolding candidates flat_map least_key tried key_line numbered_line keep extent_of least greatest
rows_key = refl
