-- The calls of the drawing exercise: for each, whether its arguments are valid, and the limited list that its rule
-- gives.
-- docs/RULES.md 2.19, 2.22
use Rattle.std.specs.Prelude.{ℕ, Bool, ◌&&◌, List, [], ◌∷◌, map, Result}
use Rattle.std.proofs.Math.Option.{Option, some}
use Rattle.polygons.specs.Limits.{at_most, most_of_polygon, most_pieces}
use Rattle.geometry.specs.declared.rect.Cell.{Cell}
use Rattle.geometry.specs.declared.rect.Rect.{Rect}
use Rattle.geometry.specs.declared.containment.Containment.{Containment}
use Rattle.geometry.specs.Cells.{on_grid, valid}
use Rattle.geometry.specs.Common.{common_parts}
use Rattle.geometry.specs.Containment.{containment}
use Rattle.geometry.specs.Cut.{cut_list, cut_limited}
use Rattle.geometry.specs.Grow.{grown}
use Rattle.geometry.specs.Refine.{refine}
use Rattle.area.specs.Lacked.{extra_area}
use Rattle.drawing.specs.declared.answer.Refusal.{Refusal}
use Rattle.drawing.specs.Arguments.{given, is_list, is_result}
use Rattle.drawing.specs.Answers.{contains_of}

-- a list and a rectangle
unfoldable pub valid_with_rect : List ℕ → Rect → List ℕ → Bool
valid_with_rect list r out = is_result out && is_list most_pieces list && valid r

-- a list and a cell
unfoldable pub valid_with_cell : List ℕ → Cell → List ℕ → Bool
valid_with_cell list c out = is_result out && is_list most_pieces list && on_grid c

-- a list and a polygon
unfoldable pub valid_with_polygon : List ℕ → List ℕ → List ℕ → Bool
valid_with_polygon list p out = is_result out && is_list most_pieces list && is_list most_of_polygon p

-- a list alone
unfoldable pub valid_alone : List ℕ → List ℕ → Bool
valid_alone list out = is_result out && is_list most_pieces list

-- the common parts of a list with a rectangle
unfoldable pub common_drawn : List ℕ → Rect → Option (List Rect)
common_drawn list r = some (common_parts (given list) (r ∷ []))

-- a rectangle grown to a cell, the cell first
unfoldable pub grown_to : Cell → Rect → Rect
grown_to c r = grown r c

-- each rectangle of a list grown to a cell
unfoldable pub grow_drawn : List ℕ → Cell → Option (List Rect)
grow_drawn list c = some (map (grown_to c) (given list))

-- a list cut by a rectangle
unfoldable pub cut_drawn : List ℕ → Rect → Option (List Rect)
cut_drawn list s = at_most most_pieces (cut_list (given list) s)

-- a list cut by a polygon
unfoldable pub cut_polygon_drawn : List ℕ → List ℕ → Option (List Rect)
cut_polygon_drawn list p = cut_limited (given list) (given p)

-- a list refined
unfoldable pub refine_drawn : List ℕ → Option (List Rect)
refine_drawn list = some (refine (given list))

-- a polygon and a cell, and what the containment test reports of them
unfoldable pub valid_contains : List ℕ → Cell → Bool
valid_contains p c = is_list most_of_polygon p && on_grid c

unfoldable pub contains_drawn : List ℕ → Cell → Containment
contains_drawn p c = containment (given p) c

abbrev pub contains_answer : List ℕ → Cell → Result Containment Refusal
contains_answer p c = contains_of (valid_contains p c) (contains_drawn p c)

-- a rectangle and a cell, and the rectangle's extra area as that of a polygon of one rectangle
unfoldable pub valid_extra : Rect → Cell → Bool
valid_extra r c = valid r && on_grid c

unfoldable pub extra_drawn : Rect → Cell → ℕ
extra_drawn r c = extra_area (r ∷ []) r c
