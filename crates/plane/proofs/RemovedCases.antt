-- Request A.6: the cells that siblings remove, in two insertions worked out from the definitions.
use mathlib.Core.Path.{◌≡◌, refl, sym, ◌∙◌}
use mathlib.Core.List.{[], ◌∷◌, flat_map}
use mathlib.Core.Option.{Option, none, some, bind}
use Rattle.polygons.specs.Lists.{any, least}
use Rattle.geometry.specs.Cells.{on_grid, has_cell, non_empty, valid, area, cell_of, rect_of}
use Rattle.geometry.specs.Common.{overlap, unless_empty}
use Rattle.geometry.specs.Grow.{grown}
use Rattle.geometry.specs.Cut.{pieces, cut, cut_list, cut_all, x_ceiling, x_floor, y_ceiling, y_floor}
use Rattle.area.specs.Removed.{removed, total_area}
use Rattle.area.proofs.CutAreas.{extra_pieces}
use Rattle.area.proofs.RemovedLaws.{removed_by_areas}
use Rattle.tree.specs.Boxes.{any_has, extra}
use Rattle.tree.specs.Removed.{of_chosen, removed_at, removed_total}
use Rattle.tree.specs.Search.{first}
use Rattle.tree.specs.Space.{Chosen}
use Rattle.tree.specs.Step2.{removed as removed_here}
use Rattle.tree.specs.Tree.{Tree}
use Rattle.plane.specs.Plane.{plane, plane_space, plane_root}
use Rattle.plane.proofs.Rects.{extra_area_lem}
use Rattle.plane.proofs.Worked.{entry}

-- at a leaf no cell is removed, whatever was chosen
none_below : {P A : Type 0} (o : Option (Chosen P A)) → of_chosen (λ ch. 0) o ≡ 0
none_below none = refl
none_below (some ch) = refl

-- ten entries in two leaves
abbrev ten : Tree (plane_space 8)
ten = record {
  level = 1;
  root = rect_of 1 1 7 7 ∷ [];
  items =
      record {
        poly = rect_of 1 1 4 7 ∷ [];
        child = entry 3 5 1 ∷ entry 2 4 1 ∷ entry 2 6 1 ∷ entry 2 3 1 ∷ entry 1 1 1 ∷ [];
      }
      ∷ record {
        poly = rect_of 4 3 7 7 ∷ [];
        child = entry 6 3 1 ∷ entry 5 4 1 ∷ entry 6 5 1 ∷ entry 4 4 1 ∷ entry 5 5 1 ∷ [];
      } ∷ [];
}

-- an eleventh, (4,1), made the left leaf's polygon two rectangles
abbrev eleven : Tree (plane_space 8)
eleven = record {
  level = 1;
  root = rect_of 1 1 7 7 ∷ [];
  items =
      record {
        poly = rect_of 1 1 4 7 ∷ rect_of 4 1 5 3 ∷ [];
        child = entry 3 5 1 ∷ entry 2 4 1 ∷ entry 2 6 1 ∷ entry 2 3 1 ∷ entry 1 1 1 ∷ entry 4 1 1 ∷ [];
      }
      ∷ record {
        poly = rect_of 4 3 7 7 ∷ [];
        child = entry 6 3 1 ∷ entry 5 4 1 ∷ entry 6 5 1 ∷ entry 4 4 1 ∷ entry 5 5 1 ∷ [];
      } ∷ [];
}

-- the extra areas for (4,1): 6 and 6, so that the left one grows
left_11 : extra (plane 8) (rect_of 1 1 4 7 ∷ []) (rect_of 1 1 4 7) (cell_of 4 1) ≡ 6
unfolding on_grid valid area grown non_empty overlap unless_empty x_ceiling x_floor y_ceiling y_floor pieces cut cut_list cut_all total_area flat_map
left_11 = extra_area_lem 8 _ _ _ ∙ extra_pieces (rect_of 1 1 4 7 ∷ []) (rect_of 1 1 4 7) (cell_of 4 1) refl refl

right_11 : extra (plane 8) (rect_of 4 3 7 7 ∷ []) (rect_of 4 3 7 7) (cell_of 4 1) ≡ 6
unfolding on_grid valid area grown non_empty overlap unless_empty x_ceiling x_floor y_ceiling y_floor pieces cut cut_list cut_all total_area flat_map
right_11 = extra_area_lem 8 _ _ _ ∙ extra_pieces (rect_of 4 3 7 7 ∷ []) (rect_of 4 3 7 7) (cell_of 4 1) refl refl

-- (4,3), (4,4), (4,5) and (4,6) are the right one's
removed_11 : removed (rect_of 1 1 5 7 ∷ []) (rect_of 4 3 7 7 ∷ []) ≡ 4
unfolding on_grid valid area non_empty overlap unless_empty x_ceiling x_floor y_ceiling y_floor pieces cut cut_list cut_all total_area flat_map
removed_11 = sym (removed_by_areas (rect_of 1 1 5 7) (rect_of 4 3 7 7 ∷ []) refl)

pub eleventh : removed_total (plane_space 8) (plane_root 8) (some ten) (cell_of 4 1) ≡ 4
unfolding removed_total removed_at removed_here removed bind any_has any first least flat_map has_cell grown
eleventh = simp (left_11, right_11, removed_11, none_below)

-- the extra areas for (0,3), of each polygon whole: 6 and 4 in the left leaf, 16 in the right one; the second
-- rectangle grows
first_12 : extra (plane 8) (rect_of 1 1 4 7 ∷ rect_of 4 1 5 3 ∷ []) (rect_of 1 1 4 7) (cell_of 0 3) ≡ 6
unfolding on_grid valid area grown non_empty overlap unless_empty x_ceiling x_floor y_ceiling y_floor pieces cut cut_list cut_all total_area flat_map
first_12 = extra_area_lem 8 _ _ _ ∙ extra_pieces (rect_of 1 1 4 7 ∷ rect_of 4 1 5 3 ∷ []) (rect_of 1 1 4 7)
    (cell_of 0 3) refl refl

second_12 : extra (plane 8) (rect_of 1 1 4 7 ∷ rect_of 4 1 5 3 ∷ []) (rect_of 4 1 5 3) (cell_of 0 3) ≡ 4
unfolding on_grid valid area grown non_empty overlap unless_empty x_ceiling x_floor y_ceiling y_floor pieces cut cut_list cut_all total_area flat_map
second_12 = extra_area_lem 8 _ _ _
    ∙ extra_pieces (rect_of 1 1 4 7 ∷ rect_of 4 1 5 3 ∷ []) (rect_of 4 1 5 3) (cell_of 0 3) refl refl

right_12 : extra (plane 8) (rect_of 4 3 7 7 ∷ []) (rect_of 4 3 7 7) (cell_of 0 3) ≡ 16
unfolding on_grid valid area grown non_empty overlap unless_empty x_ceiling x_floor y_ceiling y_floor pieces cut cut_list cut_all total_area flat_map
right_12 = extra_area_lem 8 _ _ _ ∙ extra_pieces (rect_of 4 3 7 7 ∷ []) (rect_of 4 3 7 7) (cell_of 0 3) refl refl

-- of (0,1)-(5,4) the right one has (4,3)
removed_12 : removed (rect_of 0 1 5 4 ∷ []) (rect_of 4 3 7 7 ∷ []) ≡ 1
unfolding on_grid valid area non_empty overlap unless_empty x_ceiling x_floor y_ceiling y_floor pieces cut cut_list cut_all total_area flat_map
removed_12 = sym (removed_by_areas (rect_of 0 1 5 4) (rect_of 4 3 7 7 ∷ []) refl)

pub twelfth : removed_total (plane_space 8) (plane_root 8) (some eleven) (cell_of 0 3) ≡ 1
unfolding removed_total removed_at removed_here removed bind any_has any first least flat_map has_cell grown
twelfth = simp (first_12, second_12, right_12, removed_12, none_below)
