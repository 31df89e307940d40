-- Two insertions worked out from the definitions.
use Prim.Native.Nat.{ℕ}
use mathlib.Core.Path.{◌≡◌, refl, ◌∙◌}
use mathlib.Core.List.{[], ◌∷◌, flat_map}
use mathlib.Core.Option.{some, bind}
use Rattle.polygons.specs.Limits.{at_most}
use Rattle.polygons.specs.Lists.{any, least}
use Rattle.polygons.specs.Rules.{cut_each}
use Rattle.geometry.specs.Cells.{on_grid, has_cell, non_empty, valid, area, cell_of, rect_of}
use Rattle.geometry.specs.Common.{overlap, unless_empty, common}
use Rattle.geometry.specs.Grow.{grown}
use Rattle.geometry.specs.Cut.{cut, x_ceiling, x_floor, y_ceiling, y_floor}
use Rattle.geometry.specs.Refine.{first_from, within, strictly_within, contained, first_contained, stacked, abreast, joinable, union, joins, partner, has_partner, first_join, refine_step, refine_steps, refine}
use Rattle.geometry.specs.Clip.{below, side_part, clip_rect}
use Rattle.area.proofs.LackLaws.{extra_single}
use Rattle.tree.specs.Lists.{total}
use Rattle.tree.specs.Split.{half, split}
use Rattle.tree.specs.Insert.{insert_at, insert_tree}
use Rattle.tree.specs.Tree.{Tree}
use Rattle.tree.specs.Boxes.{any_has, extra}
use Rattle.tree.specs.Search.{first}
use Rattle.tree.specs.Step2.{choose, grown_poly}
use Rattle.plane.specs.Lines.{CellEntry, leaf_line}
use Rattle.plane.specs.Plane.{plane, plane_space, plane_root}
use Rattle.plane.proofs.Rects.{extra_area_lem}

abbrev pub entry : ℕ → ℕ → ℕ → CellEntry
entry a b t = record { cell = cell_of a b; tag = t }

-- G10's leaf before its ninth cell
abbrev before : Tree (plane_space 8)
before = record {
  level = 0;
  root = rect_of 0 5 8 6 ∷ [];
  items = entry 0 5 0 ∷ entry 1 5 1 ∷ entry 2 5 2 ∷ entry 3 5 3
      ∷ entry 4 5 4 ∷ entry 5 5 5 ∷ entry 6 5 6 ∷ entry 7 5 7 ∷ [];
}

-- and after it: split at x, l = 5
abbrev after : Tree (plane_space 8)
after = record {
  level = 1;
  root = rect_of 0 5 9 6 ∷ [];
  items =
      record {
        poly = rect_of 0 5 5 6 ∷ [];
        child = entry 0 5 0 ∷ entry 1 5 1 ∷ entry 2 5 2 ∷ entry 3 5 3 ∷ entry 4 5 4
            ∷ [];
      }
      ∷ record { poly = rect_of 5 5 9 6 ∷ []; child = entry 5 5 5 ∷ entry 6 5 6 ∷ entry 7 5 7 ∷ entry 8 5 8 ∷ [] } ∷ [];
}

pub ninth : insert_tree (plane_space 8) (plane_root 8) (some before) (entry 8 5 8) ≡ some after
unfolding insert_tree insert_at bind split half flat_map leaf_line total below side_part clip_rect unless_empty non_empty grown refine refine_steps refine_step first_from any contained partner has_partner first_contained first_join
ninth = refl

-- a tenth, into the left half, which grows by step 2
abbrev grown_after : Tree (plane_space 8)
grown_after = record {
  level = 1;
  root = rect_of 0 5 9 8 ∷ [];
  items =
      record {
        poly = rect_of 0 5 5 8 ∷ [];
        child = entry 0 5 0 ∷ entry 1 5 1 ∷ entry 2 5 2 ∷ entry 3 5 3 ∷ entry 4 5 4
            ∷ entry 3 7 9 ∷ [];
      }
      ∷ record { poly = rect_of 5 5 9 6 ∷ []; child = entry 5 5 5 ∷ entry 6 5 6 ∷ entry 7 5 7 ∷ entry 8 5 8 ∷ [] } ∷ [];
}

-- the extra areas of the two branches' polygons: each is of one rectangle
left_extra : extra (plane 8) (rect_of 0 5 5 6 ∷ []) (rect_of 0 5 5 6) (cell_of 3 7) ≡ 10
unfolding area grown valid on_grid
left_extra = extra_area_lem 8 (rect_of 0 5 5 6 ∷ []) (rect_of 0 5 5 6) (cell_of 3 7)
    ∙ extra_single (rect_of 0 5 5 6) (cell_of 3 7) refl refl

right_extra : extra (plane 8) (rect_of 5 5 9 6 ∷ []) (rect_of 5 5 9 6) (cell_of 3 7) ≡ 14
unfolding area grown valid on_grid
right_extra = extra_area_lem 8 (rect_of 5 5 9 6 ∷ []) (rect_of 5 5 9 6) (cell_of 3 7)
    ∙ extra_single (rect_of 5 5 9 6) (cell_of 3 7) refl refl

pub tenth : insert_tree (plane_space 8) (plane_root 8) (some after) (entry 3 7 9) ≡ some grown_after
unfolding insert_tree insert_at bind split half flat_map leaf_line total choose grown_poly cut_each at_most any_has any first least has_cell area grown overlap common cut x_ceiling x_floor y_ceiling y_floor unless_empty non_empty within strictly_within stacked abreast joinable union joins refine refine_steps refine_step first_from contained partner has_partner first_contained first_join
tenth = simp (left_extra, right_extra)
