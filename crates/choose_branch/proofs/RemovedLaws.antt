-- The cells that siblings remove from the grown rectangle: its area less those of the pieces, which share no cell.
use Prim.Native.Nat.{ℕ, ◌-◌, ◌≤◌, ◌<◌}
use mathlib.Core.Path.{◌≡◌, refl, sym, ap, subst, ◌∙◌}
use mathlib.Core.Bool.{true}
use mathlib.Core.List.{List, [], ◌∷◌}
use mathlib.Core.Option.{some}
use native.Mathlib.Omega.{arith}
use Rattle.std.proofs.Common.{Result, Ok}
use lib.ListN.{length, get_or}
use Rattle.polygons.proofs.Booleans.{both}
use Rattle.geometry.specs.declared.rect.Cell.{Cell}
use Rattle.geometry.specs.declared.rect.Rect.{Rect}
use Rattle.geometry.specs.declared.cut.TooMany.{TooMany}
use Rattle.geometry.specs.Cells.{valid, all_valid, on_grid, area, no_rect}
use Rattle.geometry.specs.Cut.{cut_all, cut_limited}
use Rattle.geometry.specs.Grow.{grown}
use Rattle.geometry.specs.Numbers.{rects_in, put_at, counted, Written}
use Rattle.geometry.proofs.CellLaws.{valid_at}
use Rattle.geometry.proofs.CutLaws.{limited_is, cut_all_valid}
use Rattle.geometry.proofs.GrowLaws.{grow_valid}
use Rattle.geometry.proofs.NumberLaws.{put_behind}
use Rattle.area.specs.Removed.{removed, total_area}
use Rattle.area.proofs.CutAreas.{pieces_area}
use Rattle.area.proofs.RemovedLaws.{removed_bound, removed_one, removed_by_areas}
use Rattle.memory.specs.Layout.{part, polygon_in}
use Rattle.layout.specs.Nodes.{count_at, child_at}
use Rattle.choose_branch.specs.Branches.{polygons_in, Branches}
use Rattle.choose_branch.specs.Pieces.{siblings, grown_rect}
use Rattle.choose_branch.specs.Removed.{RemovedBy}
use Rattle.choose_branch.proofs.ChildParts.{polygon_there}

module _ (g : Rect) (f : valid g ≡ true) where
  -- the grown rectangle g stood first in the list, which was cut by ss
  module _ (ss : List Rect) (list₀ list list₁ : List ℕ) (a : Result ℕ TooMany) (h : 1088 ≤ length list₀)
      (e : list ≡ put_at list₀ 0 g)
      (v : Written list (cut_limited (rects_in list 1) ss) a list₁) (n : ℕ) (q : a ≡ Ok n)
      (pieces : List Rect) (p : pieces ≡ rects_in list₁ n) where
    pieces_are : pieces ≡ cut_all (g ∷ []) ss
    unfolding rects_in counted
    pieces_are =
        let alone : rects_in list 1 ≡ g ∷ [] = ap (λ l. rects_in l 1) e ∙ put_behind list₀ 0 g (omega arith) in
        let w : cut_limited (g ∷ []) ss ≡ some pieces = sym (ap (λ l. cut_limited l ss) alone)
        ∙ sym v.list ∙ rw (q, p) in
        limited_is (g ∷ []) ss pieces w

    pub pieces_valid : all_valid pieces ≡ true
    unfolding all_valid
    pieces_valid = ap all_valid pieces_are ∙ cut_all_valid (g ∷ []) ss (both _ _ f refl)

    module _ (left whole : ℕ) (o : left ≡ total_area pieces) (u : whole ≡ area g) where
      pub left_less : left ≤ whole
      left_less =
          let x : total_area pieces ≡ total_area (cut_all (g ∷ []) ss) = ap total_area pieces_are in
          let y = pieces_area g ss f in
          let z = removed_one g ss f in
          omega arith

      pub removed_left : RemovedBy g ss (whole - left)
      removed_left =
          let x : total_area pieces ≡ total_area (cut_all (g ∷ []) ss) = ap total_area pieces_are in
          let y : whole - left ≡ removed (g ∷ []) ss = rw (o, u, x) (removed_by_areas g ss f) in
          let z = removed_bound (g ∷ []) ss in
          record { is = y; small = omega arith }

-- the branch at a place, which is at part j, its rect-th rectangle grown
module _ (m : List ℕ) (k place rect j : ℕ) (v : Branches m k) (h : place < count_at m k) (o : j ≡ child_at m k place)
    (c : Cell) (g : Rect)
    (e : g ≡ grown (get_or (polygon_in (part m j)) rect no_rect) c) where
  grown_there : g ≡ grown_rect (polygons_in m k) place rect c
  grown_there = e ∙ ap (λ x. grown (get_or x rect no_rect) c) (sym (polygon_there m k v place j h o))

  pub removed_there : (n : ℕ) → RemovedBy g (siblings (polygons_in m k) place) n
      → RemovedBy (grown_rect (polygons_in m k) place rect c) (siblings (polygons_in m k) place) n
  removed_there n w = subst (λ (x : Rect). RemovedBy x (siblings (polygons_in m k) place) n) grown_there w

  pub grown_good : rect < length (get_or (polygons_in m k) place []) → on_grid c ≡ true → valid g ≡ true
  grown_good f w =
      let q : all_valid (get_or (polygons_in m k) place []) ≡ true =
      ap all_valid (polygon_there m k v place (child_at m k place) h refl) ∙ (v.good place h).valid in
      rw grown_there (grow_valid (get_or (get_or (polygons_in m k) place []) rect no_rect) c
      (valid_at (get_or (polygons_in m k) place []) rect q f) w)
