-- The rectangles of the plane have the laws that boxes need.
use Prim.Native.Nat.{ℕ, ◌≤◌}
use mathlib.Core.Bool.{Bool, true, ◌&&◌}
use mathlib.Core.Path.{◌≡◌, refl, ap, ◌∙◌}
use mathlib.Core.List.{List, [], ◌∷◌, flat_map, append-nil}
use lib.Dec.{eqb}
use lib.ListN.{length, get_or}
use native.Mathlib.Omega.{arith}
use borrow.Author.Tests.{eqb-true, eq-eqb}
use Rattle.polygons.specs.Lists.{any}
use Rattle.polygons.proofs.Booleans.{both, split_and}
use Rattle.geometry.specs.declared.rect.Cell.{Cell}
use Rattle.geometry.specs.declared.rect.Rect.{Rect}
use Rattle.geometry.specs.declared.rect.Line.{Line}
use Rattle.geometry.specs.Cells.{has_cell, valid, all_valid, any_has}
use Rattle.geometry.specs.Common.{overlap, common}
use Rattle.geometry.specs.Grow.{grown}
use Rattle.geometry.specs.Refine.{refine}
use Rattle.geometry.specs.Clip.{on_side, clip_rect, side_part, clip}
use Rattle.geometry.proofs.CellLaws.{valid_of, valid_unless_empty, length_unless_empty, has_unless_empty, within_cells, valid_grid}
use Rattle.geometry.proofs.CommonLaws.{common_cells}
use Rattle.geometry.proofs.GrowLaws.{grow_has, grow_contains}
use Rattle.geometry.proofs.CutLaws.{cut_cells}
use Rattle.geometry.proofs.RefineLaws.{refine_cells, refine_length, refine_valid}
use Rattle.geometry.proofs.ClipLaws.{side_cells, clip_valid}
use Rattle.distance.proofs.DistanceLaws.{rect_least, rect_attained}
use Rattle.area.specs.Lacked.{extra_area}
use Rattle.tree.specs.Lists.{All}
use Rattle.tree.specs.Space.{Side, left, right}
use Rattle.tree.specs.Nodes.{on}
use Rattle.tree.specs.Boxes.{extra}
use Rattle.tree.proofs.Laws.{Laws}
use Rattle.tree.proofs.BoxLaws.{BoxLaws}
use Rattle.tree.proofs.BoxSpace.{space_laws}
use Rattle.plane.specs.Lines.{CellEntry, x_of, y_of}
use Rattle.plane.specs.Plane.{rect_side, plane, plane_space}

-- valid lists, as boxes and as rectangles
pub all_valid_lem : (l : List Rect) → all_valid l ≡ true → All (λ q. valid q ≡ true) l
unfolding all_valid All
all_valid_lem [] e = tt
all_valid_lem (r ∷ l) e = let k = split_and (valid r) (all_valid l) e in (k.0, all_valid_lem l k.1)

pub valid_all : (l : List Rect) → All (λ q. valid q ≡ true) l → all_valid l ≡ true
unfolding all_valid All
valid_all [] h = refl
valid_all (r ∷ l) h = both _ _ h.0 (valid_all l h.1)

-- the tree's extra area is that of rectangles
pub extra_area_lem : (fanout : ℕ) (p : List Rect) (r : Rect) (c : Cell) → extra (plane fanout) p r c ≡ extra_area p r c
unfolding extra extra_area
extra_area_lem fanout p r c = refl

on_side_lem : (fanout : ℕ) (s : Side Line) (c : Cell) → on_side (rect_side s) c ≡ on (plane_space fanout) s c
unfolding on_side
on_side_lem fanout (left l) c = refl
on_side_lem fanout (right l) c = refl

clip_cells : (fanout : ℕ) (s : Side Line) (r : Rect) (c : Cell) → any (λ q. has_cell q c) (clip_rect (rect_side s) r) ≡ has_cell r c && on (plane_space fanout) s c
unfolding clip_rect any_has
clip_cells fanout s r c =
    has_unless_empty (side_part (rect_side s) r) c
    ∙ side_cells (rect_side s) r c
    ∙ ap (λ (b : Bool). has_cell r c && b) (on_side_lem fanout s c)

clip_one : (s : Side Line) (r : Rect) → length (clip_rect (rect_side s) r) ≤ 1
unfolding clip_rect
clip_one s r = length_unless_empty (side_part (rect_side s) r)

clip_all_valid : (s : Side Line) (r : Rect) → valid r ≡ true → All (λ q. valid q ≡ true) (clip_rect (rect_side s) r)
unfolding clip flat_map all_valid
clip_all_valid s r e = all_valid_lem _ (rw append-nil at (clip_valid (rect_side s) (r ∷ []) (both _ _ e refl)))

common_all_valid : (r s : Rect) → valid s ≡ true → All (λ q. valid q ≡ true) (common r s)
unfolding common overlap
common_all_valid r s e = let v = valid_of s e in all_valid_lem _ (valid_unless_empty (overlap r s) (omega arith) (omega arith))

-- cells of equal coordinates are equal
pub same_cell : (c d : Cell) → eqb c.x d.x && eqb c.y d.y ≡ true → c ≡ d
same_cell c d h =
    let k = split_and (eqb c.x d.x) (eqb c.y d.y) h in
    let a = eqb-true c.x d.x k.0 in let b = eqb-true c.y d.y k.1 in
    λ i. record { x = a i; y = b i }

-- 'ties to the smaller x, then the smaller y': entries that tie in both are of one cell
ties_cell : (e f : CellEntry) → x_of e ∷ y_of e ∷ [] ≡ x_of f ∷ y_of f ∷ [] → e.cell ≡ f.cell
ties_cell e f h =
    let a : e.cell.x ≡ f.cell.x = ap (λ l. get_or l 0 0) h in let b : e.cell.y ≡ f.cell.y = ap (λ l. get_or l 1 0) h in
    λ i. record { x = a i; y = b i }

-- the laws of boxes
pub plane_laws : (fanout : ℕ) → BoxLaws (plane fanout)
unfolding any_has
plane_laws fanout = record {
  clip_cells = clip_cells fanout;
  common_cells = common_cells;
  cut_cells = cut_cells;
  refine_cells = refine_cells;
  common_valid = common_all_valid;
  refine_valid = λ l h. all_valid_lem (refine l) (refine_valid l (valid_all l h));
  clip_one = clip_one;
  clip_valid = clip_all_valid;
  refine_short = refine_length;
  valid_real = λ r c v h. valid_grid r c v h;
  same_is = same_cell;
  same_self = λ c. both _ _ (eq-eqb c.x c.x refl) (eq-eqb c.y c.y refl);
  grow_cell = grow_has;
  grow_old = λ r c d h. within_cells r (grown r c) d (grow_contains r c) h;
  distance_low = rect_least;
  distance_met = rect_attained;
  ties_cell = ties_cell;
}

-- the laws of the tree's space
pub plane_space_laws : (fanout : ℕ) → Laws (plane_space fanout)
plane_space_laws fanout = space_laws (plane fanout) (plane_laws fanout)
