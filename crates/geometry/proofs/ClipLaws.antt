-- Clipping to a side of a line, and refining the result.
use mathlib.Core.Path.{◌≡◌, ◌∙◌, ap}
use mathlib.Core.Bool.{true, false, not, ◌&&◌, ◌||◌, and-not_self, or-not_self}
use mathlib.Core.List.{List}
use Prim.Native.Nat.{◌≤◌, ◌<◌}
use native.Mathlib.Omega.{arith}
use borrow.Author.Tests.{lt-ltb, le-ltb, ltb-true, ltb-false, not-true}
use lib.ListN.{length}
use Rattle.polygons.proofs.Booleans.{same, both, split_and}
use Rattle.polygons.proofs.ListLaws.{length_flat_map}
use Rattle.geometry.specs.declared.rect.Cell.{Cell}
use Rattle.geometry.specs.declared.rect.Rect.{Rect}
use Rattle.geometry.specs.declared.rect.Line.{Line}
use Rattle.geometry.specs.declared.rect.Line.TheVariants.{AtX, AtY}
use Rattle.geometry.specs.declared.rect.Side.{Side}
use Rattle.geometry.specs.declared.rect.Side.TheVariants.{Left, Right}
use Rattle.geometry.specs.Cells.{on_grid, has_cell, valid, all_valid, any_has}
use Rattle.geometry.specs.Common.{overlap, unless_empty, common}
use Rattle.geometry.specs.Clip.{below, on_side, side_part, clip_rect, clip, clip_refined}
use Rattle.geometry.proofs.CellLaws.{rect_is, In, in_of, of_in, grid_of, valid_of, Within, has_unless_empty, valid_unless_empty, length_unless_empty, has_flat, valid_flat_of}
use Rattle.geometry.proofs.RefineLaws.{refine_cells, refine_length, refine_valid}

-- The cell is on the side: `on_side` as a fact that omega reads.
abbrev pub On : Side → Cell → Type 0
On (Left (AtX l)) c = c.x < l
On (Left (AtY l)) c = c.y < l
On (Right (AtX l)) c = l ≤ c.x
On (Right (AtY l)) c = l ≤ c.y

-- a cell on a side: the test gives the fact
pub on_of : (s : Side) (c : Cell) → on_side s c ≡ true → On s c
unfolding on_side below
on_of (Left (AtX l)) c e = ltb-true _ _ e
on_of (Left (AtY l)) c e = ltb-true _ _ e
on_of (Right (AtX l)) c e = ltb-false _ _ (not-true _ e)
on_of (Right (AtY l)) c e = ltb-false _ _ (not-true _ e)

-- a cell on a side: the fact gives the test
pub of_on : (s : Side) (c : Cell) → On s c → on_side s c ≡ true
unfolding on_side below
of_on (Left (AtX l)) c h = lt-ltb _ _ h
of_on (Left (AtY l)) c h = lt-ltb _ _ h
of_on (Right (AtX l)) c h = ap not (le-ltb _ _ h)
of_on (Right (AtY l)) c h = ap not (le-ltb _ _ h)

-- no cell is on both sides of one line
pub sides_disjoint : (l : Line) (c : Cell) → on_side (Left l) c && on_side (Right l) c ≡ false
unfolding on_side
sides_disjoint l c = and-not_self (below l c)

-- every cell is on one side of a line
pub sides_all : (l : Line) (c : Cell) → on_side (Left l) c || on_side (Right l) c ≡ true
unfolding on_side
sides_all l c = or-not_self (below l c)

in_part : (s : Side) (r : Rect) (c : Cell) → In (side_part s r) c → In r c × On s c
unfolding side_part
in_part (Left (AtX l)) r c i = (omega arith, omega arith)
in_part (Left (AtY l)) r c i = (omega arith, omega arith)
in_part (Right (AtX l)) r c i = (omega arith, omega arith)
in_part (Right (AtY l)) r c i = (omega arith, omega arith)

part_in : (s : Side) (r : Rect) (c : Cell) → In r c → On s c → In (side_part s r) c
unfolding side_part
part_in (Left (AtX l)) r c i h = omega arith
part_in (Left (AtY l)) r c i h = omega arith
part_in (Right (AtX l)) r c i h = omega arith
part_in (Right (AtY l)) r c i h = omega arith

part_within : (s : Side) (r : Rect) → Within (side_part s r) r
unfolding side_part
part_within (Left (AtX l)) r = omega arith
part_within (Left (AtY l)) r = omega arith
part_within (Right (AtX l)) r = omega arith
part_within (Right (AtY l)) r = omega arith

-- the cells of a rectangle's part on a side are the rectangle's cells on that side
pub side_cells : (s : Side) (r : Rect) (c : Cell) → has_cell (side_part s r) c ≡ has_cell r c && on_side s c
side_cells s r c = same _ _
    (λ t. let k = in_part s r c (in_of (side_part s r) c t) in both _ _ (of_in r c k.0) (of_on s c k.1))
    (λ t. let k = split_and _ _ t in of_in (side_part s r) c (part_in s r c (in_of r c k.0) (on_of s c k.1)))

module _ (s : Side) (p : List Rect) where
  -- the cells of a clipped list are the list's cells on that side
  pub clip_cells : (c : Cell) → any_has (clip s p) c ≡ any_has p c && on_side s c
  unfolding clip clip_rect
  clip_cells c = has_flat (clip_rect s) c (on_side s c) (λ r. has_unless_empty (side_part s r) c ∙ side_cells s r c) p

  -- clipping makes no list longer
  pub clip_length : length (clip s p) ≤ length p
  unfolding clip clip_rect
  clip_length = length_flat_map (clip_rect s) p (λ r. length_unless_empty (side_part s r))

  -- clipping keeps rectangles valid
  pub clip_valid : all_valid p ≡ true → all_valid (clip s p) ≡ true
  unfolding clip clip_rect
  clip_valid = valid_flat_of (clip_rect s) (λ r e. let v = valid_of r e in let w = part_within s r in valid_unless_empty (side_part s r) (omega arith) (omega arith)) p

  -- the cells of a clipped and refined list are the list's cells on that side
  pub clip_refined_cells : (c : Cell) → any_has (clip_refined s p) c ≡ any_has p c && on_side s c
  unfolding clip_refined clip
  clip_refined_cells c = refine_cells (clip s p) c ∙ clip_cells c

  -- clipping and refining makes no list longer
  pub clip_refined_length : length (clip_refined s p) ≤ length p
  unfolding clip_refined clip
  clip_refined_length = omega (arith, refine_length (clip s p), clip_length)

  -- clipping and refining keeps rectangles valid
  pub clip_refined_valid : all_valid p ≡ true → all_valid (clip_refined s p) ≡ true
  unfolding clip_refined clip
  clip_refined_valid v = refine_valid (clip s p) (clip_valid v)

-- the rectangle of all cells of the grid
abbrev pub grid : Rect
grid = record { llx = 0; lly = 0; urx = 65536; ury = 65536 }

-- the half-plane on a side of a line: the grid's part on it
unfoldable pub half : Side → Rect
half s = side_part s grid

-- the half-plane's cells are the grid's cells on that side
pub half_cells : (s : Side) (c : Cell) → on_grid c ≡ true → has_cell (half s) c ≡ on_side s c
unfolding half
half_cells s c e = let g = grid_of c e in side_cells s grid c ∙ rw (of_in grid c (omega arith))

part_is_overlap : (s : Side) (r : Rect) → valid r ≡ true → side_part s r ≡ overlap r (half s)
unfolding side_part overlap half
part_is_overlap (Left (AtX l)) r e = let v = valid_of r e in rect_is _ _ (omega arith) (omega arith) (omega arith) (omega arith)
part_is_overlap (Left (AtY l)) r e = let v = valid_of r e in rect_is _ _ (omega arith) (omega arith) (omega arith) (omega arith)
part_is_overlap (Right (AtX l)) r e = let v = valid_of r e in rect_is _ _ (omega arith) (omega arith) (omega arith) (omega arith)
part_is_overlap (Right (AtY l)) r e = let v = valid_of r e in rect_is _ _ (omega arith) (omega arith) (omega arith) (omega arith)

-- a valid rectangle clipped to a side is its common part with the half-plane
pub clip_is_common : (s : Side) (r : Rect) → valid r ≡ true → clip_rect s r ≡ common r (half s)
unfolding clip_rect common
clip_is_common s r e = ap unless_empty (part_is_overlap s r e)
