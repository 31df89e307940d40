-- The plane: rectangles as the tree's boxes, and what insertion does at the root.
-- docs/RULES.md 3.4, 4.1, 5.13
use Rattle.std.specs.Prelude.{ℕ, ◌+◌, true, ◌&&◌, ◌≡◌, [], ◌∷◌, eqb}
use Rattle.geometry.specs.declared.rect.Cell.{Cell}
use Rattle.geometry.specs.declared.rect.Rect.{Rect}
use Rattle.geometry.specs.declared.rect.Line.{Line}
use Rattle.geometry.specs.declared.rect.Side.{Side as RectSide}
use Rattle.geometry.specs.declared.rect.Side.TheVariants.{Left, Right}
use Rattle.geometry.specs.Cells.{on_grid, has_cell, valid}
use Rattle.geometry.specs.Common.{common}
use Rattle.geometry.specs.Grow.{grown}
use Rattle.geometry.specs.Cut.{cut}
use Rattle.geometry.specs.Refine.{refine}
use Rattle.geometry.specs.Clip.{below, clip_rect}
use Rattle.distance.specs.Distance.{squared, rect_distance}
use Rattle.area.specs.CellCount.{cell_count}
use Rattle.tree.specs.Space.{Space, Side, left, right}
use Rattle.tree.specs.Root.{Root}
use Rattle.tree.specs.Boxes.{Boxes}
use Rattle.tree.specs.BoxSpace.{space_of, root_of}
use Rattle.plane.specs.Lines.{x_of, y_of, leaf_line, node_line}

-- the tree's side of a line as the geometry's
abbrev pub rect_side : Side Line → RectSide
rect_side (left l) = Left l
rect_side (right l) = Right l

-- rectangles as boxes, with the fanout
abbrev pub plane : ℕ → Boxes
plane fanout = record {
  Cell = Cell;
  Real = λ c. on_grid c ≡ true;
  Box = Rect;
  Line = Line;
  same = λ c d. eqb c.x d.x && eqb c.y d.y;
  has = has_cell;
  valid = valid;
  below = below;
  clip = λ s r. clip_rect (rect_side s) r;
  common = common;
  grow = grown;
  count = cell_count;
  cut = cut;
  refine = refine;
  leaf_line = leaf_line;
  node_line = node_line fanout;
  distance = squared;
  min_distance = rect_distance;
  ties = λ e. x_of e ∷ y_of e ∷ [];
  most = fanout;
}

-- the plane as the tree sees it
abbrev pub plane_space : ℕ → Space
plane_space fanout = space_of (plane fanout)

-- the rectangle of one cell
unfoldable pub cell_rect : Cell → Rect
cell_rect c = record { llx = c.x; lly = c.y; urx = c.x + 1; ury = c.y + 1 }

-- 'The root's polygon is one rectangle': 'an empty index gets a leaf with that cell alone', and 'The root's rectangle
-- grows to the cell'
abbrev pub plane_root : (fanout : ℕ) → Root (plane_space fanout)
plane_root fanout = root_of (plane fanout) cell_rect
