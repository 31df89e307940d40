-- The extent of entries: the smallest rectangle with their cells. The entries meant are those below a node of a memory
-- that are on every side of a list.
use Rattle.std.specs.Prelude.{ℕ, ◌+◌, cond, List, Option, Some, None}
use Rattle.geometry.specs.declared.rect.Cell.{Cell}
use Rattle.geometry.specs.declared.rect.Rect.{Rect}
use Rattle.geometry.specs.declared.rect.Side.{Side}
use Rattle.geometry.specs.Grow.{grown}
use Rattle.geometry.specs.Refine.{union}
use Rattle.tree.specs.Lists.{keep, not_empty}
use Rattle.plane.specs.Lines.{CellEntry, OnGrid}
use Rattle.plane.specs.Candidates.{Extent, extent_of}
use Rattle.plane.specs.Plane.{cell_rect}
use Rattle.layout.specs.Nodes.{NodePart}
use Rattle.walks.specs.Count.{entries_at}
use Rattle.walks.specs.Walks.{Walkable, leaf_entries}
use Rattle.split_line.specs.Sides.{on_test}

-- the smallest rectangle with an extent's cells: its ur is excluded
unfoldable pub extent_rect : Extent → Rect
extent_rect a = record { llx = a.min_x; lly = a.min_y; urx = a.max_x + 1; ury = a.max_y + 1 }

-- the smallest rectangle with the cells of some entries; of none, the rectangle of the cell (0, 0), at which no rule
-- looks
unfoldable pub extent_rect_of : List CellEntry → Rect
extent_rect_of es = extent_rect (extent_of es)

-- the extent of some entries; none of no entries
unfoldable pub group_extent : List CellEntry → Option Rect
group_extent es = cond (not_empty es) (Some (extent_rect_of es)) None

-- the extent with one more cell
unfoldable pub extent_add : Option Rect → Cell → Rect
extent_add None c = cell_rect c
extent_add (Some r) c = grown r c

-- the extent of two groups together
unfoldable pub extent_join : Option Rect → Option Rect → Option Rect
extent_join None s = s
extent_join (Some r) None = Some r
extent_join (Some r) (Some s) = Some (union r s)

-- the rectangle of an extent; of no entries the rectangle of the cell (0, 0)
unfoldable pub rect_or_first : Option Rect → Rect
rect_or_first None = record { llx = 0; lly = 0; urx = 1; ury = 1 }
rect_or_first (Some r) = r

-- the entries below the node at part k that are on every side
unfoldable pub kept_under : List Side → ℕ → List ℕ → ℕ → ℕ → List CellEntry
kept_under ss n m lo k = keep (on_test ss) (entries_at n m lo k)

-- A leaf's part, whose entries on the sides are on the grid.
pub record LeafExtent (p : List ℕ) (ss : List Side) : Type 0 where
  pub leaf : NodePart p
  pub grid : OnGrid (leaf_entries (on_test ss) p)

-- A node that can be walked, and whose entries on the sides are on the grid.
pub record NodeExtent (n : ℕ) (m : List ℕ) (lo k : ℕ) (ss : List Side) : Type 0 where
  pub walk : Walkable n m lo k
  pub grid : OnGrid (kept_under ss n m lo k)
