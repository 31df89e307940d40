-- The extents of the groups of a node whose branch at a place was split, as the code collects them.
use Rattle.std.specs.Prelude.{ℕ, ◌+◌, ◌≤◌, Bool, true, cond, List, [], ◌∷◌, ◌++◌, map, ◌≡◌, length}
use Rattle.geometry.specs.declared.rect.Cell.{Cell}
use Rattle.geometry.specs.declared.rect.Line.{Line}
use Rattle.geometry.specs.declared.rect.Rect.{Rect}
use Rattle.geometry.specs.Cells.{on_grid}
use Rattle.tree.specs.Lists.{keep}
use Rattle.tree.specs.Space.{Side, left, right}
use Rattle.tree.specs.Nodes.{entry_on}
use Rattle.plane.specs.Lines.{some_payload, entry_of, OnGrid}
use Rattle.plane.specs.Fanout.{index_space}
use Rattle.walks.specs.Walks.{Walkable}
use Rattle.walks.specs.Count.{entries_at}
use Rattle.split_line.specs.GroupExtent.{extent_rect_of}
use Rattle.split_line.specs.Extents.{ExtentList}
use Rattle.split_line.specs.Groups.{groups_at}

-- A node that can be walked, all its entries on the grid.
pub record GridNode (n : ℕ) (m : List ℕ) (lo k : ℕ) : Type 0 where
  pub walk : Walkable n m lo k
  pub grid : OnGrid (entries_at n m lo k)

-- the extents of the entries below the node at part k, with one at the cell c, that are on a side; a tag does not
-- matter
unfoldable pub side_extent : ℕ → List ℕ → ℕ → ℕ → Side Line → Cell → Rect
side_extent n m lo k s c = extent_rect_of
    (keep (entry_on index_space s) (entries_at n m lo k ++ (entry_of c some_payload ∷ [])))

-- the extents of the groups of the branch at part k: of two where it was split, else of one
unfoldable pub branch_extents : ℕ → List ℕ → ℕ → ℕ → Bool → Line → Cell → List Rect
branch_extents n m lo k halved below c =
    cond halved (side_extent n m lo k (left below) c ∷ side_extent n m lo k (right below) c ∷ [])
    (extent_rect_of (entries_at n m lo k) ∷ [])

-- A branch whose extents fit behind those in the list l.
pub record BranchHere (n : ℕ) (m : List ℕ) (lo k : ℕ) (halved : Bool) (below : Line) (c : Cell) (l : List Rect) : Type 0 where
  pub branch : GridNode n m lo k
  pub cell : on_grid c ≡ true
  pub room : length l + cond halved 2 1 ≤ 9

-- The rectangles are the extents of the node's groups.
pub record GroupExtents (m : List ℕ) (level lo k place : ℕ) (below : Line) (c : Cell) (l : List Rect) : Type 0 where
  pub list : ExtentList l
  pub is : l ≡ map extent_rect_of (groups_at level m lo k place below (entry_of c some_payload))
