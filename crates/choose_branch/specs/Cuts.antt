-- What the functions of step 2 are handed that cut a rectangle by the siblings of a branch: a node with branches, a
-- place among them, and two working lists with room for 272 rectangles.
use Rattle.std.specs.Prelude.{ℕ, ◌≤◌, ◌<◌, true, List, [], ◌≡◌, length, get_or}
use Rattle.geometry.specs.declared.polygon.Polygon.{Polygon}
use Rattle.geometry.specs.declared.rect.Cell.{Cell}
use Rattle.geometry.specs.declared.rect.Rect.{Rect}
use Rattle.geometry.specs.Cells.{on_grid, valid}
use Rattle.layout.specs.Nodes.{count_at, PolygonPart}
use Rattle.choose_branch.specs.Branches.{polygons_in, Branches}

-- A list of n rectangles is to be cut by the polygons of the nodes at some parts.
pub record PartsCut (m parts list : List ℕ) (n : ℕ) (spare : List ℕ) : Type 0 where
  pub each : (i : ℕ) → i < length parts → PolygonPart m (get_or parts i 0)
  pub few : n ≤ 256
  pub list_room : 1088 ≤ length list
  pub spare_room : 1088 ≤ length spare

-- A list of n rectangles is to be cut by all children but the one at a place.
pub record SiblingsCut (m : List ℕ) (k place : ℕ) (list : List ℕ) (n : ℕ) (spare : List ℕ) : Type 0 where
  pub branches : Branches m k
  pub inside : place < count_at m k
  pub few : n ≤ 256
  pub list_room : 1088 ≤ length list
  pub spare_room : 1088 ≤ length spare

-- The rectangle g of the branch at a place is to be cut by its siblings, and brought into the polygon p.
pub record GrownCut (m : List ℕ) (k place : ℕ) (g : Rect) (p : Polygon) (list out : List ℕ) : Type 0 where
  pub branches : Branches m k
  pub inside : place < count_at m k
  pub good : valid g ≡ true
  pub list_room : 1088 ≤ length list
  pub out_room : 1088 ≤ length out

-- A rectangle of the branch at a place is to grow to the cell, within the polygon p.
pub record BranchGrowth (m : List ℕ) (k place rect : ℕ) (p : Polygon) (c : Cell) (list spare : List ℕ) : Type 0 where
  pub branches : Branches m k
  pub inside : place < count_at m k
  pub rect_inside : rect < length (get_or (polygons_in m k) place [])
  pub grid : on_grid c ≡ true
  pub list_room : 1088 ≤ length list
  pub spare_room : 1088 ≤ length spare
