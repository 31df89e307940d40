-- What the tree asks of rectangles.
use Prim.Native.Nat.{◌≤◌}
use mathlib.Core.Bool.{true, ◌&&◌, not}
use mathlib.Core.Path.{◌≡◌}
use mathlib.Core.List.{List}
use lib.ListN.{length}
use Rattle.polygons.specs.Lists.{any}
use Rattle.tree.specs.Lists.{All}
use Rattle.tree.specs.Space.{Side, Entry}
use Rattle.tree.specs.Nodes.{on}
use Rattle.tree.specs.Boxes.{Boxes}
use Rattle.tree.specs.BoxSpace.{space_of}

-- The cells of each rule, that valid rectangles stay valid, and that lists do not grow: clipping, common part, cut and refine by their cells; growing keeps the old cells and takes the new one in;
-- no cell is nearer than the least distance, and of a valid rectangle one is that near; ties leave one cell.
pub record BoxLaws (B : Boxes) : Type 0 where
  pub clip_cells : (s : Side B.Line) (r : B.Box) (c : B.Cell) → any (λ q. B.has q c) (B.clip s r) ≡ B.has r c && on (space_of B) s c
  pub common_cells : (r s : B.Box) (c : B.Cell) → any (λ q. B.has q c) (B.common r s) ≡ B.has r c && B.has s c
  pub cut_cells : (r s : B.Box) (c : B.Cell) → any (λ q. B.has q c) (B.cut r s) ≡ B.has r c && not (B.has s c)
  pub refine_cells : (l : List B.Box) (c : B.Cell) → any (λ q. B.has q c) (B.refine l) ≡ any (λ q. B.has q c) l
  pub common_valid : (r s : B.Box) → B.valid s ≡ true → All (λ q. B.valid q ≡ true) (B.common r s)
  pub refine_valid : (l : List B.Box) → All (λ q. B.valid q ≡ true) l → All (λ q. B.valid q ≡ true) (B.refine l)
  pub clip_one : (s : Side B.Line) (r : B.Box) → length (B.clip s r) ≤ 1
  pub clip_valid : (s : Side B.Line) (r : B.Box) → B.valid r ≡ true → All (λ q. B.valid q ≡ true) (B.clip s r)
  pub refine_short : (l : List B.Box) → length (B.refine l) ≤ length l
  pub valid_real : (r : B.Box) (c : B.Cell) → B.valid r ≡ true → B.has r c ≡ true → B.Real c
  pub same_is : (c d : B.Cell) → B.same c d ≡ true → c ≡ d
  pub same_self : (c : B.Cell) → B.same c c ≡ true
  pub grow_cell : (r : B.Box) (c : B.Cell) → B.has (B.grow r c) c ≡ true
  pub grow_old : (r : B.Box) (c d : B.Cell) → B.has r d ≡ true → B.has (B.grow r c) d ≡ true
  pub distance_low : (r : B.Box) (c d : B.Cell) → B.has r d ≡ true → B.min_distance c r ≤ B.distance c d
  pub distance_met : (r : B.Box) (c : B.Cell) → B.valid r ≡ true → (d : B.Cell) × (B.has r d ≡ true) × (B.distance c d ≡ B.min_distance c r)
  pub ties_cell : (e f : Entry B.Cell) → B.ties e ≡ B.ties f → e.cell ≡ f.cell

-- For the root and for windows: the rectangle of one cell, growing on the grid, and that a common part has a cell.
pub record RootBoxLaws (B : Boxes) (cell_box : B.Cell → B.Box) : Type 0 where
  pub cell_has : (c : B.Cell) → B.has (cell_box c) c ≡ true
  pub cell_valid : (c : B.Cell) → B.Real c → B.valid (cell_box c) ≡ true
  pub grow_valid : (r : B.Box) (c : B.Cell) → B.Real c → B.valid r ≡ true → B.valid (B.grow r c) ≡ true
  pub common_cell : (r s : B.Box) → All (λ q. (c : B.Cell) × (B.has q c ≡ true)) (B.common r s)
