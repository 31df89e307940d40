-- A polygon meets a window exactly if some cell is in both.
use Prim.Native.Nat.{ℕ}
use mathlib.Core.Bool.{Bool, true, false, cond, false≢true}
use mathlib.Core.Path.{◌≡◌, refl, ◌∙◌}
use mathlib.Core.List.{List, [], ◌∷◌}
use mathlib.Core.Logic.{⊎_elim}
use native.Mathlib.Omega.{arith}
use Rattle.polygons.specs.Lists.{any}
use Rattle.polygons.proofs.Booleans.{either, or_left, or_right, both}
use Rattle.geometry.specs.declared.rect.Cell.{Cell}
use Rattle.geometry.specs.declared.rect.Rect.{Rect}
use Rattle.geometry.specs.Cells.{has_cell, non_empty}
use Rattle.geometry.specs.Common.{overlap, shares_with, unless_empty, common}
use Rattle.geometry.proofs.CellLaws.{in_of, of_some, corner}
use Rattle.geometry.proofs.CommonLaws.{overlap_cells, common_some}
use Rattle.tree.specs.Lists.{not_empty}
use Rattle.tree.specs.BoxSpace.{window_of}
use Rattle.tree.specs.Boxes.{any_has}
use Rattle.tree.proofs.Any.{any_same}
use Rattle.tree.proofs.Laws.{WindowLaws}
use Rattle.plane.specs.Plane.{plane, plane_space}
use Rattle.plane.specs.Windows.{inside, meets, plane_window}

-- two rectangles with a cell in both share one
shares : (w r : Rect) (c : Cell) → has_cell r c ≡ true → has_cell w c ≡ true → shares_with w r ≡ true
unfolding shares_with
shares w r c h k = let i = in_of (overlap r w) c (overlap_cells r w c ∙ both _ _ h k) in of_some (overlap r w) (omega arith)

-- sharing a cell is having a common part
shares_common : (w r : Rect) → shares_with w r ≡ not_empty (common r w)
unfolding shares_with common unless_empty
shares_common w r = go (non_empty (overlap r w))
  where
    go : (b : Bool) → b ≡ not_empty (cond b (overlap r w ∷ []) [])
    go true = refl
    go false = refl

module _ (fanout : ℕ) where
  -- a cell in the polygon and in the window makes them meet
  pub cell_meets : (p : List Rect) (w : Rect) (c : Cell) → (plane_space fanout).has p c ≡ true → inside w c ≡ true → meets p w ≡ true
  unfolding any_has any meets
  cell_meets [] w c h k = absurd (false≢true h)
  cell_meets (r ∷ p) w c h k =
      ⊎_elim (λ e. or_left (shares_with w r) (any (shares_with w) p) (shares w r c e k)) (λ e. or_right (shares_with w r) (any (shares_with w) p) (cell_meets p w c e k))
      (either (has_cell r c) (any (λ q. has_cell q c) p) h)

  -- where they meet, there is such a cell
  pub meets_cell : (p : List Rect) (w : Rect) → meets p w ≡ true → (c : Cell) × ((plane_space fanout).has p c ≡ true) × (inside w c ≡ true)
  unfolding any_has any meets shares_with
  meets_cell [] w h = absurd (false≢true h)
  meets_cell (r ∷ p) w h = ⊎_elim
      (λ e. let k = common_some r w e in (corner (overlap r w), or_left (has_cell r (corner (overlap r w))) (any (λ q. has_cell q (corner (overlap r w))) p) k.0, k.1))
      (λ e. let k = meets_cell p w e in (k.0, or_right (has_cell r k.0) (any (λ q. has_cell q k.0) p) k.1, k.2))
      (either (shares_with w r) (any (shares_with w) p) h)

  -- a polygon with more cells meets it too
  pub meets_more : (p q : List Rect) (w : Rect) → ((c : Cell) → (plane_space fanout).has p c ≡ true → (plane_space fanout).has q c ≡ true) → meets p w ≡ true → meets q w ≡ true
  meets_more p q w f h = let k = meets_cell p w h in cell_meets q w k.0 (f k.0 k.1) k.2

  -- the laws of windows
  pub plane_window_laws : WindowLaws (plane_space fanout) (plane_window fanout)
  plane_window_laws = record { meets_cell = meets_cell; cell_meets = cell_meets }

  -- the tree's form of meeting a window is the same
  pub meets_common : (p : List Rect) (w : Rect) → meets p w ≡ (window_of (plane fanout)).meets p w
  unfolding meets
  meets_common p w = any_same (shares_with w) (λ r. not_empty (common r w)) p (shares_common w)
