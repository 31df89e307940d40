-- How many rectangles the containment test compares: its relation to the place of the first that has the cell, and
-- its bound.
use mathlib.Core.Path.{◌≡◌}
use mathlib.Core.Bool.{true, false}
use mathlib.Core.List.{List}
use Prim.Native.Nat.{ℕ, ◌+◌, ◌≤◌, ◌<◌}
use lib.ListN.{length, get_or}
use Rattle.polygons.specs.Lists.{first_place}
use Rattle.polygons.proofs.PlaceLaws as Places
use Rattle.geometry.specs.declared.rect.Cell.{Cell}
use Rattle.geometry.specs.declared.rect.Rect.{Rect}
use Rattle.geometry.specs.Cells.{has_cell, any_has, no_rect}
use Rattle.geometry.specs.Containment.{compared}

-- the place of the first rectangle that has the cell; the length where none has it
abbrev pub place : List Rect → Cell → ℕ
place l c = first_place (λ r. has_cell r c) l

module _ (l : List Rect) (c : Cell) where
  -- where some rectangle has the cell: the first stands at the place, none before it has the cell
  pub place_some : any_has l c ≡ true → place l c < length l
  unfolding any_has
  place_some = Places.place_some (λ r. has_cell r c) l

  pub place_has : place l c < length l → has_cell (get_or l (place l c) no_rect) c ≡ true
  place_has = Places.place_passes (λ r. has_cell r c) l no_rect

  pub place_before_lem : (k : ℕ) → k < place l c → has_cell (get_or l k no_rect) c ≡ false
  place_before_lem = Places.place_before_lem (λ r. has_cell r c) l no_rect

  -- and the rectangles up to and with it are compared
  pub compared_some : any_has l c ≡ true → compared l c ≡ place l c + 1
  unfolding any_has compared
  compared_some = Places.compared_some (λ r. has_cell r c) l

  -- where none has it, all are compared
  pub compared_none : any_has l c ≡ false → compared l c ≡ length l
  unfolding any_has compared
  compared_none = Places.compared_none (λ r. has_cell r c) l

  -- no more are compared than there are
  pub compared_most : compared l c ≤ length l
  unfolding compared
  compared_most = Places.compared_most (λ r. has_cell r c) l
