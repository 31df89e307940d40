-- What the user of an accepted call finds: the length, the polygons in the output, and the bytes behind them.
-- docs/RULES.md 2.31
use Rattle.std.specs.Prelude.{ℕ, ◌/◌, ◌<◌, List, ◌≡◌, length, drop}
use Rattle.geometry.specs.Cells.{area}
use Rattle.geometry.specs.Numbers.{rect_at}
use Rattle.wkb.specs.Collection.{ring, wkb_length}
use Rattle.wkb.specs.Orientation.{Counterclockwise}
use Rattle.wkb.specs.Reading.{CollectionRead}
use Rattle.drawing.specs.Arguments.{given}

-- for a polygon p, the output at entry and at exit, and the length that was stored
pub record WkbClaim (p out out' : List ℕ) (told : ℕ) : Type 0 where
  -- 'The length, which is returned, is 9 + 93 × rectangles'
  pub length_is : told ≡ wkb_length (length p / 4)
  -- a reader finds each rectangle's polygon, in their order, with exact coordinates
  pub read : CollectionRead out' (given p)
  -- 'runs counterclockwise': around as much area as the rectangle has cells
  pub runs : (i : ℕ) → i < length p / 4 → Counterclockwise (ring (rect_at p i)) (area (rect_at p i))
  -- 'and bytes beyond it stay'
  pub beyond : drop told out' ≡ drop told out
  pub same_length : length out' ≡ length out
