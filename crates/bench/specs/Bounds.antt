-- Bounds of the places that the program keeps.
use Rattle.std.specs.Prelude.{ℕ, ◌+◌, ◌*◌, ◌≤◌, ◌<◌}

-- The result list, the input and the output are long enough: a line that is kept leaves room for more, and every
-- answer fits.
pub record Lengths (list input out : ℕ) : Type 0 where
  pub few : list ≤ 65536
  pub input_room : 81 < input
  pub out_room : 64 + 12 * list ≤ out
