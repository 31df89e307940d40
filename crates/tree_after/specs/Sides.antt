-- The sides that apply to a node on the path, in a list: they stand from a place on, the nearest node's first. The places
-- before it serve the levels below.
use Rattle.std.specs.Prelude.{ℕ, ◌≤◌, List, length, drop, ◌≡◌}
use Rattle.geometry.specs.declared.rect.Side.{Side}

-- Each level below has a place for a side of its own.
pub record SidesRoom (level : ℕ) (sides : List Side) (at : ℕ) : Type 0 where
  pub within : at ≤ length sides
  pub places : level ≤ at

-- The list is as it was from the place on.
pub record SidesKept (sides : List Side) (at : ℕ) (sides' : List Side) : Type 0 where
  pub same_length : length sides' ≡ length sides
  pub same : drop at sides' ≡ drop at sides
