-- "cell already held", "cell not held": of what a memory reads as.
use Rattle.std.specs.Prelude.{Bool, false}
use Rattle.std.proofs.Math.Option.{Option, none, some}
use Rattle.geometry.specs.declared.rect.Cell.{Cell}
use Rattle.tree.specs.Query.{holds}
use Rattle.plane.specs.Fanout.{index_space, PlaneIndex}

-- whether what a memory reads as holds the cell
unfoldable pub held_read : Cell → Option PlaneIndex → Bool
held_read c none = false
held_read c (some i) = holds index_space c i
