-- Lines from 1 to 65535.
use Prim.Native.Nat.{◌≤◌}
use mathlib.Core.Bool.{true, not}
use mathlib.Core.Path.{◌≡◌}
use native.Mathlib.Omega.{arith}
use borrow.Author.Tests.{ltb-true, ltb-false, not-true}
use Rattle.geometry.specs.declared.rect.Cell.{Cell}
use Rattle.geometry.specs.declared.rect.Line.{Line}
use Rattle.geometry.specs.declared.rect.Line.TheVariants.{AtX, AtY}
use Rattle.geometry.specs.Cells.{on_grid}
use Rattle.geometry.specs.Clip.{below}
use Rattle.geometry.proofs.CellLaws.{grid_of}

-- a line from 1 to 65535
abbrev pub InRange : Line → Type 0
InRange (AtX l) = (1 ≤ l) × (l ≤ 65535)
InRange (AtY l) = (1 ≤ l) × (l ≤ 65535)

-- a line with a cell below it and a cell of the grid not below it is from 1 to 65535
pub between : (l : Line) (c d : Cell) → below l c ≡ true → not (below l d) ≡ true → on_grid d ≡ true → InRange l
unfolding below
between (AtX l) c d a b g = let i = ltb-true c.x l a in let j = ltb-false d.x l (not-true _ b) in let k = grid_of d g in (omega arith, omega arith)
between (AtY l) c d a b g = let i = ltb-true c.y l a in let j = ltb-false d.y l (not-true _ b) in let k = grid_of d g in (omega arith, omega arith)
