-- Entries written into a list as a leaf's part has them.
use Rattle.std.specs.Prelude.{ℕ, ◌+◌, ◌*◌, List, set}
use Rattle.plane.specs.Lines.{CellEntry}

-- a list with an entry's numbers at the at-th place, three numbers a place
unfoldable pub put_entry : List ℕ → ℕ → CellEntry → List ℕ
put_entry l at e = set (set (set l (3 * at) e.cell.x) (3 * at + 1) e.cell.y) (3 * at + 2) e.tag
