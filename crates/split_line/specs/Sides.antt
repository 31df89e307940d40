-- Sides of lines, as the geometry has them, for the tree.
use Rattle.std.specs.Prelude.{Bool, List, [], ◌∷◌}
use Rattle.geometry.specs.declared.rect.Cell.{Cell}
use Rattle.geometry.specs.declared.rect.Line.{Line}
use Rattle.geometry.specs.declared.rect.Side.{Side as RectSide}
use Rattle.geometry.specs.declared.rect.Side.TheVariants.{Left, Right}
use Rattle.tree.specs.Space.{Side, left, right}
use Rattle.tree.specs.Nodes.{on}
use Rattle.tree.specs.Pass.{on_all}
use Rattle.plane.specs.Lines.{CellEntry}
use Rattle.plane.specs.Fanout.{index_space}

-- the geometry's side of a line as the tree's
unfoldable pub side_of : RectSide → Side Line
side_of (Left l) = left l
side_of (Right l) = right l

unfoldable pub sides_of : List RectSide → List (Side Line)
sides_of [] = []
sides_of (s ∷ ss) = side_of s ∷ sides_of ss

-- whether the cell is on the side
unfoldable pub on_side : RectSide → Cell → Bool
on_side s c = on index_space (side_of s) c

-- whether the cell is on every side of a list; the tag of an entry does not matter (the law entry_on_lem)
unfoldable pub on_every : List RectSide → Cell → Bool
on_every ss c = on_all index_space (sides_of ss) (record { cell = c; tag = 0 })

-- whether the entry's cell is
unfoldable pub on_test : List RectSide → CellEntry → Bool
on_test ss e = on_every ss e.cell
