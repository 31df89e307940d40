-- The part of a node under sides.
use Rattle.std.specs.Prelude.{ℕ, List}
use Rattle.geometry.specs.declared.rect.Side.{Side}
use Rattle.tree.specs.Plan.{clips}
use Rattle.plane.specs.Fanout.{index_space}
use Rattle.memory.specs.Layout.{polygon_in}
use Rattle.memory.specs.Image.{node_part}
use Rattle.layout.specs.declared.node.Node.{Node}
use Rattle.split_line.specs.Sides.{sides_of}

-- what remains of a part's node under sides, by the node with the items that remain: its polygon is clipped
abbrev pub remaining_part : List Side → List ℕ → Node → List ℕ
remaining_part ss p n = node_part (clips index_space (sides_of ss) (polygon_in p)) n.count n.items
