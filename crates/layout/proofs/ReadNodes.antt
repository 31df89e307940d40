-- A node that was read from a part: its polygon and its part.
use mathlib.Core.Path.{◌≡◌}
use mathlib.Core.List.{List}
use mathlib.Core.Option.{some}
use Prim.Native.Nat.{ℕ, zero, suc}
use Rattle.tree.specs.Nodes.{Item}
use Rattle.plane.specs.Fanout.{fanout, index_space}
use Rattle.memory.specs.Layout.{part, polygon_in}
use Rattle.memory.specs.Reading.{read_node}
use Rattle.memory.proofs.ReadingLaws.{fits_as, leaf_parts, node_parts_lem}
use Rattle.layout.specs.Nodes.{PolygonPart}

-- the polygon of a node that was read
pub node_polygon : (n : ℕ) (m : List ℕ) (lo k : ℕ) (b : Item index_space (suc n)) → read_node fanout n m lo k ≡ some b → b.poly ≡ polygon_in (part m k)
node_polygon zero m lo k b e = (leaf_parts fanout m lo k b e).polygon
node_polygon (suc n) m lo k b e = (node_parts_lem fanout n m lo k b e).polygon

-- the part of a node that was read
pub node_part_lem : (n : ℕ) (m : List ℕ) (lo k : ℕ) (b : Item index_space (suc n)) → read_node fanout n m lo k ≡ some b → PolygonPart m k
node_part_lem zero m lo k b e = let f = fits_as fanout 3 m k (leaf_parts fanout m lo k b e).fits in record { below = f.below; few_rects = f.few_rects }
node_part_lem (suc n) m lo k b e = let f = fits_as fanout 1 m k (node_parts_lem fanout n m lo k b e).fits in record { below = f.below; few_rects = f.few_rects }
