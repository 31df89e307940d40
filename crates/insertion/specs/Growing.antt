-- The tree after, in place: where no node is split, the leaf gets the entry, and each node on the path its polygon as
-- grown.
use Rattle.path.specs.declared.level.Level.{Level}
use Rattle.std.specs.Prelude.{ℕ, zero, suc, ◌≤◌, ◌<◌, true, List, ◌≡◌, length, set}
use Rattle.std.proofs.Math.Option.{some}
use Rattle.geometry.specs.declared.rect.Rect.{Rect}
use Rattle.tree.specs.Nodes.{Item, nodes}
use Rattle.tree.specs.Tree.{Tree}
use Rattle.plane.specs.Lines.{CellEntry}
use Rattle.plane.specs.Fanout.{fanout, index_space}
use Rattle.memory.specs.Layout.{parts_of, part, in_use, bits_set, others_zero}
use Rattle.memory.specs.Image.{node_part}
use Rattle.memory.specs.Reading.{read_node}
use Rattle.layout.specs.declared.node.Node.{Node}
use Rattle.layout.specs.Beside.{Beside}
use Rattle.layout.specs.Loaded.{node_in, with_entry}
use Rattle.layout.specs.Nodes.{PartIn, count_at}
use Rattle.layout.specs.PartSet.{set_part}
use Rattle.path.specs.Path.{part_on, place_on, polygon_on, HasLevel, FewRects}
use Rattle.tree_after.specs.Path.{row_at, way_at, PathFrom}
use Rattle.insertion.specs.Descent.{Linked}

-- The items that the node on the path at a level gets: a leaf has the entry behind its others; of the branches of a
-- routing node the one gone to changes.
unfoldable pub grown_items : (n : ℕ) → List Level → List ℕ → CellEntry → List (Item index_space n)
grown_items zero path m e = way_at zero path m e
grown_items (suc n) path m e =
    set (row_at n m (part_on path (suc n))) (place_on path (suc n))
    (record { poly = polygon_on path n; child = grown_items n path m e })

-- the node with its polygon as grown
abbrev pub grown_node : (n : ℕ) → List Level → List ℕ → CellEntry → Item index_space (suc n)
grown_node n path m e = record { poly = polygon_on path n; child = grown_items n path m e }

-- the tree whose root it is
abbrev pub grown_tree : (n : ℕ) → List Level → List ℕ → CellEntry → Tree index_space
grown_tree n path m e = record { level = n; root = polygon_on path n; items = grown_items n path m e }

-- the memory with the node n and its polygon p in part k
abbrev pub replaced : List ℕ → ℕ → List Rect → Node → List ℕ
replaced m k p n = set_part m k (node_part p n.count n.items)

-- the memory in which the leaf on the path has the entry and its polygon as grown
abbrev pub leaf_grown : List Level → List ℕ → CellEntry → List ℕ
leaf_grown path m e = replaced m (part_on path 0) (polygon_on path 0) (with_entry (node_in (part m (part_on path 0))) e)

-- the memory in which the node on the path at a level has its polygon as grown
abbrev pub node_grown : ℕ → List Level → List ℕ → List ℕ
node_grown n path m = replaced m (part_on path n) (polygon_on path n) (node_in (part m (part_on path n)))

-- A level of the path can be read, and its node has a part of the memory.
pub record LevelIn (n : ℕ) (path : List Level) (m : List ℕ) : Type 0 where
  pub room : HasLevel n path
  pub few : FewRects n path
  pub ends : PartIn m (part_on path n)

-- The path leads down to a leaf with room for an entry. Parts not in use are zero.
pub record Growing (n : ℕ) (path : List Level) (m : List ℕ) : Type 0 where
  pub from : PathFrom n path m
  pub linked : Linked n path m
  pub leaf : count_at m (part_on path 0) < 8
  pub unused : others_zero m (parts_of m) ≡ true

-- The node on the path at a level, which read as b with its subtree in the parts from lo on, reads as the definition
-- has it, with as many nodes; m' is as m beside its subtree.
pub record GrownNode (n : ℕ) (path : List Level) (m : List ℕ) (e : CellEntry) (m' : List ℕ) (lo : ℕ)
    (b : Item index_space (suc n)) : Type 0 where
  pub reads : read_node fanout n m' lo (part_on path n) ≡ some (grown_node n path m e)
  pub as_many : nodes index_space (suc n) (grown_node n path m e) ≡ nodes index_space (suc n) b
  pub beside : Beside m lo (part_on path n) m'

-- The nodes on the path from a level down were written in place, which gave m'. The same parts are in use, and the
-- others are zero.
pub record Grown (n : ℕ) (path : List Level) (m : List ℕ) (e : CellEntry) (m' : List ℕ) : Type 0 where
  pub same_length : length m' ≡ length m
  pub bits : bits_set m' ≡ bits_set m
  pub in_use : (j : ℕ) → j < 256 → in_use m' j ≡ in_use m j
  pub unused : others_zero m' (parts_of m') ≡ true
  pub node : (lo : ℕ) (b : Item index_space (suc n)) → lo ≤ part_on path n
      → read_node fanout n m lo (part_on path n) ≡ some b
      → GrownNode n path m e m' lo b
