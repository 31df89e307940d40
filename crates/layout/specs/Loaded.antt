-- A node by value: the count of its items and their numbers, as a part has them. Loaded from a part, with one item
-- more or less, stored to a part.
use Rattle.std.specs.Prelude.{ℕ, ◌+◌, ◌*◌, ◌-◌, ◌≡◌, length, get_or, take, drop, set}
use mathlib.Core.List.{List, ◌++◌, flat_map}
use Rattle.plane.specs.Lines.{CellEntry}
use Rattle.memory.specs.Layout.{item_count}
use Rattle.memory.specs.Image.{padded, entry_numbers}
use Rattle.layout.specs.declared.node.Node.{Node}
use Rattle.layout.specs.Gap.{MovedDown}
use Rattle.layout.specs.Entries.{numbered}
use Rattle.layout.specs.Items.{put_entry}

-- a node of so many items with these numbers; zeros behind them
unfoldable pub node_of : ℕ → List ℕ → Node
node_of count l = record { count = count; items = padded 27 l }

-- a leaf by its entries
unfoldable pub leaf_of : List CellEntry → Node
leaf_of es = node_of (length es) (flat_map entry_numbers es)

-- a routing node by the part numbers of its children
unfoldable pub routing_of : List ℕ → Node
routing_of ks = node_of (length ks) ks

-- the node of a part
unfoldable pub node_in : List ℕ → Node
node_in p = record { count = item_count p; items = take 27 (drop 66 p) }

-- the i-th child of a routing node and the i-th entry of a leaf, by the numbers of the items
unfoldable pub child_among : List ℕ → ℕ → ℕ
child_among l i = get_or l i 0

unfoldable pub entry_among : List ℕ → ℕ → CellEntry
entry_among l i = record {
  cell = record { x = get_or l (3 * i) 0; y = get_or l (3 * i + 1) 0 };
  tag = get_or l (3 * i + 2) 0;
}

-- the same by the node
abbrev pub node_child : Node → ℕ → ℕ
node_child n i = child_among n.items i

abbrev pub node_entry : Node → ℕ → CellEntry
node_entry n i = entry_among n.items i

-- the entries of a leaf, and the children of a routing node
abbrev pub node_entries : Node → List CellEntry
node_entries n = numbered (take (3 * n.count) n.items)

abbrev pub node_children : Node → List ℕ
node_children n = take n.count n.items

-- a part with the count and the items of a node; its polygon stays
unfoldable pub with_node : List ℕ → Node → List ℕ
with_node p n = set (take 66 p ++ (n.items ++ drop 93 p)) 1 n.count

-- a node with one more entry, or one more child, behind its others
unfoldable pub with_entry : Node → CellEntry → Node
with_entry n e = record { count = n.count + 1; items = put_entry n.items n.count e }

unfoldable pub with_child : Node → ℕ → Node
with_child n k = record { count = n.count + 1; items = set n.items n.count k }

-- A node without its i-th item, where an item takes w numbers: the later ones moved down.
pub record ItemOut (w i : ℕ) (n n' : Node) : Type 0 where
  pub count : n'.count ≡ n.count - 1
  pub items : MovedDown w (w * i) (w * n.count) n.items n'.items
