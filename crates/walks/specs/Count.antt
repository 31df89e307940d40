-- The entries held below the node at a part of a memory, which insertion and removal count.
use Rattle.std.specs.Prelude.{ℕ, suc}
use mathlib.Core.List.{List, [], flat_map}
use Rattle.std.proofs.Math.Option.{Option, none, some}
use Rattle.tree.specs.Nodes.{Item, held}
use Rattle.plane.specs.Lines.{CellEntry}
use Rattle.plane.specs.Fanout.{fanout, index_space}
use Rattle.memory.specs.Reading.{read_node}

-- the entries below a node that was read, in depth-first order; none where it does not read
unfoldable pub entries_of : (n : ℕ) → Option (Item index_space (suc n)) → List CellEntry
entries_of n none = []
entries_of n (some b) = flat_map (held index_space n) b.child

-- the same of the node at part k, whose subtree has the parts from lo on
unfoldable pub entries_at : ℕ → List ℕ → ℕ → ℕ → List CellEntry
entries_at n m lo k = entries_of n (read_node fanout n m lo k)
