-- The walk for the first entry in a window in a memory, below the node at a part.
use Rattle.std.specs.Prelude.{ℕ, suc, false, not, List}
use Rattle.std.proofs.Math.Option.{Option, none, some}
use Rattle.geometry.specs.declared.rect.Rect.{Rect}
use Rattle.tree.specs.Nodes.{Item}
use Rattle.tree.specs.Emptiness.{ToMatch, node_to_match}
use Rattle.plane.specs.Fanout.{fanout, index_space, index_window}
use Rattle.memory.specs.Reading.{read_node}
use Rattle.answers.specs.declared.answer.EmptyFound.{EmptyFound}

-- the walk below a node, after v others; where nothing reads, nothing is entered
unfoldable pub to_match_from : Rect → (n : ℕ) → ℕ → Option (Item index_space (suc n)) → ToMatch
to_match_from w n v none = record { found = false; entered = v }
to_match_from w n v (some b) = node_to_match index_space index_window w n v b.child

-- the walk below the node at part k, whose leaves are n steps below it
unfoldable pub to_match_below : Rect → ℕ → List ℕ → ℕ → ℕ → ℕ → ToMatch
to_match_below w n m lo k v = to_match_from w n v (read_node fanout n m lo k)

-- as the code has it
abbrev pub found_of : ToMatch → EmptyFound
found_of u = record { empty = not u.found; visits = u.entered }
