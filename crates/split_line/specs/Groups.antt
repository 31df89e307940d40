-- Document 01, 'The line', 'Routing node': the entries that the branches of a node hold whose branch at a place was
-- split, the new entry among them.
use Rattle.std.specs.Prelude.{ℕ, zero, suc, ◌+◌, ◌≤◌, ◌<◌, true, ◌≡◌, take, drop}
use mathlib.Core.List.{List, [], ◌∷◌, ◌++◌, map, flat_map}
use Rattle.std.proofs.Math.Option.{Option, none, some}
use Rattle.geometry.specs.declared.rect.Cell.{Cell}
use Rattle.geometry.specs.declared.rect.Line.{Line}
use Rattle.geometry.specs.Cells.{on_grid}
use Rattle.tree.specs.Lists.{keep}
use Rattle.tree.specs.Space.{left, right}
use Rattle.tree.specs.Nodes.{Item, held, entry_on}
use Rattle.plane.specs.Lines.{CellEntry, holds_on, node_line, Payload, entry_of, OnGrid}
use Rattle.plane.specs.Fanout.{fanout, index_space}
use Rattle.plane.proofs.NodeLine.{Fits, GridGroups}
use Rattle.plane.proofs.Extents.{SomeEach}
use Rattle.memory.specs.Reading.{read_node}
use Rattle.layout.specs.Nodes.{count_at}
use Rattle.walks.specs.Walks.{Walkable}
use Rattle.walks.specs.Count.{entries_at}

-- the entries left and right of a line, each side a group
abbrev pub halves_of : Line → List CellEntry → List (List CellEntry)
halves_of l es = keep (entry_on index_space (left l)) es ∷ keep (entry_on index_space (right l)) es ∷ []

-- the groups of some branches: the one at the place is split at the line, with the new entry last
abbrev pub groups_in : (n : ℕ) → List (Item index_space (suc n)) → ℕ → Line → CellEntry → List (List CellEntry)
groups_in n bs place l e =
    map (held index_space (suc n)) (take place bs)
    ++ (halves_of l (flat_map (held index_space (suc n)) (take 1 (drop place bs)) ++ (e ∷ []))
    ++ map (held index_space (suc n)) (drop (place + 1) bs))

-- the groups of a node that was read; none of a leaf
abbrev pub groups_of : (n : ℕ) → Option (Item index_space (suc n)) → ℕ → Line → CellEntry → List (List CellEntry)
groups_of n none place l e = []
groups_of zero (some b) place l e = []
groups_of (suc n) (some b) place l e = groups_in n b.child place l e

-- the groups of the node at part k; `below` is the line
unfoldable pub groups_at : ℕ → List ℕ → ℕ → ℕ → ℕ → Line → CellEntry → List (List CellEntry)
groups_at n m lo k place below e = groups_of n (read_node fanout n m lo k) place below e

-- A routing node at part k, the place of the branch that was split, and the new entry's cell.
pub record NodeHere (m : List ℕ) (level lo k place : ℕ) (c : Cell) : Type 0 where
  pub walk : Walkable level m lo k
  pub routing : 1 ≤ level
  pub place_in : place < count_at m k
  pub grid : OnGrid (entries_at level m lo k)
  pub cell : on_grid c ≡ true

-- 'A fitting line always exists': some line fits the groups, and each group holds entries, all on the grid.
pub record LineFits (gs : List (List CellEntry)) : Type 0 where
  pub some_each : SomeEach gs
  pub grid : GridGroups gs
  pub line : Line
  pub fits : Fits holds_on fanout gs line

-- r is the node's line, whatever the tag of the new entry
abbrev pub NodeLineIs : List ℕ → ℕ → ℕ → ℕ → ℕ → Line → Cell → Line → Type 0
NodeLineIs m level lo k place below c r =
    (t : Payload) → LineFits (groups_at level m lo k place below (entry_of c t))
    → r ≡ node_line fanout (groups_at level m lo k place below (entry_of c t))
