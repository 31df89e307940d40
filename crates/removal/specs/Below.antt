-- Removal below a node of the memory: 'takes the entry out, closes the gap, removes an emptied leaf and emptied nodes
-- above'.
use Rattle.std.specs.Prelude.{ℕ, suc, ◌+◌, ◌≤◌, Bool, true, false, List, [], ◌∷◌, ◌≡◌}
use Rattle.std.proofs.Math.Option.{some}
use Rattle.polygons.specs.Lists.{any}
use Rattle.geometry.specs.declared.rect.Cell.{Cell}
use Rattle.tree.specs.Lists.{total, not_empty}
use Rattle.tree.specs.Nodes.{Item, held, nodes}
use Rattle.tree.specs.Query.{of_cell}
use Rattle.tree.specs.Remove.{prune, other}
use Rattle.plane.specs.Fanout.{fanout, index_space}
use Rattle.memory.specs.Layout.{parts_of, part, bits_set, item_count, others_zero}
use Rattle.memory.specs.Reading.{read_node}
use Rattle.layout.specs.Beside.{Beside}
use Rattle.layout.specs.Gap.{ItemIn}
use Rattle.layout.specs.PartSet.{freed, UsedPart, EntryDroppedAt, BranchDroppedAt}
use Rattle.walks.specs.Walks.{SoundWalk}

-- The node at part k has an i-th item.
pub record TakesItem (m : List ℕ) (k i : ℕ) : Type 0 where
  pub used : UsedPart m k
  pub item : ItemIn i (part m k)

-- The leaf at part k lost its i-th entry, one of several.
pub record LeafShorter (m : List ℕ) (k i : ℕ) (m' : List ℕ) : Type 0 where
  pub dropped : EntryDroppedAt m k i m'
  pub several : 2 ≤ item_count (part m k)

-- The routing node at part k lost its i-th branch, one of several.
pub record NodeShorter (m : List ℕ) (k i : ℕ) (m' : List ℕ) : Type 0 where
  pub dropped : BranchDroppedAt m k i m'
  pub several : 2 ≤ item_count (part m k)

-- The node at part k lost its only item, and its part was set free.
pub record NodeFreed (m : List ℕ) (k : ℕ) (m' : List ℕ) : Type 0 where
  pub last : item_count (part m k) ≡ 1
  pub memory : m' ≡ freed m k

-- what became of a leaf, by whether it is left
abbrev pub EntryTaken : List ℕ → ℕ → ℕ → List ℕ → Bool → Type 0
EntryTaken m k i m' true = LeafShorter m k i m'
EntryTaken m k i m' false = NodeFreed m k m'

-- what became of a routing node, by whether it is left
abbrev pub BranchTaken : List ℕ → ℕ → ℕ → List ℕ → Bool → Type 0
BranchTaken m k i m' true = NodeShorter m k i m'
BranchTaken m k i m' false = NodeFreed m k m'

-- what is left of a node and all below it without the entry of the cell: the node with its polygon, or nothing
abbrev pub node_remaining : (n : ℕ) → Cell → Item index_space (suc n) → List (Item index_space (suc n))
node_remaining n c b = prune index_space (suc n) (other index_space c) (λ p. p) b

-- The node at part k reads and is sound, with its subtree in the parts from lo on, and it holds the cell. Parts not
-- in use are zero.
pub record Removable (n : ℕ) (m : List ℕ) (lo k : ℕ) (c : Cell) : Type 0 where
  pub path : SoundWalk n m lo k
  pub unused : others_zero m (parts_of m) ≡ true
  pub holds : any (of_cell index_space c) (held index_space (suc n) path.walk.node) ≡ true

-- The cell's entry was removed below the node at part k, which gave m'; left says whether the node is left. It reads
-- as what the definition leaves of it. The bits set fall with the nodes, parts not in use are zero, and all else is as
-- it was.
pub record RemovedBelow (n : ℕ) (m : List ℕ) (lo k : ℕ) (c : Cell) (m' : List ℕ) (left : Bool) : Type 0 where
  pub node : Item index_space (suc n)
  pub before : read_node fanout n m lo k ≡ some node
  pub remaining_is : left ≡ not_empty (node_remaining n c node)
  pub after : (b : Item index_space (suc n)) → node_remaining n c node ≡ b ∷ [] → read_node fanout n m' lo k ≡ some b
  pub bits : bits_set m' + nodes index_space (suc n) node
      ≡ bits_set m + total (nodes index_space (suc n)) (node_remaining n c node)
  pub unused : others_zero m' (parts_of m') ≡ true
  pub beside : Beside m lo k m'
