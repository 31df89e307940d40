-- The walks that the queries make in a memory, below the node at a part: what they enter and what they find there.
use Rattle.std.specs.Prelude.{ℕ, suc, ◌≤◌, ◌<◌, Bool, true, List, [], ◌≡◌}
use Rattle.std.proofs.Math.Option.{Option, none, some}
use Rattle.geometry.specs.declared.rect.Cell.{Cell}
use Rattle.geometry.specs.declared.rect.Rect.{Rect}
use Rattle.tree.specs.Lists.{keep}
use Rattle.tree.specs.Nodes.{Item}
use Rattle.tree.specs.Sound.{SoundItem}
use Rattle.tree.specs.Query.{of_cell, matching}
use Rattle.tree.specs.Walk.{node_walk_visits, node_walk_entries}
use Rattle.plane.specs.Lines.{CellEntry}
use Rattle.plane.specs.Fanout.{fanout, index_space, index_window}
use Rattle.memory.specs.Layout.{is_index_length, item_count, entries_in}
use Rattle.memory.specs.Reading.{read_node}
use Rattle.layout.specs.Nodes.{PartIn, count_at}

-- the point query's tests: a polygon has the cell, an entry is of the cell
unfoldable pub has_test : Cell → List Rect → Bool
has_test c p = index_space.has p c

unfoldable pub cell_test : Cell → CellEntry → Bool
cell_test c e = of_cell index_space c e

-- the window query's tests: a polygon shares a cell with the window, an entry's cell is in it
unfoldable pub meets_test : Rect → List Rect → Bool
meets_test w p = index_window.meets p w

unfoldable pub inside_test : Rect → CellEntry → Bool
inside_test w e = matching index_space index_window w e

-- the tests that everything passes: their walk enters every node and finds every entry
unfoldable pub any_polygon : List Rect → Bool
any_polygon p = true

unfoldable pub any_entry : CellEntry → Bool
any_entry e = true

module _ (t : List Rect → Bool) where
  -- the nodes entered below the node at part k, itself among them; none where it does not read
  unfoldable pub visits_from : (n : ℕ) → Option (Item index_space (suc n)) → ℕ
  visits_from n none = 0
  visits_from n (some b) = node_walk_visits index_space t n b.child

  unfoldable pub visits_below : ℕ → List ℕ → ℕ → ℕ → ℕ
  visits_below n m lo k = visits_from n (read_node fanout n m lo k)

  module _ (u : CellEntry → Bool) where
    -- the entries that pass u in the leaves entered, in depth-first order
    unfoldable pub entries_from : (n : ℕ) → Option (Item index_space (suc n)) → List CellEntry
    entries_from n none = []
    entries_from n (some b) = node_walk_entries index_space t u n b.child

    unfoldable pub entries_below : ℕ → List ℕ → ℕ → ℕ → List CellEntry
    entries_below n m lo k = entries_from n (read_node fanout n m lo k)

-- the entries of a cell that its walk finds
abbrev pub held_below : Cell → ℕ → List ℕ → ℕ → ℕ → List CellEntry
held_below c n m lo k = entries_below (has_test c) (cell_test c) n m lo k

-- the entries in a window that its walk finds
abbrev pub matches_below : Rect → ℕ → List ℕ → ℕ → ℕ → List CellEntry
matches_below w n m lo k = entries_below (meets_test w) (inside_test w) n m lo k

-- the entries of a leaf's part that pass
unfoldable pub leaf_entries : (CellEntry → Bool) → List ℕ → List CellEntry
leaf_entries u p = keep u (entries_in p (item_count p))

-- A memory of a right length has a node at part k that reads, with its subtree in the parts from lo on. The bounds
-- follow from that (the law walkable).
pub record Walkable (n : ℕ) (m : List ℕ) (lo k : ℕ) : Type 0 where
  pub right : is_index_length m ≡ true
  pub from : lo ≤ k
  pub below : k < 256
  pub ends : PartIn m k
  pub few : count_at m k ≤ 8
  pub node : Item index_space (suc n)
  pub reads : read_node fanout n m lo k ≡ some node

-- The node at part k can be walked, and is sound among the cells of `around`.
pub record SoundWalk (n : ℕ) (m : List ℕ) (lo k : ℕ) : Type 0 where
  pub walk : Walkable n m lo k
  pub around : List Rect
  pub sound : SoundItem index_space (suc n) around walk.node
