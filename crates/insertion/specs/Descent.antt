-- The descent of an insertion: what is known of the node on the path at a level, and of the path from there on.
use Rattle.path.specs.declared.level.Level.{Level}
use Rattle.std.specs.Prelude.{ℕ, suc, ◌≤◌, ◌<◌, true, None, ◌≡◌, length, Result, Ok, Err}
use mathlib.Core.List.{List, [], flat_map}
use Rattle.std.proofs.Math.Option.{Option, none, some}
use Rattle.geometry.specs.declared.rect.Cell.{Cell}
use Rattle.geometry.specs.Cells.{on_grid}
use Rattle.tree.specs.Nodes.{Item, held}
use Rattle.tree.specs.Sound.{Count, SoundItems}
use Rattle.tree.specs.Plan.{descend}
use Rattle.tree.proofs.InsertAt.{Fresh}
use Rattle.plane.specs.Lines.{Payload, some_payload, entry_of}
use Rattle.plane.specs.Fanout.{fanout, index_space}
use Rattle.memory.specs.Reading.{read_node}
use Rattle.layout.specs.Nodes.{child_at}
use Rattle.walks.specs.Walks.{Walkable}
use Rattle.geometry.specs.declared.cut.TooMany.{TooMany}
use Rattle.path.specs.Path.{part_on, place_on, line_on, rect_count_on, polygon_on, HasLevel, FewRects, SameAbove}
use Rattle.tree_after.specs.Path.{way_at, PathFrom}

-- the items of the node at part k; none where it does not read
unfoldable pub child_or : (n : ℕ) → Option (Item index_space (suc n)) → List (Item index_space n)
child_or n none = []
child_or n (some b) = b.child

unfoldable pub items_at : (n : ℕ) → List ℕ → ℕ → List (Item index_space n)
items_at n m k = child_or n (read_node fanout n m 0 k)

-- The node on the path at a level is a sound node of the memory within its polygon as grown, which has the cell; the
-- cell is not held.
pub record Descending (n : ℕ) (path : List Level) (m : List ℕ) (c : Cell) : Type 0 where
  pub walk : Walkable n m 0 (part_on path n)
  pub room : HasLevel n path
  pub few : FewRects n path
  pub unsplit : line_on path n ≡ None
  pub grid : on_grid c ≡ true
  pub fine : index_space.Fine (polygon_on path n)
  pub has : index_space.has (polygon_on path n) c ≡ true
  pub items : SoundItems index_space n (polygon_on path n) (items_at n m (part_on path n))
  pub count : Count index_space (items_at n m (part_on path n))
  pub fresh : Fresh index_space (entry_of c some_payload)
      (flat_map (held index_space n) (items_at n m (part_on path n)))

-- What the descent from a level on leaves of the path as it was: all above the level, and the level's own part, line
-- and polygon.
pub record Kept (n : ℕ) (path path' : List Level) : Type 0 where
  pub same_length : length path' ≡ length path
  pub part : part_on path' n ≡ part_on path n
  pub line : line_on path' n ≡ line_on path n
  pub count : rect_count_on path' n ≡ rect_count_on path n
  pub polygon : polygon_on path' n ≡ polygon_on path n
  pub above : SameAbove n path path'

-- Each node on the path below a level is the child of the one above it at its place; each polygon as grown is a good
-- one.
pub record Linked (n : ℕ) (path : List Level) (m : List ℕ) : Type 0 where
  pub child : (j : ℕ) → j < n → part_on path j ≡ child_at m (part_on path (suc j)) (place_on path (suc j))
  pub fine : (j : ℕ) → j ≤ n → index_space.Fine (polygon_on path j)

-- The descent came to the leaf: from each level on the path is that of the definition, down to the leaf with the new
-- entry, and no node is split so far.
pub record Reached (n : ℕ) (path : List Level) (m : List ℕ) (c : Cell) (path' : List Level) : Type 0 where
  pub from : PathFrom n path' m
  pub linked : Linked n path' m
  pub unsplit : (j : ℕ) → j ≤ n → line_on path' j ≡ None
  pub ways : (j : ℕ) → j ≤ n → (t : Payload)
      → descend index_space j (polygon_on path' j) (items_at j m (part_on path' j)) (entry_of c t)
      ≡ some (way_at j path' m (entry_of c t))

-- Step 2 refused: 7.
pub record Stopped (n : ℕ) (path : List Level) (m : List ℕ) (c : Cell) : Type 0 where
  pub way : (t : Payload)
      → descend index_space n (polygon_on path n) (items_at n m (part_on path n)) (entry_of c t) ≡ none

abbrev pub DescentIs : ℕ → List Level → List ℕ → Cell → List Level → Result ℕ TooMany → Type 0
DescentIs n path m c path' (Ok removed) = Reached n path m c path'
DescentIs n path m c path' (Err e) = Stopped n path m c

pub record Descended (n : ℕ) (path : List Level) (m : List ℕ) (c : Cell) (path' : List Level) (r : Result ℕ TooMany) : Type 0 where
  pub kept : Kept n path path'
  pub is : DescentIs n path m c path' r
