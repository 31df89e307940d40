-- The parts of an insertion into a tree that a memory reads as.
use Rattle.path.specs.declared.level.Level.{Level}
use Rattle.std.specs.Prelude.{ℕ, true, false, List, ◌≡◌, length, replicate, Result, Ok, Err}
use Rattle.std.proofs.Math.Option.{none, some}
use Rattle.geometry.specs.declared.rect.Cell.{Cell}
use Rattle.geometry.specs.Cells.{on_grid}
use Rattle.tree.specs.Tree.{Tree}
use Rattle.tree.specs.Insert.{insert_tree}
use Rattle.plane.specs.Lines.{CellEntry, Payload, entry_of}
use Rattle.plane.specs.Fanout.{fanout, index_space, index_root}
use Rattle.memory.specs.Layout.{parts_of, root_in}
use Rattle.memory.specs.Reading.{reading}
use Rattle.memory.specs.TreeIn.{TreeIn}
use Rattle.answers.specs.declared.answer.Refusal.{Refusal}
use Rattle.answers.specs.declared.answer.Inserted.{Inserted}
use Rattle.answers.specs.Answers.{insert_read}
use Rattle.answers.specs.Changes.{InsertMemory, work_after}
use Rattle.queries.specs.Held.{held_read}
use Rattle.path.specs.Path.{part_on, polygon_on}
use Rattle.geometry.specs.declared.cut.TooMany.{TooMany}
use Rattle.tree_after.specs.Path.{planned_tree}
use Rattle.insertion.specs.Planning.{GoodPath, Plannable}

-- The memory reads as a tree that does not hold the cell, which is on the grid.
pub record Inserting (m : List ℕ) (level root : ℕ) (c : Cell) : Type 0 where
  pub tree_in : TreeIn m level root
  pub grid : on_grid c ≡ true
  pub new : held_read c (reading fanout m) ≡ false

-- Steps 1 to 3 are done: the path leads from the root, whose rectangle has grown to the cell, down to the leaf; no node
-- is split so far.
pub record PathReady (m : List ℕ) (level : ℕ) (c : Cell) (path : List Level) : Type 0 where
  pub plannable : Plannable level path m c
  pub top : part_on path level ≡ root_in m
  pub polygon : (x : Tree index_space) → reading fanout m ≡ some (some x)
      → polygon_on path level ≡ index_root.grow_root x.root c

-- the path and its plan give the tree after
pub record PathPlanned (m : List ℕ) (level : ℕ) (c : Cell) (path : List Level) : Type 0 where
  pub good : GoodPath level path m c
  pub top : part_on path level ≡ root_in m
  pub after : (x : Tree index_space) → reading fanout m ≡ some (some x) → (t : Payload)
      → insert_tree index_space index_root (some x) (entry_of c t) ≡ some (planned_tree level path m (entry_of c t))

-- step 2 refuses: 7
pub record PathRefused (m : List ℕ) (c : Cell) : Type 0 where
  pub after : (x : Tree index_space) → reading fanout m ≡ some (some x) → (t : Payload)
      → insert_tree index_space index_root (some x) (entry_of c t) ≡ none

abbrev pub PathFound : List ℕ → ℕ → Cell → List Level → Result ℕ TooMany → Type 0
PathFound m level c path (Ok removed) = PathReady m level c path
PathFound m level c path (Err e) = PathRefused m c

-- The insertion was decided, and the index written where it is accepted; the work area is still to be zeroed.
pub record Built (m w : List ℕ) (e : CellEntry) (m' w' : List ℕ) (r : Result Inserted Refusal) : Type 0 where
  pub answer : r ≡ insert_read (parts_of m) e (reading fanout m)
  pub memory : InsertMemory r m e m'
  pub memory_length : length m' ≡ length m
  pub work_length : length w' ≡ length w
  pub zeroed : work_after r w ≡ replicate (length w) 0

-- The same without a work area: whatever there is, it is as it was.
abbrev pub BuiltInPlace : List ℕ → CellEntry → List ℕ → Result Inserted Refusal → Type 0
BuiltInPlace m e m' r = (w : List ℕ) → Built m w e m' w r

-- An insertion into the index that the memory reads as ended with the answer r, and left m' and w'.
pub record InsertDone (m w : List ℕ) (e : CellEntry) (m' w' : List ℕ) (r : Result Inserted Refusal) : Type 0 where
  pub answer : r ≡ insert_read (parts_of m) e (reading fanout m)
  pub memory : InsertMemory r m e m'
  pub memory_length : length m' ≡ length m
  pub work : w' ≡ work_after r w
