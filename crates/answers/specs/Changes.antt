-- What insertion, removal and the window query leave in the lists they were lent, with their answers. Which part a
-- node takes is free: what the memory reads as is fixed.
-- docs/RULES.md 3.16, 4.23, 4.25, 5.4, 5.11, 5.12, 7.2
use Rattle.std.specs.Prelude.{ℕ, List, ◌≡◌, length, replicate, Result, Ok, Err}
use Rattle.std.proofs.Math.Option.{Option, none, some}
use Rattle.geometry.specs.declared.rect.Cell.{Cell}
use Rattle.geometry.specs.declared.rect.Rect.{Rect}
use Rattle.tree.specs.Calls.{insertion, removal, outcome_index}
use Rattle.plane.specs.Lines.{CellEntry}
use Rattle.plane.specs.Fanout.{fanout, index_space, index_root, PlaneIndex}
use Rattle.memory.specs.Layout.{parts_of}
use Rattle.memory.specs.Reading.{reading}
use Rattle.answers.specs.declared.answer.Refusal.{Refusal}
use Rattle.answers.specs.declared.answer.Refusal.TheVariants as R
use Rattle.answers.specs.declared.answer.Inserted.{Inserted}
use Rattle.answers.specs.Answers.{insert_answer, remove_answer, window_answer, window_list}
use Rattle.answers.specs.declared.answer.WindowFound.{WindowFound}

-- 'Its promise names the tree after, from the tree before': what the memory reads as after an insertion, from what it
-- read as before
unfoldable pub inserted_index : ℕ → CellEntry → Option PlaneIndex → Option PlaneIndex
inserted_index N e none = none
inserted_index N e (some i) = some (outcome_index index_space i (insertion index_space index_root N i e))

-- the index at exit, by the answer: accepted, it reads as the tree after; refused, every number is as it was
abbrev pub InsertMemory : Result Inserted Refusal → List ℕ → CellEntry → List ℕ → Type 0
InsertMemory (Ok done) m e m' = reading fanout m' ≡ inserted_index (parts_of m) e (reading fanout m)
InsertMemory (Err r) m e m' = m' ≡ m

-- the work area at exit: 'It is all zeros after acceptance and after refusals 7 and 8; other refusals don't touch it.'
abbrev pub work_after : Result Inserted Refusal → List ℕ → List ℕ
work_after (Ok done) w = replicate (length w) 0
work_after (Err R.OverLimit) w = replicate (length w) 0
work_after (Err R.TooManyNodes) w = replicate (length w) 0
work_after (Err r) w = w

-- A call of insertion on the index m with the work area w ended with the answer r, and left m' and w'.
pub record InsertCall (m w : List ℕ) (e : CellEntry) (m' w' : List ℕ) (r : Result Inserted Refusal) : Type 0 where
  pub answer : r ≡ insert_answer m (length w) e
  pub memory : InsertMemory r m e m'
  pub memory_length : length m' ≡ length m
  pub work : w' ≡ work_after r w

-- what the memory reads as after a removal, from what it read as before
unfoldable pub removed_index : Cell → Option PlaneIndex → Option PlaneIndex
removed_index c none = none
removed_index c (some i) = some (outcome_index index_space i (removal index_space i c))

-- the index at exit, by the answer
abbrev pub RemoveMemory : Result ℕ Refusal → List ℕ → Cell → List ℕ → Type 0
RemoveMemory (Ok held) m c m' = reading fanout m' ≡ removed_index c (reading fanout m)
RemoveMemory (Err r) m c m' = m' ≡ m

-- A call of removal on the index m ended with the answer r, and left m'.
pub record RemoveCall (m : List ℕ) (c : Cell) (m' : List ℕ) (r : Result ℕ Refusal) : Type 0 where
  pub answer : r ≡ remove_answer m c
  pub memory : RemoveMemory r m c m'
  pub memory_length : length m' ≡ length m

-- A call of the window query ended with that answer, and left the list l'.
pub record WindowCall (m : List ℕ) (w : Rect) (l l' : List ℕ) (r : Result WindowFound Refusal) : Type 0 where
  pub answer : r ≡ window_answer m w (length l)
  pub list : l' ≡ window_list m w l
