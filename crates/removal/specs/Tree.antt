-- Removal from the tree that a memory reads as.
use Rattle.std.specs.Prelude.{ℕ, List, ◌≡◌, length, Result}
use Rattle.geometry.specs.declared.rect.Cell.{Cell}
use Rattle.plane.specs.Fanout.{fanout}
use Rattle.memory.specs.Reading.{reading}
use Rattle.answers.specs.declared.answer.Refusal.{Refusal}
use Rattle.answers.specs.Answers.{remove_read}
use Rattle.answers.specs.Changes.{RemoveMemory}

-- A removal from the index that the memory reads as ended with the answer r, and left m'.
pub record RemoveDone (m : List ℕ) (c : Cell) (m' : List ℕ) (r : Result ℕ Refusal) : Type 0 where
  pub answer : r ≡ remove_read c (reading fanout m)
  pub memory : RemoveMemory r m c m'
  pub memory_length : length m' ≡ length m
