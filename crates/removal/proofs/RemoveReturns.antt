-- The returns of removal, test by test.
use Prim.Native.Nat.{ℕ}
use mathlib.Core.Path.{◌≡◌, refl}
use mathlib.Core.Bool.{Bool, true, false, not}
use mathlib.Core.List.{List}
use mathlib.Core.Option.{none, some}
use borrow.Author.Tests.{not-true, not-false}
use Rattle.polygons.specs.Lists.{any}
use Rattle.geometry.specs.declared.rect.Cell.{Cell}
use Rattle.geometry.specs.Cells.{on_grid}
use Rattle.plane.specs.Fanout.{fanout}
use Rattle.memory.specs.Layout.{is_index_length}
use Rattle.memory.specs.Reading.{reading}
use Rattle.std.specs.Prelude.{Result, Err}
use Rattle.answers.specs.declared.answer.Refusal.{Refusal}
use Rattle.answers.specs.declared.answer.Refusal.TheVariants as R
use Rattle.answers.specs.Answers.{remove_end, remove_read, remove_answer}
use Rattle.answers.specs.Changes.{RemoveCall}
use Rattle.soundness.specs.Open.{NoTree}
use Rattle.removal.specs.Tree.{RemoveDone}

-- a memory that was opened as no tree or as the empty index
pub remove_no_tree : (m : List ℕ) (c : Cell) (r : Refusal) → NoTree m r → RemoveDone m c m (Err r)
unfolding remove_read
remove_no_tree m c r p = record { answer = rw (p.reason, p.reads); memory = refl; memory_length = refl }

pub remove_empty : (m : List ℕ) (c : Cell) → reading fanout m ≡ some none → RemoveDone m c m (Err R.NotHeld)
unfolding remove_read remove_end any
remove_empty m c p = record { answer = rw p; memory = refl; memory_length = refl }

-- the tests
pub remove_wrong_length : (m : List ℕ) (c : Cell) (b : Bool) → b ≡ is_index_length m → not b ≡ true → RemoveCall m c m (Err R.WrongLength)
unfolding remove_answer
remove_wrong_length m c b e f = record { answer = rw (← e, not-true b f); memory = refl; memory_length = refl }

module _ (m : List ℕ) (c : Cell) (right : is_index_length m ≡ true) (g : Bool) (h : g ≡ on_grid c) where
  pub remove_off_grid : not g ≡ true → RemoveCall m c m (Err R.Invalid)
  unfolding remove_answer
  remove_off_grid k = record { answer = rw (right, ← h, not-true g k); memory = refl; memory_length = refl }

  pub remove_tested : not g ≡ false → (m' : List ℕ) (r : Result ℕ Refusal) → RemoveDone m c m' r → RemoveCall m c m' r
  unfolding remove_answer
  remove_tested k m' r q = record {
    answer = rw (right, ← h, not-false g k) q.answer;
    memory = q.memory;
    memory_length = q.memory_length;
  }
