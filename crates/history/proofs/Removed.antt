-- The cells removed that an accepted insertion tells, on any memory.
use Prim.Native.Nat.{ℕ}
use mathlib.Core.Bool.{Bool, true, false, cond, false≢true}
use mathlib.Core.List.{List}
use mathlib.Core.Option.{Option, none, some}
use mathlib.Core.Path.{◌≡◌, refl}
use lib.Dec.{eqb}
use lib.ListN.{length}
use Rattle.geometry.specs.Cells.{on_grid}
use Rattle.tree.specs.Tree.{entries}
use Rattle.tree.specs.Insert.{Outcome, refused, accepted as accepted_as}
use Rattle.tree.specs.Calls.{insertion}
use Rattle.plane.specs.Lines.{CellEntry}
use Rattle.plane.specs.Fanout.{fanout, index_space, index_root, PlaneIndex}
use Rattle.memory.specs.Layout.{parts_of, is_index_length}
use Rattle.memory.specs.Reading.{reading}
use Rattle.answers.specs.Answers.{cells_removed, insert_end, insert_read, insert_answer}
use Rattle.answers.specs.Numbers.{insert_reply}
use Rattle.std.specs.Prelude.{Err}
use Rattle.answers.specs.declared.answer.Refusal.TheVariants as R
use Rattle.history.specs.Calls.{accepted}
use Rattle.history.specs.Removed.{RemovedExact}

module _ (m : List ℕ) (e : CellEntry) where
  -- how the insertion into the index that the memory holds ended
  removed_end : (i : PlaneIndex) → reading fanout m ≡ some i → (o : Outcome index_space)
      → accepted (insert_reply (insert_end (cells_removed i e.cell) o)) ≡ true
      → RemovedExact m e.cell (insert_reply (insert_end (cells_removed i e.cell) o))
  unfolding insert_end
  removed_end i r (refused k) f = never (eqb k 5) (eqb k 7) f
    where
      never : (a b : Bool) {A : Type 0}
          → accepted (insert_reply (Err (cond a R.Held (cond b R.OverLimit R.TooManyNodes)))) ≡ true → A
      never true b f = absurd (false≢true f)
      never false true f = absurd (false≢true f)
      never false false f = absurd (false≢true f)
  removed_end i r (accepted_as j) f = record {
    index = i;
    reads = r;
    held = length (entries index_space j);
    reply = refl;
  }

  -- an accepted insertion on any memory: that memory holds an index, and the total is that of the index
  pub insert_removed : (len : ℕ) → accepted (insert_reply (insert_answer m len e)) ≡ true
      → RemovedExact m e.cell (insert_reply (insert_answer m len e))
  unfolding insert_answer insert_read
  insert_removed len f = go (is_index_length m) (eqb len (length m)) (on_grid e.cell) (reading fanout m) refl f
    where
      go : (a b d : Bool) (o : Option PlaneIndex) → reading fanout m ≡ o
          → accepted (insert_reply (cond a
          (cond b (cond d (insert_read (parts_of m) e o) (Err R.Invalid)) (Err R.WorkLength)) (Err R.WrongLength))) ≡ true
          → RemovedExact m e.cell (insert_reply
          (cond a (cond b (cond d (insert_read (parts_of m) e o) (Err R.Invalid)) (Err R.WorkLength)) (Err R.WrongLength)))
      go false b d o r f = absurd (false≢true f)
      go true false d o r f = absurd (false≢true f)
      go true true false o r f = absurd (false≢true f)
      go true true true none r f = absurd (false≢true f)
      go true true true (some i) r f = removed_end i r
          (insertion index_space index_root (parts_of m) i e) f
