-- The returns of an insertion.
use Prim.Native.Nat.{ℕ}
use mathlib.Core.Bool.{Bool, true, false}
use mathlib.Core.Path.{◌≡◌, refl, sym, ap, ◌∙◌}
use mathlib.Core.List.{List}
use mathlib.Core.Option.{some}
use borrow.Author.Tests.{eq-eqb, ne_eqb}
use lib.ListN.{length, replicate}
use Rattle.geometry.specs.declared.rect.Cell.{Cell}
use Rattle.geometry.specs.Cells.{on_grid}
use Rattle.tree.specs.Query.{holds}
use Rattle.plane.specs.Lines.{CellEntry, Payload, entry_of}
use Rattle.plane.specs.Fanout.{fanout, index_space}
use Rattle.memory.specs.Layout.{is_index_length}
use Rattle.memory.specs.Reading.{reading}
use Rattle.memory.specs.TreeIn.{TreeIn}
use Rattle.std.specs.Prelude.{Result, Err}
use Rattle.answers.specs.declared.answer.Refusal.{Refusal}
use Rattle.answers.specs.declared.answer.Refusal.TheVariants as R
use Rattle.answers.specs.declared.answer.Inserted.{Inserted}
use Rattle.answers.specs.Answers.{insert_end, insert_read, insert_answer}
use Rattle.answers.specs.Changes.{InsertCall}
use Rattle.soundness.specs.Open.{NoTree}
use Rattle.queries.specs.Held.{held_read}
use Rattle.insertion.specs.Insert.{Built, InsertDone}

-- into a tree
module _ (m w : List ℕ) (level root : ℕ) (c : Cell) (t : Payload) (v : TreeIn m level root) (b : Bool) (h : b ≡ held_read c (reading fanout m)) where
  pub into_held : b ≡ true → InsertDone m w (entry_of c t) m w (Err R.Held)
  unfolding insert_read insert_end held_read
  into_held f =
      let q : holds index_space c (some v.tree) ≡ true = sym (ap (held_read c) v.reads) ∙ sym h ∙ f in
      record { answer = sym (rw (v.reads, q)); memory = refl; memory_length = refl; work = refl }

pub into_done : (m w m' w' w'' : List ℕ) (e : CellEntry) (r : Result Inserted Refusal) → Built m w e m' w' r → w'' ≡ replicate (length w') 0 → InsertDone m w e m' w'' r
into_done m w m' w' w'' e r a z = record {
  answer = a.answer;
  memory = a.memory;
  memory_length = a.memory_length;
  work = z ∙ ap (λ (n : ℕ). replicate n 0) a.work_length ∙ sym a.zeroed;
}

-- the memory was opened as no tree
pub into_no_tree : (m w : List ℕ) (e : CellEntry) (r : Refusal) → NoTree m r → InsertDone m w e m w (Err r)
unfolding insert_read
into_no_tree m w e r p = record { answer = rw (p.reason, p.reads); memory = refl; memory_length = refl; work = rw p.reason }

-- the tests
pub wrong_length : (m w : List ℕ) (e : CellEntry) (a : Bool) → a ≡ is_index_length m → a ≡ false → InsertCall m w e m w (Err R.WrongLength)
unfolding insert_answer
wrong_length m w e a p f = record { answer = rw (← p, f); memory = refl; memory_length = refl; work = refl }

module _ (m w : List ℕ) (c : Cell) (t : Payload) (right : is_index_length m ≡ true) where
  pub wrong_work : (length w ≡ length m → ⊥) → InsertCall m w (entry_of c t) m w (Err R.WorkLength)
  unfolding insert_answer
  wrong_work h = record { answer = rw (right, ne_eqb (length w) (length m) h); memory = refl; memory_length = refl; work = refl }

  module _ (long : length w ≡ length m) (d : Bool) (q : d ≡ on_grid c) where
    pub off_grid : d ≡ false → InsertCall m w (entry_of c t) m w (Err R.Invalid)
    unfolding insert_answer
    off_grid f = record { answer = rw (right, eq-eqb (length w) (length m) long, ← q, f); memory = refl; memory_length = refl; work = refl }

    pub call_done : d ≡ true → (m' w' : List ℕ) (r : Result Inserted Refusal) → InsertDone m w (entry_of c t) m' w' r → InsertCall m w (entry_of c t) m' w' r
    unfolding insert_answer
    call_done f m' w' r z = record {
      answer = rw (right, eq-eqb (length w) (length m) long, ← q, f) z.answer;
      memory = z.memory;
      memory_length = z.memory_length;
      work = z.work;
    }
