-- The calls that leave an index: what a memory that reads as one reads as after them.
use Prim.Native.Nat.{ℕ}
use mathlib.Core.Path.{◌≡◌, ap, ◌∙◌}
use mathlib.Core.Bool.{true}
use mathlib.Core.List.{List}
use mathlib.Core.Option.{none}
use lib.ListN.{length, replicate, length-replicate}
use Rattle.geometry.specs.declared.rect.Cell.{Cell}
use Rattle.tree.specs.Calls.{insertion, removal, outcome_index}
use Rattle.plane.specs.Lines.{CellEntry}
use Rattle.plane.specs.Fanout.{fanout, index_space, index_root}
use Rattle.memory.specs.Layout.{parts_of, is_index_length}
use Rattle.memory.specs.Reading.{reading}
use Rattle.memory.specs.TreeIn.{Reads}
use Rattle.memory.proofs.ReadingLaws.{is_index_length_lem, index_length, zeros_zero, zeros_read}
use Rattle.std.specs.Prelude.{Result, Ok, Err}
use Rattle.answers.specs.declared.answer.Inserted.{Inserted}
use Rattle.answers.specs.declared.answer.Refusal.{Refusal}
use Rattle.answers.specs.Answers.{cleared}
use Rattle.answers.specs.Changes.{inserted_index, InsertMemory, InsertCall, removed_index, RemoveMemory, RemoveCall}

-- clearing leaves the empty index
pub cleared_reads : (m : List ℕ) → is_index_length m ≡ true → Reads (cleared m)
unfolding cleared
cleared_reads m e =
    let r = index_length m e in
    let f = is_index_length_lem (replicate (length m) 0) (parts_of m) (length-replicate _ 0 ∙ r.length_is) r.some_parts r.few_parts in
    record { index = none; reads = rw e (zeros_read fanout (replicate (length m) 0) f (zeros_zero (length m))) }

reads_same : {m m' : List ℕ} → m' ≡ m → Reads m → Reads m'
reads_same e v = record { index = v.index; reads = ap (reading fanout) e ∙ v.reads }

-- an insertion leaves an index, accepted or refused
inserted_reads : (m : List ℕ) (e : CellEntry) (m' : List ℕ) (r : Result Inserted Refusal) → InsertMemory r m e m' → Reads m → Reads m'
unfolding inserted_index
inserted_reads m e m' (Ok done) p v = record {
  index = outcome_index index_space v.index (insertion index_space index_root (parts_of m) v.index e);
  reads = p ∙ rw v.reads;
}
inserted_reads m e m' (Err r) p v = reads_same p v

pub insert_reads : {m w : List ℕ} {e : CellEntry} {m' w' : List ℕ} {r : Result Inserted Refusal} → InsertCall m w e m' w' r → Reads m → Reads m'
insert_reads {m} {w} {e} {m'} {w'} {r} h v = inserted_reads m e m' r h.memory v

-- a removal leaves an index, accepted or refused
removed_reads : (m : List ℕ) (c : Cell) (m' : List ℕ) (r : Result ℕ Refusal) → RemoveMemory r m c m' → Reads m → Reads m'
unfolding removed_index
removed_reads m c m' (Ok held) p v = record {
  index = outcome_index index_space v.index (removal index_space v.index c);
  reads = p ∙ rw v.reads;
}
removed_reads m c m' (Err r) p v = reads_same p v

pub remove_reads : {m : List ℕ} {c : Cell} {m' : List ℕ} {r : Result ℕ Refusal} → RemoveCall m c m' r → Reads m → Reads m'
remove_reads {m} {c} {m'} {r} h v = removed_reads m c m' r h.memory v
