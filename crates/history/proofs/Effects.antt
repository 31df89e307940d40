-- What each call leaves in the memory and in the list it was lent, by its contract, on a memory that holds an index.
use Prim.Native.Nat.{ℕ, ◌+◌, ◌*◌}
use mathlib.Core.Bool.{Bool, true, false, cond, true≢false}
use mathlib.Core.List.{List, ◌++◌, flat_map}
use mathlib.Core.Option.{some}
use mathlib.Core.Path.{◌≡◌, refl, ap, ◌∙◌, subst}
use native.Mathlib.Omega.{arith}
use lib.Dec.{leb, eqb}
use lib.ListN.{length, replicate, drop, length-replicate}
use Rattle.geometry.specs.declared.rect.Cell.{Cell}
use Rattle.geometry.specs.declared.rect.Rect.{Rect}
use Rattle.geometry.specs.Cells.{on_grid, valid}
use Rattle.tree.specs.Insert.{Outcome, refused, accepted as accepted_as}
use Rattle.tree.specs.Query.{window_visits}
use Rattle.tree.specs.Calls.{insert_call, remove_call, clear_call, window_call, insertion, removal, outcome_index, after}
use Rattle.plane.specs.Lines.{CellEntry}
use Rattle.plane.specs.Fanout.{fanout, index_space, index_root, index_window, PlaneIndex}
use Rattle.memory.specs.Reading.{reading}
use Rattle.memory.proofs.ReadingLaws.{is_index_length_lem, zeros_zero, zeros_read}
use Rattle.answers.specs.Listing.{list_width, listed_numbers}
use Rattle.answers.specs.Answers.{cells_removed, insert_end, insert_answer, remove_end, remove_answer, cleared, matches_in, window_read, window_answer, window_written, window_list}
use Rattle.answers.specs.Changes.{inserted_index, InsertMemory, work_after, removed_index, RemoveMemory}
use Rattle.answers.specs.Numbers.{insert_reply, remove_reply, window_reply}
use Rattle.answers.specs.declared.answer.Inserted.{Inserted}
use Rattle.std.specs.Prelude.{Result, Ok, Err}
use Rattle.answers.specs.declared.answer.Refusal.{Refusal}
use Rattle.answers.specs.declared.answer.Refusal.TheVariants as R
use Rattle.history.specs.Calls.{accepted}
use Rattle.history.specs.Defined.{early, index_after, work_at_exit, lent_after}
use Rattle.history.proofs.Answers.{Holds, by2, right, parts, insert_value, remove_value, window_value}

-- a refused insertion leaves the memory
pub insert_refused : (r : Result Inserted Refusal) (m m' : List ℕ) (e : CellEntry) → InsertMemory r m e m' → accepted (insert_reply r) ≡ false → m' ≡ m
insert_refused (Ok done) m m' e g f = absurd (true≢false f)
insert_refused (Err r) m m' e g f = g

-- the work area, by the number returned
pub work_at_exit_lem : (r : Result Inserted Refusal) (w : List ℕ) → work_after r w ≡ work_at_exit (insert_reply r).number w
unfolding work_at_exit
work_at_exit_lem (Ok done) w = refl
work_at_exit_lem (Err r) w = grind arith

-- a refused removal leaves the memory
pub remove_refused : (r : Result ℕ Refusal) (m m' : List ℕ) (c : Cell) → RemoveMemory r m c m' → accepted (remove_reply r) ≡ false → m' ≡ m
remove_refused (Ok held) m m' c g f = absurd (true≢false f)
remove_refused (Err r) m m' c g f = g

module _ (N : ℕ) (m : List ℕ) (i : PlaneIndex) (h : Holds N m i) where
  -- what the memory reads as after an insertion
  pub insert_reads : (len : ℕ) (e : CellEntry) (m' : List ℕ) → InsertMemory (insert_answer m len e) m e m' → reading fanout m' ≡ some (index_after N i (insert_call e) len)
  unfolding index_after early after insert_end inserted_index
  insert_reads len e m' g = go (eqb len (64 + 128 * N)) (on_grid e.cell) (subst (λ r. InsertMemory r m e m') (insert_value N m i h len e) g)
    where
      ends : (o : Outcome index_space) → insertion index_space index_root N i e ≡ o
          → InsertMemory (insert_end (cells_removed i e.cell) o) m e m'
          → reading fanout m' ≡ some (outcome_index index_space i o)
      ends (refused k) q g = ap (reading fanout) g ∙ h.reads
      ends (accepted_as j) q g = g ∙ rw (h.reads, parts N m i h, q)

      go : (a b : Bool) → InsertMemory
          (by2 a b (insert_end (cells_removed i e.cell)
          (insertion index_space index_root N i e)) (Err R.Invalid) (Err R.WorkLength)) m e m'
          → reading fanout m' ≡ some (cond (eqb (by2 a b 0 3 2) 0) (outcome_index index_space i (insertion index_space index_root N i e)) i)
      go false b g = ap (reading fanout) g ∙ h.reads
      go true false g = ap (reading fanout) g ∙ h.reads
      go true true g = ends (insertion index_space index_root N i e) refl g

  -- after a removal
  pub remove_reads : (len : ℕ) (c : Cell) (m' : List ℕ) → RemoveMemory (remove_answer m c) m c m' → reading fanout m' ≡ some (index_after N i (remove_call c) len)
  unfolding index_after early after remove_end removed_index
  remove_reads len c m' g = go (on_grid c) (subst (λ r. RemoveMemory r m c m') (remove_value N m i h c) g)
    where
      ends : (o : Outcome index_space) → removal index_space i c ≡ o → RemoveMemory (remove_end o) m c m'
          → reading fanout m' ≡ some (outcome_index index_space i o)
      ends (refused k) q g = ap (reading fanout) g ∙ h.reads
      ends (accepted_as j) q g = g ∙ rw (h.reads, q)

      go : (a : Bool) → RemoveMemory (cond a (remove_end (removal index_space i c)) (Err R.Invalid)) m c m'
          → reading fanout m' ≡ some (cond (eqb (cond a 0 3) 0) (outcome_index index_space i (removal index_space i c)) i)
      go false g = ap (reading fanout) g ∙ h.reads
      go true g = ends (removal index_space i c) refl g

  -- after a clear
  pub clear_length : length (cleared m) ≡ length m
  unfolding cleared
  clear_length = rw (right N m i h, length-replicate)

  pub clear_reads : (len : ℕ) → reading fanout (cleared m) ≡ some (index_after N i clear_call len)
  unfolding cleared index_after early after
  clear_reads len = rw (right N m i h) (zeros_read fanout (replicate (length m) 0) (is_index_length_lem _ N (length-replicate _ 0 ∙ h.length_is) h.some_parts h.few_parts) (zeros_zero (length m)))

  -- the result list of a window query, by the number returned
  pub window_at_exit : (w : Rect) (l : List ℕ) → window_list m w l ≡ lent_after i (window_call w) (window_reply (window_answer m w (length l))).number l
  unfolding window_list window_written window_read lent_after
  window_at_exit w l = rw (right N m i h, h.reads, window_value N m i h w (length l)) (go (valid w) (leb (list_width * length (matches_in w i)) (length l)))
    where
      go : (a b : Bool)
          → cond a (cond b (flat_map listed_numbers (matches_in w i) ++ drop (list_width * length (matches_in w i)) l) l) l
          ≡ cond (eqb (window_reply (cond a (cond b (Ok (record { matches = length (matches_in w i); visits = window_visits index_space index_window w i })) (Err (R.ShortList (length (matches_in w i))))) (Err R.Invalid))).number 0)
          (flat_map listed_numbers (matches_in w i) ++ drop (list_width * length (matches_in w i)) l) l
      go false b = refl
      go true true = refl
      go true false = refl
