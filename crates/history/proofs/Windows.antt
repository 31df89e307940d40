-- The answer of a window query on a memory that holds an index, and what it leaves in its result list.
use Prim.Native.Nat.{ℕ, ◌*◌, ◌≤◌}
use mathlib.Core.Bool.{Bool, true, false, cond, false≢true}
use mathlib.Core.List.{List, ◌++◌, flat_map}
use mathlib.Core.Option.{some}
use mathlib.Core.Path.{◌≡◌, refl, sym, ap, ◌∙◌}
use native.Mathlib.Omega.{arith}
use lib.Dec.{leb}
use lib.ListN.{length, drop, get_or}
use borrow.Author.Tests.{le-leb}
use Rattle.geometry.specs.declared.rect.Rect.{Rect}
use Rattle.geometry.specs.Cells.{valid}
use Rattle.tree.specs.Tree.{entries}
use Rattle.tree.specs.Query.{matching, window_visits}
use Rattle.tree.proofs.Counts.{length_keep}
use Rattle.plane.specs.Fanout.{fanout, index_space, index_window, PlaneIndex}
use Rattle.memory.specs.Reading.{reading}
use Rattle.answers.specs.Listing.{list_width, listed_numbers}
use Rattle.answers.specs.Answers.{matches_in, window_read, window_answer, window_written, window_list}
use Rattle.answers.specs.declared.reply.Reply.{Reply}
use Rattle.answers.specs.Numbers.{window_reply}
use Rattle.std.specs.Prelude.{Ok, Err}
use Rattle.answers.specs.declared.answer.Refusal.TheVariants as R
use Rattle.history.specs.Calls.{Performed, accepted}
use Rattle.history.specs.Contract.{WindowByContract}
use Rattle.history.specs.SameAnswers.{Wrote}
use Rattle.history.proofs.Visits.{reads_right}

module _ (m : List ℕ) (w : Rect) (i : PlaneIndex) (e : reading fanout m ≡ some i) where
  unfoldable pub matched : ℕ
  matched = length (matches_in w i)

  -- what it tells, by the tests of the window and of the result list
  unfoldable pub reply_by : Bool → Bool → Reply
  reply_by a b =
      let v = window_visits index_space index_window w i in
      window_reply (cond a (cond b (Ok (record { matches = matched; visits = v })) (Err (R.ShortList matched))) (Err R.Invalid))

  tells : (len : ℕ) → window_reply (window_answer m w len) ≡ reply_by (valid w) (leb (list_width * matched) len)
  unfolding window_answer window_read matched reply_by
  tells len = rw (reads_right m i e, e)

  -- its result list with the matches at the start
  written : List ℕ → List ℕ
  written l = flat_map listed_numbers (matches_in w i) ++ drop (list_width * length (matches_in w i)) l

  leaves : (l : List ℕ) → window_list m w l ≡ cond (valid w) (cond (leb (list_width * matched) (length l)) (written l) l) l
  unfolding window_list window_written matched written
  leaves l = rw (reads_right m i e, e)

  -- it is accepted if the window is valid and the list has room for every entry held
  pub window_accepts : (len : ℕ) → valid w ≡ true → list_width * length (entries index_space i) ≤ len
      → accepted (window_reply (window_answer m w len)) ≡ true
  unfolding reply_by matched
  window_accepts len g h =
      let k = length_keep (matching index_space index_window w) (entries index_space i) in
      let room = le-leb (list_width * matched) len (omega arith) in
      ap accepted (tells len) ∙ rw (g, room)

  -- accepted, it found and wrote the matches of the index
  accepted_writes : (a b : Bool) (l : List ℕ) → accepted (reply_by a b) ≡ true
      → (get_or (reply_by a b).values 0 0 ≡ length (matches_in w i)) × (cond a (cond b (written l) l) l ≡ written l)
  unfolding reply_by matched
  accepted_writes true true l f = (refl, refl)
  accepted_writes true false l f = absurd (false≢true f)
  accepted_writes false b l f = absurd (false≢true f)

-- A call of it that was handed that memory.
module _ (m : List ℕ) (w : Rect) (i : PlaneIndex) (e : reading fanout m ≡ some i)
    (d : Performed) (p : WindowByContract w d) (h : d.before ≡ m) where
  pub fits : Bool
  fits = leb (list_width * matched m w i e) (length d.lent)

  pub window_reply_lem : d.reply ≡ reply_by m w i e (valid w) fits
  unfolding fits
  window_reply_lem =
      p.reply ∙ ap window_reply p.contract.answer
      ∙ ap (λ x. window_reply (window_answer x w (length d.lent))) h ∙ tells m w i e (length d.lent)

  pub window_wrote : accepted d.reply ≡ true → Wrote d (matches_in w i)
  unfolding fits written
  window_wrote f =
      let r = accepted_writes m w i e (valid w) fits d.lent (ap accepted (sym window_reply_lem) ∙ f) in
      record {
        matches = ap (λ x. get_or x.values 0 0) window_reply_lem ∙ r.0;
        list = p.contract.list ∙ ap (λ x. window_list x w d.lent) h ∙ leaves m w i e d.lent ∙ r.1;
      }
