-- Demand 3 for the lines of a session: each command is a call that kept its function's contract, handed the memory that the last one left.
use Prim.Native.Nat.{ℕ, ◌≤◌}
use mathlib.Core.Path.{◌≡◌, refl, ap, subst}
use mathlib.Core.List.{List, [], ◌∷◌, ◌++◌}
use Rattle.geometry.specs.Cells.{cell_of, rect_of}
use Rattle.tree.specs.Lists.{All}
use Rattle.tree.specs.Calls.{insert_call, remove_call, clear_call, point_call, window_call}
use Rattle.plane.specs.Lines.{entry_of}
use Rattle.answers.specs.declared.answer.WindowFound.{WindowFound}
use Rattle.answers.specs.declared.answer.Refusal.{Refusal}
use Rattle.answers.specs.declared.answer.Refusal.TheVariants as R
use Rattle.answers.specs.Answers.{clear_answer, point_answer}
use Rattle.answers.specs.Numbers.{insert_reply, remove_reply, clear_reply, point_reply, window_reply}
use Rattle.history.specs.Calls.{Performed, Linked, fresh_memory}
use Rattle.history.specs.Contract.{ByContract}
use Rattle.history.proofs.History.{kept_history}
use Rattle.std.specs.Prelude.{Option, Some, None, Result, Ok, Err}
use Rattle.commands.specs.declared.parsing.Command.{Command}
use Rattle.commands.specs.declared.parsing.Command.TheVariants.{Insert, Remove, Point, Window, Clear}
use Rattle.commands.specs.AnswerText.{insert_text, remove_text, clear_text, point_text, listed}
use Rattle.line_program.specs.Response.{Lent, CarriedOut}
use Rattle.line_program.specs.Stream.{Ran, none, first, Session}
use Rattle.line_program.specs.LinesClaim.{calls_of, listed_of, text_by, Printed, nothing, other, called, LinesClaim}
use Rattle.line_program.proofs.RunLaws.{session_ran}

-- the calls that commands made, from the lists a to the lists b
record Calling (cs : List (Option Command)) (a b : Lent) (text : List ℕ) : Type 0 where
  calls : List Performed
  kept : All ByContract calls
  linked : Linked a.index calls b.index
  printed : Printed cs calls text

-- the entries listed, by the number and values replied
listed_reply : (r : Result WindowFound Refusal) → listed r ≡ listed_of (window_reply r)
unfolding listed_of
listed_reply (Ok found) = refl
listed_reply (Err R.WrongLength) = refl
listed_reply (Err R.WorkLength) = refl
listed_reply (Err R.Invalid) = refl
listed_reply (Err R.NoSoundTree) = refl
listed_reply (Err R.Held) = refl
listed_reply (Err R.NotHeld) = refl
listed_reply (Err R.OverLimit) = refl
listed_reply (Err R.TooManyNodes) = refl
listed_reply (Err (R.ShortList n)) = refl
listed_reply (Err R.NothingHeld) = refl

-- one more call at the front
module _ {c : Option Command} {cs : List (Option Command)} {a b e : Lent} {text : List ℕ} (v : Calling cs b e text) where
  one_more_lem : (d : Performed) → calls_of c ≡ d.call ∷ [] → ByContract d → d.before ≡ a.index → d.after ≡ b.index
      → Calling (c ∷ cs) a e (text_by d.call d ++ text)
  unfolding All Linked
  one_more_lem d h k f g = record {
    calls = d ∷ v.calls;
    kept = (k, v.kept);
    linked = (f, rw (← g) at v.linked);
    printed = called d h v.printed;
  }

carried : (c : Option Command) {cs : List (Option Command)} {a b e : Lent} {text : List ℕ} (t : List ℕ) → CarriedOut c a b t → Calling cs b e text → Calling (c ∷ cs) a e (t ++ text)
unfolding CarriedOut calls_of insert_text remove_text clear_text point_text
carried (Some (Insert x y tag)) {a = a} {b} t d v =
    rw d.text_is
    (one_more_lem v
    (record { call = insert_call (entry_of (cell_of x y) tag); before = a.index; after = b.index; lent = a.work; at_exit = b.work; reply = insert_reply d.answer })
    refl (record { result = d.answer; reply = refl; contract = d.call }) refl refl)
carried (Some (Remove x y)) {a = a} {b} t d v =
    rw d.text_is
    (one_more_lem v
    (record { call = remove_call (cell_of x y); before = a.index; after = b.index; lent = []; at_exit = []; reply = remove_reply d.answer })
    refl (record { result = d.answer; reply = refl; contract = d.call; list = refl }) refl refl)
carried (Some (Point x y)) {a = a} {b} t d v =
    rw d.text_is
    (one_more_lem v
    (record { call = point_call (cell_of x y); before = a.index; after = b.index; lent = []; at_exit = []; reply = point_reply (point_answer a.index (cell_of x y)) })
    refl (record { reply = refl; memory = ap (λ l. l.index) d.kept; list = refl }) refl refl)
carried (Some (Window llx lly urx ury)) {a = a} {b} t d v =
    rw (d.text_is, listed_reply d.answer)
    (one_more_lem v
    (record { call = window_call (rect_of llx lly urx ury); before = a.index; after = b.index; lent = a.list; at_exit = b.list; reply = window_reply d.answer })
    refl (record { result = d.answer; reply = refl; contract = d.call; memory = d.index_kept }) refl refl)
carried (Some Clear) {a = a} {b} t d v =
    rw d.text_is
    (one_more_lem v
    (record { call = clear_call; before = a.index; after = b.index; lent = []; at_exit = []; reply = clear_reply (clear_answer a.index) })
    refl (record { reply = refl; memory = d.index_is; list = refl }) refl refl)
carried None {cs = cs} {a = a} {b} {e} {text} t d v =
    rw d.text_is (record {
      calls = v.calls;
      kept = v.kept;
      linked = rw d.kept at v.linked;
      printed = other v.printed;
    })

calling : {cs : List (Option Command)} {a b : Lent} {text : List ℕ} → Ran cs a b text → Calling cs a b text
unfolding All Linked
calling none = record { calls = []; kept = tt; linked = refl; printed = nothing }
calling (first {c = c} b t d r) = carried c t d (calling r)

-- Whatever the lines are: from a fresh memory demand 3's claim holds of the calls they made, and what was printed is what these answered.
pub lines_history : (N : ℕ) → 1 ≤ N → N ≤ 256 → {cs : List (Option Command)} {a b : Lent} {text : List ℕ} → Ran cs a b text → a.index ≡ fresh_memory N → LinesClaim N cs b text
lines_history N p q {cs} {a} {b} {text} r e =
    let v = calling r in
    record { calls = v.calls; printed = v.printed; claim = kept_history N p q v.calls b.index v.kept (subst (λ (m : List ℕ). Linked m v.calls b.index) e v.linked) }

-- The same over a whole session: calls of answer_lines and answer_line one after another, each handed what the last one left. Only the first
-- is handed a fresh memory.
pub session_history : (N : ℕ) → 1 ≤ N → N ≤ 256 → {cs : List (Option Command)} {a b : Lent} {text : List ℕ} → Session cs a b text → a.index ≡ fresh_memory N → LinesClaim N cs b text
session_history N p q s e = lines_history N p q (session_ran s) e
