-- The returns of answering a line.
use Prim.Native.Nat.{ℕ, ◌+◌, ◌*◌, ◌≤◌}
use mathlib.Core.Path.{◌≡◌, refl, sym, ap}
use mathlib.Core.Bool.{Bool, true, false, cond}
use mathlib.Core.List.{List}
use mathlib.Core.Option.{Option, none, some}
use native.Mathlib.Omega.{arith}
use borrow.Author.Tests.{leb-true}
use lib.Dec.{leb}
use lib.ListN.{length}
use Rattle.geometry.specs.declared.rect.Rect.{Rect}
use Rattle.geometry.specs.Cells.{valid, cell_of, rect_of}
use Rattle.plane.specs.Lines.{entry_of}
use Rattle.plane.specs.Fanout.{fanout, PlaneIndex}
use Rattle.memory.specs.Layout.{is_index_length}
use Rattle.memory.specs.Reading.{reading}
use Rattle.answers.specs.Listing.{list_width}
use Rattle.answers.specs.declared.answer.Inserted.{Inserted}
use Rattle.answers.specs.declared.answer.PointFound.{PointFound}
use Rattle.answers.specs.declared.answer.WindowFound.{WindowFound}
use Rattle.answers.specs.declared.answer.Refusal.{Refusal}
use Rattle.answers.specs.declared.answer.Refusal.TheVariants as R
use Rattle.answers.specs.Answers.{point_answer, clear_answer, cleared, window_answer, window_read}
use Rattle.answers.specs.Changes.{InsertCall, RemoveCall, WindowCall}
use Rattle.commands.specs.declared.parsing.Command.{Command}
use Rattle.commands.specs.declared.parsing.Command.TheVariants.{Insert, Remove, Point, Window, Clear}
use Rattle.commands.specs.Commands.{command_of}
use Rattle.std.specs.Prelude as O
use Rattle.commands.specs.declared.output.Output.{Output}
use Rattle.commands.specs.Output.{Appended}
use Rattle.commands.specs.AnswerText.{insert_text, remove_text, clear_text, point_text, window_text, other_text, listed}
use Rattle.line_program.specs.Response.{lent, CarriedOut, longest, Responded}

-- a window query lists no more entries than its list has places for
listed_if : (b : Bool) (n v len : ℕ) → b ≡ leb (list_width * n) len → list_width * listed (cond b (O.Ok (record { matches = n; visits = v })) (O.Err (R.ShortList n))) ≤ len
listed_if true n v len e = leb-true (list_width * n) len (sym e)
listed_if false n v len e = omega arith

listed_read : (w : Rect) (len : ℕ) (o : Option PlaneIndex) → list_width * listed (window_read w len o) ≤ len
unfolding window_read
listed_read w len none = omega arith
listed_read w len (some i) = listed_if _ _ _ len refl

listed_test : (b : Bool) (r s : O.Result WindowFound Refusal) (len : ℕ) → list_width * listed r ≤ len → list_width * listed s ≤ len → list_width * listed (cond b r s) ≤ len
listed_test true r s len g h = g
listed_test false r s len g h = h

listed_fits : (m : List ℕ) (w : Rect) (len : ℕ) → list_width * listed (window_answer m w len) ≤ len
unfolding window_answer
listed_fits m w len =
    listed_test (is_index_length m) _ (O.Err R.WrongLength) len
    (listed_test (valid w) _ (O.Err R.Invalid) len (listed_read w len (reading fanout m)) (omega arith))
    (omega arith)

pub window_listed : (m : List ℕ) (w : Rect) (l l' : List ℕ) (r : O.Result WindowFound Refusal) → WindowCall m w l l' r → length l' ≡ length l → list_width * listed r ≤ length l'
window_listed m w l l' r v e = rw (v.answer, e) (listed_fits m w (length l))

module _ (line : List ℕ) (m w l m' w' l' : List ℕ) (out out' : Output) where
  ends : (k : O.Option Command) → k ≡ command_of line → (j : ℕ) (text : List ℕ) → j ≤ longest l → CarriedOut k (lent m w l) (lent m' w' l') text → length text ≤ j → Appended out text out'
      → Responded line (lent m w l) (lent m' w' l') out out'
  ends k e j text h d f v = record { text = text; done = rw e at d; few = omega arith; put = v }

  pub respond_insert : (k : Command) (x y tag : ℕ) (r : O.Result Inserted Refusal) → O.Some k ≡ command_of line → k ≡ Insert x y tag → InsertCall m w (entry_of (cell_of x y) tag) m' w' r → l' ≡ l
      → length (insert_text r) ≤ 36 → Appended out (insert_text r) out' → Responded line (lent m w l) (lent m' w' l') out out'
  unfolding CarriedOut
  respond_insert k x y tag r e f c q g v = ends (O.Some k) e 36 (insert_text r) (omega arith) (rw f (record { answer = r; call = c; list_kept = q; text_is = refl })) g v

  pub respond_remove : (k : Command) (x y : ℕ) (r : O.Result ℕ Refusal) → O.Some k ≡ command_of line → k ≡ Remove x y → RemoveCall m (cell_of x y) m' r → w' ≡ w → l' ≡ l
      → length (remove_text r) ≤ 24 → Appended out (remove_text r) out' → Responded line (lent m w l) (lent m' w' l') out out'
  unfolding CarriedOut
  respond_remove k x y r e f c p q g v = ends (O.Some k) e 24 (remove_text r) (omega arith) (rw f (record { answer = r; call = c; work_kept = p; list_kept = q; text_is = refl })) g v

  pub respond_point : (k : Command) (x y : ℕ) (r : O.Result PointFound Refusal) → O.Some k ≡ command_of line → k ≡ Point x y → r ≡ point_answer m (cell_of x y) → m' ≡ m → w' ≡ w → l' ≡ l
      → length (point_text r) ≤ 35 → Appended out (point_text r) out' → Responded line (lent m w l) (lent m' w' l') out out'
  unfolding CarriedOut
  respond_point k x y r e f c o p q g v = ends (O.Some k) e 35 (point_text r) (omega arith) (rw f (record { kept = cc; text_is = ap point_text c })) g v

  pub respond_window : (k : Command) (llx lly urx ury : ℕ) (r : O.Result WindowFound Refusal) → O.Some k ≡ command_of line → k ≡ Window llx lly urx ury → WindowCall m (rect_of llx lly urx ury) l l' r → m' ≡ m → w' ≡ w → length l' ≡ length l
      → length (window_text r l') ≤ 24 + 12 * length l' → Appended out (window_text r l') out' → Responded line (lent m w l) (lent m' w' l') out out'
  unfolding CarriedOut
  respond_window k llx lly urx ury r e f c o p n g v =
      ends (O.Some k) e (24 + 12 * length l') (window_text r l') (omega arith) (rw f (record { answer = r; call = c; index_kept = o; work_kept = p; text_is = refl })) g v

  pub respond_clear : (k : Command) (r : O.Result ℕ Refusal) → O.Some k ≡ command_of line → k ≡ Clear → r ≡ clear_answer m → m' ≡ cleared m → w' ≡ w → l' ≡ l
      → length (clear_text r) ≤ 24 → Appended out (clear_text r) out' → Responded line (lent m w l) (lent m' w' l') out out'
  unfolding CarriedOut
  respond_clear k r e f c o p q g v = ends (O.Some k) e 24 (clear_text r) (omega arith) (rw f (record { index_is = o; work_kept = p; list_kept = q; text_is = ap clear_text c })) g v

  pub respond_other : O.None ≡ command_of line → m' ≡ m → w' ≡ w → l' ≡ l
      → Appended out other_text out' → Responded line (lent m w l) (lent m' w' l') out out'
  unfolding CarriedOut other_text
  respond_other e o p q v = ends O.None e 2 other_text (omega arith) (record { kept = cc; text_is = refl }) (omega arith) v
