-- One call, by its kind: what its function answered is what is known of the call.
use Prim.Native.Nat.{ℕ, ◌-◌}
use mathlib.Core.List.{List}
use mathlib.Core.Path.{◌≡◌, refl, ap, ◌∙◌}
use borrow.Rule.Slice.PartMut.{same_len_mid}
use lib.ListN.{length}
use Rattle.answers.specs.Answers.{clear_answer, cleared, point_answer, nearest_answer, empty_answer}
use Rattle.answers.specs.Changes.{InsertCall, RemoveCall, WindowCall}
use Rattle.answers.specs.Numbers.{with_seven, insert_reply, remove_reply, clear_reply, point_reply, window_reply, nearest_reply, empty_reply}
use Rattle.answers.specs.declared.answer.Inserted.{Inserted}
use Rattle.answers.specs.declared.answer.PointFound.{PointFound}
use Rattle.answers.specs.declared.answer.WindowFound.{WindowFound}
use Rattle.answers.specs.declared.answer.NearestFound.{NearestFound}
use Rattle.answers.specs.declared.answer.EmptyFound.{EmptyFound}
use Rattle.answers.specs.declared.reply.Reply.{Reply}
use Rattle.geometry.specs.declared.rect.Cell.{Cell}
use Rattle.geometry.specs.declared.rect.Rect.{Rect}
use Rattle.layout.specs.declared.entry.Entry.{Entry}
use Rattle.layout.specs.Entries.{tree_entry}
use Rattle.std.specs.Prelude.{Result}
use Rattle.answers.specs.declared.answer.Refusal.{Refusal}
use Rattle.replay.specs.declared.coded.Call.{Call}
use Rattle.replay.specs.declared.coded.Call.TheVariants as C
use Rattle.replay.specs.Coded.{coded_at, from_at, to_at, call_of, index_call, part_for, part_back}
use Rattle.replay.specs.Replies.{put_reply, Replied}
use Rattle.replay.specs.Replay.{MadeOne}
use Rattle.replay.proofs.ReplyReturns.{length_reply}

module _ (k : Call) (m l m' l' : List ℕ) (r : Reply) where
  pub replied_insert : (e : Entry) → k ≡ C.Insert e → (a : Result Inserted Refusal) → InsertCall m l (tree_entry e) m' l' a → r ≡ with_seven (insert_reply a) → Replied (index_call k) m l m' l' r
  replied_insert e q a g f = rw q record { reply = insert_reply a; reply_is = f; kept = record { result = a; reply = refl; contract = g } }

  pub replied_remove : (c : Cell) → k ≡ C.Remove c → (a : Result ℕ Refusal) → RemoveCall m c m' a → l' ≡ l → r ≡ with_seven (remove_reply a) → Replied (index_call k) m l m' l' r
  replied_remove c q a g s f = rw q record { reply = remove_reply a; reply_is = f; kept = record { result = a; reply = refl; contract = g; list = s } }

  pub replied_clear : k ≡ C.Clear → (a : Result ℕ Refusal) → a ≡ clear_answer m → m' ≡ cleared m → l' ≡ l → r ≡ with_seven (clear_reply a) → Replied (index_call k) m l m' l' r
  replied_clear q a g h s f = rw q record { reply = clear_reply a; reply_is = f; kept = record { reply = ap clear_reply g; memory = h; list = s } }

  pub replied_point : (c : Cell) → k ≡ C.Point c → (a : Result PointFound Refusal) → a ≡ point_answer m c → m' ≡ m → l' ≡ l → r ≡ with_seven (point_reply a) → Replied (index_call k) m l m' l' r
  replied_point c q a g h s f = rw q record { reply = point_reply a; reply_is = f; kept = record { reply = ap point_reply g; memory = h; list = s } }

  pub replied_window : (w : Rect) → k ≡ C.Window w → (a : Result WindowFound Refusal) → WindowCall m w l l' a → m' ≡ m → r ≡ with_seven (window_reply a) → Replied (index_call k) m l m' l' r
  replied_window w q a g h f = rw q record { reply = window_reply a; reply_is = f; kept = record { result = a; reply = refl; contract = g; memory = h } }

  pub replied_nearest : (c : Cell) → k ≡ C.Nearest c → (a : Result NearestFound Refusal) → a ≡ nearest_answer m c → m' ≡ m → l' ≡ l → r ≡ with_seven (nearest_reply a) → Replied (index_call k) m l m' l' r
  replied_nearest c q a g h s f = rw q record { reply = nearest_reply a; reply_is = f; kept = record { reply = ap nearest_reply g; memory = h; list = s } }

  pub replied_empty : (w : Rect) → k ≡ C.IsEmpty w → (a : Result EmptyFound Refusal) → a ≡ empty_answer m w → m' ≡ m → l' ≡ l → r ≡ with_seven (empty_reply a) → Replied (index_call k) m l m' l' r
  replied_empty w q a g h s f = rw q record { reply = empty_reply a; reply_is = f; kept = record { reply = ap empty_reply g; memory = h; list = s } }

-- A call with its part of the lent list, and its answer stored.
pub one_made : (l : List ℕ) (i : ℕ) (m p a m' at_exit a' : List ℕ) (k : Call) (r : Reply) → index_call k ≡ call_of (coded_at l i) → Replied (index_call k) m (part_for l i p) m' at_exit r → length m' ≡ length m
    → length at_exit ≡ length (part_for l i p) → a' ≡ put_reply a i r → MadeOne l i m p a m' (part_back l i p at_exit) a'
unfolding part_for part_back
one_made l i m p a m' at_exit a' k r e v x y f = record {
  reply = v.reply;
  at_exit = at_exit;
  kept = rw (← e) v.kept;
  list = refl;
  answers = f ∙ ap (put_reply a i) v.reply_is;
  memory_length = x;
  list_length = same_len_mid (from_at l i) (to_at l i - from_at l i) p at_exit y;
  answers_length = ap length f ∙ length_reply a i r;
}
