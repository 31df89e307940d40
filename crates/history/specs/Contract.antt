-- A call that was made, by the contract of its function: the answer is the one that crates/index/specs defines for the
-- memory handed, whatever that holds.
use Rattle.std.specs.Prelude.{ℕ, ◌≡◌, Result}
use Rattle.geometry.specs.declared.rect.Cell.{Cell}
use Rattle.geometry.specs.declared.rect.Rect.{Rect}
use Rattle.tree.specs.Calls.{insert_call, remove_call, clear_call, point_call, window_call, nearest_call, empty_call}
use Rattle.plane.specs.Lines.{CellEntry}
use Rattle.answers.specs.Answers.{clear_answer, cleared, point_answer, nearest_answer, empty_answer}
use Rattle.answers.specs.Changes.{InsertCall, RemoveCall, WindowCall}
use Rattle.answers.specs.Numbers.{insert_reply, remove_reply, clear_reply, point_reply, window_reply, nearest_reply, empty_reply}
use Rattle.answers.specs.declared.answer.Refusal.{Refusal}
use Rattle.answers.specs.declared.answer.Inserted.{Inserted}
use Rattle.answers.specs.declared.answer.WindowFound.{WindowFound}
use Rattle.history.specs.Calls.{IndexCall, Performed}

-- An insertion of e.
pub record InsertByContract (e : CellEntry) (d : Performed) : Type 0 where
  pub result : Result Inserted Refusal
  pub reply : d.reply ≡ insert_reply result
  pub contract : InsertCall d.before d.lent e d.after d.at_exit result

-- A removal of the entry of c.
pub record RemoveByContract (c : Cell) (d : Performed) : Type 0 where
  pub result : Result ℕ Refusal
  pub reply : d.reply ≡ remove_reply result
  pub contract : RemoveCall d.before c d.after result
  pub list : d.at_exit ≡ d.lent

-- A clear.
pub record ClearByContract (d : Performed) : Type 0 where
  pub reply : d.reply ≡ clear_reply (clear_answer d.before)
  pub memory : d.after ≡ cleared d.before
  pub list : d.at_exit ≡ d.lent

-- A point query of c. It is lent the index to read only.
pub record PointByContract (c : Cell) (d : Performed) : Type 0 where
  pub reply : d.reply ≡ point_reply (point_answer d.before c)
  pub memory : d.after ≡ d.before
  pub list : d.at_exit ≡ d.lent

-- A window query of w. It is lent the index to read only.
pub record WindowByContract (w : Rect) (d : Performed) : Type 0 where
  pub result : Result WindowFound Refusal
  pub reply : d.reply ≡ window_reply result
  pub contract : WindowCall d.before w d.lent d.at_exit result
  pub memory : d.after ≡ d.before

-- A nearest query of c. It is lent the index to read only.
pub record NearestByContract (c : Cell) (d : Performed) : Type 0 where
  pub reply : d.reply ≡ nearest_reply (nearest_answer d.before c)
  pub memory : d.after ≡ d.before
  pub list : d.at_exit ≡ d.lent

-- An emptiness query of w. It is lent the index to read only.
pub record EmptyByContract (w : Rect) (d : Performed) : Type 0 where
  pub reply : d.reply ≡ empty_reply (empty_answer d.before w)
  pub memory : d.after ≡ d.before
  pub list : d.at_exit ≡ d.lent

-- The call d, of this kind, kept the contract of its function.
abbrev pub ByContractOf : IndexCall → Performed → Type 0
ByContractOf (insert_call e) d = InsertByContract e d
ByContractOf (remove_call c) d = RemoveByContract c d
ByContractOf clear_call d = ClearByContract d
ByContractOf (point_call c) d = PointByContract c d
ByContractOf (window_call w) d = WindowByContract w d
ByContractOf (nearest_call c) d = NearestByContract c d
ByContractOf (empty_call w) d = EmptyByContract w d

abbrev pub ByContract : Performed → Type 0
ByContract d = ByContractOf d.call d
