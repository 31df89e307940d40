-- One line of the program `bench` answered: its command is carried out by the call of that name, and what the call
-- answered is printed.
-- docs/RULES.md 9.4, 9.6
use Rattle.std.specs.Prelude.{ℕ, ◌+◌, ◌*◌, ◌≤◌, List, ◌≡◌, length, Option, Some, None, Result}
use Rattle.geometry.specs.declared.rect.Cell.{Cell}
use Rattle.geometry.specs.declared.rect.Rect.{Rect}
use Rattle.geometry.specs.Cells.{cell_of, rect_of}
use Rattle.plane.specs.Lines.{entry_of}
use Rattle.answers.specs.declared.answer.Inserted.{Inserted}
use Rattle.answers.specs.declared.answer.Refusal.{Refusal}
use Rattle.answers.specs.declared.answer.WindowFound.{WindowFound}
use Rattle.answers.specs.Answers.{point_answer, clear_answer, cleared}
use Rattle.answers.specs.Changes.{InsertCall, RemoveCall, WindowCall}
use Rattle.commands.specs.declared.parsing.Command.{Command}
use Rattle.commands.specs.declared.parsing.Command.TheVariants.{Insert, Remove, Point, Window, Clear}
use Rattle.commands.specs.Commands.{command_of}
use Rattle.commands.specs.declared.output.Output.{Output}
use Rattle.commands.specs.Output.{Appended}
use Rattle.commands.specs.AnswerText.{insert_text, remove_text, clear_text, point_text, window_text, other_text}

-- the lists that a session works on: the index, the work area of insertions, the result list of window queries
pub record Lent : Type 0 where
  pub index : List ℕ
  pub work : List ℕ
  pub list : List ℕ

abbrev pub lent : List ℕ → List ℕ → List ℕ → Lent
lent m w l = record { index = m; work = w; list = l }

-- An insertion was called, and its answer printed.
pub record Inserts (c : Cell) (tag : ℕ) (a b : Lent) (text : List ℕ) : Type 0 where
  pub answer : Result Inserted Refusal
  pub call : InsertCall a.index a.work (entry_of c tag) b.index b.work answer
  pub list_kept : b.list ≡ a.list
  pub text_is : text ≡ insert_text answer

-- A removal was called, and its answer printed.
pub record Removes (c : Cell) (a b : Lent) (text : List ℕ) : Type 0 where
  pub answer : Result ℕ Refusal
  pub call : RemoveCall a.index c b.index answer
  pub work_kept : b.work ≡ a.work
  pub list_kept : b.list ≡ a.list
  pub text_is : text ≡ remove_text answer

-- The index was cleared, and the answer printed.
pub record Clears (a b : Lent) (text : List ℕ) : Type 0 where
  pub index_is : b.index ≡ cleared a.index
  pub work_kept : b.work ≡ a.work
  pub list_kept : b.list ≡ a.list
  pub text_is : text ≡ clear_text (clear_answer a.index)

-- A point query was called, and its answer printed.
pub record Asks (c : Cell) (a b : Lent) (text : List ℕ) : Type 0 where
  pub kept : b ≡ a
  pub text_is : text ≡ point_text (point_answer a.index c)

-- A window query was called, and its answer printed, with the entries that it wrote to the list.
pub record Lists (w : Rect) (a b : Lent) (text : List ℕ) : Type 0 where
  pub answer : Result WindowFound Refusal
  pub call : WindowCall a.index w a.list b.list answer
  pub index_kept : b.index ≡ a.index
  pub work_kept : b.work ≡ a.work
  pub text_is : text ≡ window_text answer b.list

-- A line that is no command changes nothing.
pub record Passes (a b : Lent) (text : List ℕ) : Type 0 where
  pub kept : b ≡ a
  pub text_is : text ≡ other_text

-- what it means that a command was carried out on the lists a, left b and printed a text
unfoldable pub CarriedOut : Option Command → Lent → Lent → List ℕ → Type 0
CarriedOut (Some (Insert x y tag)) a b text = Inserts (cell_of x y) tag a b text
CarriedOut (Some (Remove x y)) a b text = Removes (cell_of x y) a b text
CarriedOut (Some (Point x y)) a b text = Asks (cell_of x y) a b text
CarriedOut (Some (Window llx lly urx ury)) a b text = Lists (rect_of llx lly urx ury) a b text
CarriedOut (Some Clear) a b text = Clears a b text
CarriedOut None a b text = Passes a b text

-- the bytes of the longest answer, with a result list of that length
abbrev pub longest : List ℕ → ℕ
longest list = 64 + 12 * length list

-- The command of a line was carried out, and its text put into the output.
pub record Responded (line : List ℕ) (a b : Lent) (out out' : Output) : Type 0 where
  pub text : List ℕ
  pub done : CarriedOut (command_of line) a b text
  pub few : length text ≤ longest a.list
  pub put : Appended out text out'
