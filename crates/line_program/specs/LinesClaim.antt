-- Demand 3 for the lines of a session: the calls that the lines made are a list of which the claim holds, and what was
-- printed is what these calls answered.
-- docs/RULES.md 9.4, 9.7, 9.9
use Rattle.std.specs.Prelude.{ℕ, cond, List, [], ◌∷◌, ◌++◌, ◌≡◌, eqb, get_or, Option, Some, None}
use Rattle.geometry.specs.Cells.{cell_of, rect_of}
use Rattle.tree.specs.Calls.{insert_call, remove_call, clear_call, point_call, window_call, nearest_call, empty_call}
use Rattle.plane.specs.Lines.{entry_of}
use Rattle.answers.specs.declared.reply.Reply.{Reply}
use Rattle.history.specs.Calls.{IndexCall, Performed}
use Rattle.history.specs.Claim.{HistoryClaim}
use Rattle.commands.specs.declared.parsing.Command.{Command}
use Rattle.commands.specs.declared.parsing.Command.TheVariants.{Insert, Remove, Point, Window, Clear}
use Rattle.commands.specs.Bytes.{letter_c, letter_i, letter_p, letter_r, letter_s}
use Rattle.commands.specs.AnswerText.{held_text, found_text, entries_text, other_text}
use Rattle.line_program.specs.Response.{Lent}

-- the call of a command, 'Commands: `I x y tag`, `R x y`, `P x y`, `S llx lly urx ury`, `C`': another line makes none
unfoldable pub calls_of : Option Command → List IndexCall
calls_of (Some (Insert x y tag)) = insert_call (entry_of (cell_of x y) tag) ∷ []
calls_of (Some (Remove x y)) = remove_call (cell_of x y) ∷ []
calls_of (Some (Point x y)) = point_call (cell_of x y) ∷ []
calls_of (Some (Window llx lly urx ury)) = window_call (rect_of llx lly urx ury) ∷ []
calls_of (Some Clear) = clear_call ∷ []
calls_of None = []

-- how many entries have 'an E line per entry': the matches of a window query, if it was accepted
unfoldable pub listed_of : Reply → ℕ
listed_of t = cond (eqb t.number 0) (get_or t.values 0 0) 0

-- what is printed for a call of a kind, by what it answered and left in its list: 'I, R and C print 0 and entries
-- held. P prints 1 or 0, visits, then the tag if held. S prints matches and visits, then an E line per entry'. A.6, of
-- the total removed by siblings: 'The line program prints it after the entries held in an accepted `I` line'. No line
-- makes a nearest query or an emptiness query.
abbrev pub text_by : IndexCall → Performed → List ℕ
text_by (insert_call e) d = held_text letter_i d.reply
text_by (remove_call c) d = held_text letter_r d.reply
text_by clear_call d = held_text letter_c d.reply
text_by (point_call c) d = found_text letter_p d.reply
text_by (window_call w) d = found_text letter_s d.reply ++ entries_text d.at_exit (listed_of d.reply)
text_by (nearest_call c) d = []
text_by (empty_call w) d = []

-- Commands one after another, the calls they made and the text they printed. 'Other lines .. print `?`'.
pub data Printed : List (Option Command) → List Performed → List ℕ → Type 0 where
  nothing : Printed [] [] []
  other : {cs : List (Option Command)} {ds : List Performed} {text : List ℕ} → Printed cs ds text
      → Printed (None ∷ cs) ds (other_text ++ text)
  called : {c : Option Command} {cs : List (Option Command)} {ds : List Performed} {text : List ℕ} (d : Performed)
      → calls_of c ≡ d.call ∷ [] → Printed cs ds text
      → Printed (c ∷ cs) (d ∷ ds) (text_by d.call d ++ text)

-- The commands, from a fresh memory of N parts, left the lists b and printed the text.
pub record LinesClaim (N : ℕ) (cs : List (Option Command)) (b : Lent) (text : List ℕ) : Type 0 where
  pub calls : List Performed
  pub printed : Printed cs calls text
  pub claim : HistoryClaim N calls b.index
