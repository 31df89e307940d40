-- Document 01, the line program: what each answer prints.
-- docs/RULES.md 9.6, 9.7
use Rattle.std.specs.Prelude.{ℕ, zero, suc, ◌+◌, ◌*◌, cond, List, [], ◌∷◌, ◌++◌, eqb, get_or, Result, Ok, Err}
use Rattle.answers.specs.declared.answer.Inserted.{Inserted}
use Rattle.answers.specs.declared.answer.PointFound.{PointFound}
use Rattle.answers.specs.declared.answer.WindowFound.{WindowFound}
use Rattle.answers.specs.declared.answer.Refusal.{Refusal}
use Rattle.answers.specs.declared.reply.Reply.{Reply}
use Rattle.answers.specs.Listing.{list_width}
use Rattle.answers.specs.Numbers.{insert_reply, remove_reply, clear_reply, point_reply, window_reply}
use Rattle.commands.specs.Bytes.{line_feed, question_mark, letter_c, letter_e, letter_i, letter_p, letter_r, letter_s}
use Rattle.commands.specs.Text.{line_text, refusal_text}

-- 'I, R and C print 0 and entries held.' A.6, of the total removed by siblings: 'The line program prints it after the
-- entries held in an accepted `I` line'.
abbrev pub held_text : ℕ → Reply → List ℕ
held_text letter t = cond (eqb t.number 0) (line_text letter (0 ∷ t.values)) (refusal_text letter t.number)

-- the values that a query tells, or its refusal
abbrev pub found_text : ℕ → Reply → List ℕ
found_text letter t = cond (eqb t.number 0) (line_text letter t.values) (refusal_text letter t.number)

unfoldable pub insert_text : Result Inserted Refusal → List ℕ
insert_text r = held_text letter_i (insert_reply r)

unfoldable pub remove_text : Result ℕ Refusal → List ℕ
remove_text r = held_text letter_r (remove_reply r)

unfoldable pub clear_text : Result ℕ Refusal → List ℕ
clear_text r = held_text letter_c (clear_reply r)

-- 'P prints 1 or 0, visits, then the tag if held.'
unfoldable pub point_text : Result PointFound Refusal → List ℕ
point_text r = found_text letter_p (point_reply r)

-- 'an E line per entry: x, y, tag', for the first n entries of a list, three numbers an entry
unfoldable pub entries_text : List ℕ → ℕ → List ℕ
entries_text list zero = []
entries_text list (suc n) =
    entries_text list n ++ line_text letter_e
    (get_or list (list_width * n) 0 ∷ get_or list (list_width * n + 1) 0 ∷ get_or list (list_width * n + 2) 0 ∷ [])

-- how many entries a window query wrote to its list
abbrev pub listed : Result WindowFound Refusal → ℕ
listed (Ok found) = found.matches
listed (Err r) = 0

-- 'S prints matches and visits, then an E line per entry'
abbrev pub window_text : Result WindowFound Refusal → List ℕ → List ℕ
window_text r list = found_text letter_s (window_reply r) ++ entries_text list (listed r)

-- 'Other lines, or lines over 80 bytes, print `?`.'
unfoldable pub other_text : List ℕ
other_text = question_mark ∷ line_feed ∷ []
