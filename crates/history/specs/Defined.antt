-- What document 01 defines of a call on a memory of N parts that holds an index: the answer, the index after, and what
-- is left in the lists. Cause 1 and cause 4 don't apply there.
-- docs/RULES.md 6.6
use Rattle.std.specs.Prelude.{ℕ, ◌+◌, ◌*◌, false, ◌||◌, cond, ◌≡◌, leb, eqb, length, replicate, drop}
use mathlib.Core.List.{List, [], ◌∷◌, ◌++◌, flat_map}
use Rattle.std.proofs.Math.Option.{none, some}
use Rattle.geometry.specs.Cells.{on_grid, valid}
use Rattle.tree.specs.Calls.{insert_call, remove_call, clear_call, point_call, window_call, nearest_call, empty_call, answer, after, Answer, refusal, inserted, reports, point_answer, window_answer, nearest_answer, empty_answer}
use Rattle.plane.specs.Fanout.{fanout, index_space, index_root, index_window, PlaneIndex}
use Rattle.memory.specs.Reading.{reading}
use Rattle.answers.specs.Listing.{list_width, listed_numbers}
use Rattle.answers.specs.Answers.{matches_in}
use Rattle.answers.specs.Numbers as numbers
use Rattle.answers.specs.declared.reply.Reply.{Reply}
use Rattle.answers.specs.Numbers.{accepts}
use Rattle.history.specs.Calls.{IndexCall, Performed, accepted, is_change}

-- The causes that are tested before the tree is looked at: 2, 'work area length differs from the index (insertion)';
-- 3, 'coordinate over 65535; window with ll ≥ ur in a dimension or ur over 65536'. 0 where none applies. len is the
-- length of the list lent besides the index.
unfoldable pub early : ℕ → IndexCall → ℕ → ℕ
early N (insert_call e) len = cond (eqb len (64 + 128 * N)) (cond (on_grid e.cell) 0 3) 2
early N (remove_call c) len = cond (on_grid c) 0 3
early N clear_call len = 0
early N (point_call c) len = cond (on_grid c) 0 3
early N (window_call w) len = cond (valid w) 0 3
early N (nearest_call c) len = cond (on_grid c) 0 3
early N (empty_call w) len = cond (valid w) 0 3

-- The number and values of the tree's answer: the entries held, behind them an insertion's total; 'held with tag, or
-- not held, and the visits'; 'matches and visits', or 9, 'list shorter than 3 × matches: number, matches'; 'the entry,
-- the squared distance and the number of nodes entered' (10, 'nothing is held', is the tree's own refusal); 'a yes or
-- no for a window', 1 or 0, and the visits.
unfoldable pub reply_of : ℕ → Answer index_space → Reply
reply_of len (refusal k) = numbers.refusal k
reply_of len (inserted n removed) = accepts (n ∷ removed ∷ [])
reply_of len (reports n) = accepts (n ∷ [])
reply_of len (point_answer none v) = accepts (0 ∷ v ∷ [])
reply_of len (point_answer (some e) v) = accepts (1 ∷ v ∷ e.tag ∷ [])
reply_of len (window_answer es v) = cond (leb (list_width * length es) len) (accepts (length es ∷ v ∷ []))
    (record { number = 9; values = length es ∷ [] })
reply_of len (nearest_answer e d v) = accepts (e.cell.x ∷ e.cell.y ∷ e.tag ∷ d ∷ v ∷ [])
reply_of len (empty_answer b v) = accepts (cond b 1 0 ∷ v ∷ [])

-- the tree's answer to a call on the index i, and the index after it
abbrev pub tree_answer : ℕ → PlaneIndex → IndexCall → Answer index_space
tree_answer N i k = answer index_space index_root N index_window i k

abbrev pub tree_after : ℕ → PlaneIndex → IndexCall → PlaneIndex
tree_after N i k = after index_space index_root N index_window i k

-- The answer of a call on the index i: 'Tests run in number order; the first that applies is given, and only where its
-- cause holds.'
unfoldable pub reply_on : ℕ → PlaneIndex → IndexCall → ℕ → Reply
reply_on N i k len = cond (eqb (early N k len) 0) (reply_of len (tree_answer N i k)) (numbers.refusal (early N k len))

-- The index after.
unfoldable pub index_after : ℕ → PlaneIndex → IndexCall → ℕ → PlaneIndex
index_after N i k len = cond (eqb (early N k len) 0) (tree_after N i k) i

-- A work area after an insertion that returned n: 'It is all zeros after acceptance and after refusals 7 and 8; other
-- refusals don't touch it.'
unfoldable pub work_at_exit : ℕ → List ℕ → List ℕ
work_at_exit n l = cond (eqb n 0 || eqb n 7 || eqb n 8) (replicate (length l) 0) l

-- The list lent besides the index, as a call that returned n leaves it. A window query that is accepted 'writes x, y,
-- tag for each matching entry in depth-first order, leaves the rest of the list'.
unfoldable pub lent_after : PlaneIndex → IndexCall → ℕ → List ℕ → List ℕ
lent_after i (insert_call e) n l = work_at_exit n l
lent_after i (remove_call c) n l = l
lent_after i clear_call n l = l
lent_after i (point_call c) n l = l
lent_after i (window_call w) n l = cond (eqb n 0)
    (flat_map listed_numbers (matches_in w i) ++ drop (list_width * length (matches_in w i)) l) l
lent_after i (nearest_call c) n l = l
lent_after i (empty_call w) n l = l

-- The call accepted, refused and answered as document 01 defines.
pub record AsDefined (N : ℕ) (d : Performed) : Type 0 where
  -- the index that the memory handed to it holds, in N parts
  pub index : PlaneIndex
  pub parts : length d.before ≡ 64 + 128 * N
  pub handed : reading fanout d.before ≡ some index
  pub answer : d.reply ≡ reply_on N index d.call (length d.lent)
  -- the tree read back is fixed
  pub leaves : reading fanout d.after ≡ some (index_after N index d.call (length d.lent))
  -- 'Left as it was': the index, by a refused call and by a query
  pub refused : accepted d.reply ≡ false → d.after ≡ d.before
  pub query : is_change d.call ≡ false → d.after ≡ d.before
  pub list : d.at_exit ≡ lent_after index d.call d.reply.number d.lent
