-- Calls on lent memory, lists of them, and the record. Document 01: 'What demand 3 says of a list is one claim about
-- the whole list'.
-- docs/RULES.md 3.13, 6.1, 6.2, 6.4, 6.17, 9.1
use Rattle.std.specs.Prelude.{ℕ, ◌+◌, ◌*◌, Bool, true, false, cond, List, [], ◌∷◌, map, ◌≡◌, eqb, replicate}
use Rattle.tree.specs.Calls.{Call, insert_call, remove_call, clear_call, point_call, window_call, nearest_call, empty_call}
use Rattle.tree.specs.Record.{recorded, record_of}
use Rattle.plane.specs.Lines.{CellEntry}
use Rattle.plane.specs.Fanout.{index_space, index_window}
use Rattle.answers.specs.declared.reply.Reply.{Reply}

-- 'insertions, removals, clears and queries', each 'call's kind, its arguments other than lent lists': any coordinates
-- and windows, also those that are refused
abbrev pub IndexCall : Type 0
IndexCall = Call index_space index_window

-- A call that was made: what it was handed, and what came of it.
pub record Performed : Type 0 where
  pub call : IndexCall
  -- the index it was handed, and as it was left
  pub before : List ℕ
  pub after : List ℕ
  -- the list lent besides, and as it was left: the work area of an insertion or the result list of a window query, of
  -- any length and content; the other calls use none
  pub lent : List ℕ
  pub at_exit : List ℕ
  -- the number and the values returned
  pub reply : Reply

-- 'whether it was accepted'
abbrev pub accepted : Reply → Bool
accepted t = eqb t.number 0

-- the number that a window query returns where its list is long enough: 9, 'list shorter than 3 × matches', is the only
-- refusal that goes by the list
abbrev pub with_room : ℕ → ℕ
with_room n = cond (eqb n 9) 0 n

-- insertion, removal and clearing change the index; queries don't
abbrev pub is_change : IndexCall → Bool
is_change (insert_call e) = true
is_change (remove_call c) = true
is_change clear_call = true
is_change (point_call c) = false
is_change (window_call w) = false
is_change (nearest_call c) = false
is_change (empty_call w) = false

-- 'All zeros is the fresh, empty index', with N parts
abbrev pub fresh_memory : ℕ → List ℕ
fresh_memory N = replicate (64 + 128 * N) 0

-- 'each call handed the memory that the last one left': from the memory m to the memory m'
unfoldable pub Linked : List ℕ → List Performed → List ℕ → Type 0
Linked m [] m' = m' ≡ m
Linked m (d ∷ ds) m' = (d.before ≡ m) × Linked d.after ds m'

-- The record after one more call. It 'is fed each call's kind, its arguments other than lent lists, and whether it was
-- accepted; it never looks at the memory'.
abbrev pub fed : List CellEntry → IndexCall → Bool → List CellEntry
fed r k b = recorded r k b

-- The record after a list of calls, from the record r before it.
abbrev pub record_from : List CellEntry → List Performed → List CellEntry
record_from r ds = record_of r (map (λ d. d.call) ds) (map (λ d. accepted d.reply) ds)
