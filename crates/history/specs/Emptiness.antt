-- Request A.11: what an emptiness query tells, by the entries held and beside a window query.
-- docs/RULES.md 5.20, 6.16
use Rattle.std.specs.Prelude.{ℕ, ◌≤◌, Bool, true, cond, List, [], ◌∷◌, ◌≡◌, eqb, length, get_or}
use Rattle.std.proofs.Math.Option.{some}
use Rattle.geometry.specs.declared.rect.Rect.{Rect}
use Rattle.tree.specs.Lists.{count_of}
use Rattle.tree.specs.Query.{matching, window_visits}
use Rattle.tree.specs.Emptiness.{empty_visits}
use Rattle.tree.specs.Calls.{insert_call, remove_call, clear_call, point_call, window_call, nearest_call, empty_call}
use Rattle.plane.specs.Lines.{CellEntry}
use Rattle.plane.specs.Fanout.{fanout, index_space, index_window, PlaneIndex}
use Rattle.memory.specs.Reading.{reading}
use Rattle.answers.specs.Answers.{matches_in}
use Rattle.answers.specs.declared.reply.Reply.{Reply}
use Rattle.history.specs.Calls.{IndexCall, Performed, accepted, with_room}

-- What an emptiness query of w replied on a memory m that holds an index, where r are the entries held: 'a yes or no
-- for a window', 1 or 0, and 'The visits reported'.
pub record EmptyExact (m : List ℕ) (w : Rect) (r : List CellEntry) (t : Reply) : Type 0 where
  pub empty : Bool
  pub visits : ℕ
  pub reply : t.values ≡ cond empty 1 0 ∷ visits ∷ []
  -- the yes: no entry of r is in the window
  pub none_inside : empty ≡ eqb (count_of (matching index_space index_window w) r) 0
  pub index : PlaneIndex
  pub reads : reading fanout m ≡ some index
  -- 'The yes must hold exactly when the window query reports zero matches.'
  pub no_match : empty ≡ eqb (length (matches_in w index)) 0
  -- 'the nodes sharing a cell with the window that this walk enters up to its stop'
  pub exact : visits ≡ empty_visits index_space index_window w index
  -- they 'never exceed those of the window query'
  pub few : visits ≤ window_visits index_space index_window w index

-- so for a call with the record after it, if it is an accepted emptiness query: it leaves the record alone
abbrev pub EmptyBy : IndexCall → List ℕ → Reply → List CellEntry → Type 0
EmptyBy (insert_call e) m t r = Unit {0}
EmptyBy (remove_call c) m t r = Unit {0}
EmptyBy clear_call m t r = Unit {0}
EmptyBy (point_call c) m t r = Unit {0}
EmptyBy (window_call w) m t r = Unit {0}
EmptyBy (nearest_call c) m t r = Unit {0}
EmptyBy (empty_call w) m t r = accepted t ≡ true → EmptyExact m w r t

abbrev pub TellsEmpty : Performed → List CellEntry → Type 0
TellsEmpty d r = EmptyBy d.call d.before d.reply r

-- What an emptiness query replied, t, and what a window query of the same memory and window replied, u, whatever the
-- memory, the window and the result list.
pub record EmptyAsWindow (t u : Reply) : Type 0 where
  -- it refuses as the window query does, but for 9, 'list shorter than 3 × matches'
  pub number : t.number ≡ with_room u.number
  -- 'The yes must hold exactly when the window query reports zero matches', accepted or refused by 9
  pub yes : accepted t ≡ true → get_or t.values 0 0 ≡ cond (eqb (get_or u.values 0 0) 0) 1 0
  -- the visits 'never exceed those of the window query'
  pub few : accepted u ≡ true → get_or t.values 1 0 ≤ get_or u.values 1 0
