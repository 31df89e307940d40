-- Request A.14, 'Two groups, same points': what two indexes answer that hold the same entries.
-- docs/RULES.md 6.17, 6.18
use Rattle.std.specs.Prelude.{ℕ, suc, ◌*◌, ◌≤◌, true, ◌≡◌, length, take, drop, get_or}
use mathlib.Core.List.{List, ◌++◌, map, flat_map, Permᴰ}
use Rattle.tree.specs.Lists.{All}
use Rattle.tree.specs.Calls.{insert_call, remove_call, clear_call, point_call, window_call, nearest_call, empty_call}
use Rattle.plane.specs.Lines.{CellEntry}
use Rattle.answers.specs.Listing.{list_width, listed_numbers}
use Rattle.answers.specs.declared.reply.Reply.{Reply}
use Rattle.history.specs.Calls.{IndexCall, Performed, accepted, with_room, fresh_memory, Linked}

-- 'from fresh indexes': the calls ds led from a fresh memory of N parts to the memory m, each handed the memory that
-- the last one left.
pub record FromFresh (N : ℕ) (ds : List Performed) (m : List ℕ) : Type 0 where
  pub some_parts : 1 ≤ N
  pub few_parts : N ≤ 256
  pub linked : Linked (fresh_memory N) ds m

-- 'lists of insertions .. all accepted': the calls ds were insertions of the entries es, in this order.
pub record Entered (ds : List Performed) (es : List CellEntry) : Type 0 where
  pub calls : map (λ d. d.call) ds ≡ map insert_call es
  pub each_accepted : All (λ d. accepted d.reply ≡ true) ds

-- the values but for the one at place k
abbrev pub without : ℕ → List ℕ → List ℕ
without k l = take k l ++ drop (suc k) l

-- Two answers with the visits at place k of the values: 'Visits may differ.' All else is equal: both calls accept, or
-- both refuse by one number.
pub record SameButVisits (k : ℕ) (t t' : Reply) : Type 0 where
  pub number : t.number ≡ t'.number
  pub values : without k t.values ≡ without k t'.values

-- What an accepted window query left in its result list: the entries es, as many as the matches that it reported, x, y
-- and tag of each, from the start on; and the rest of the list as it was.
pub record Wrote (d : Performed) (es : List CellEntry) : Type 0 where
  pub matches : get_or d.reply.values 0 0 ≡ length es
  pub list : d.at_exit ≡ flat_map listed_numbers es ++ drop (list_width * length es) d.lent

-- 'the entries it writes are rearrangements of each other'
pub record Rearranged (d d' : Performed) : Type 0 where
  pub entries : List CellEntry
  pub entries' : List CellEntry
  pub wrote : Wrote d entries
  pub wrote' : Wrote d' entries'
  pub rearranged : Permᴰ entries entries'

-- Two window queries of one window. Their result lists may have different lengths.
pub record SameWindow (d d' : Performed) : Type 0 where
  -- both refuse by one number, but for 9
  pub number : with_room d.reply.number ≡ with_room d'.reply.number
  -- it 'reports equally many matches', with the visits behind them or, refused by 9, without
  pub matches : without 1 d.reply.values ≡ without 1 d'.reply.values
  -- 'given a list long enough'
  pub written : accepted d.reply ≡ true → accepted d'.reply ≡ true → Rearranged d d'

-- Two calls of the kind and with the arguments of k, one on each of two indexes: what queries answer alike. Of changes
-- nothing is said: 2 goes by the work area, 7 and 8 by the tree.
abbrev pub SameBy : IndexCall → Performed → Performed → Type 0
SameBy (insert_call e) d d' = Unit {0}
SameBy (remove_call c) d d' = Unit {0}
SameBy clear_call d d' = Unit {0}
-- 'every point query has the same held or not held and the same tag'
SameBy (point_call c) d d' = SameButVisits 1 d.reply d'.reply
-- 'every window query given a list long enough reports equally many matches'
SameBy (window_call w) d d' = SameWindow d d'
-- beyond the request: the same entry and squared distance
SameBy (nearest_call c) d d' = SameButVisits 4 d.reply d'.reply
-- beyond the request: the same yes or no
SameBy (empty_call w) d d' = SameButVisits 1 d.reply d'.reply

-- the second call is taken to have the arguments of the first
abbrev pub SameAnswer : Performed → Performed → Type 0
SameAnswer d d' = SameBy d.call d d'
