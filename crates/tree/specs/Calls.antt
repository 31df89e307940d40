-- The calls at the level of trees, and what each answers and leaves by the definitions.
-- docs/RULES.md 4.22, 4.26, 7.2
use Rattle.std.specs.Prelude.{ℕ, Bool, true, false, cond, List, [], ◌∷◌, length}
use Rattle.std.proofs.Math.Option.{Option, none, some}
use Rattle.tree.specs.Space.{Space}
use Rattle.tree.specs.Nodes.{EntryOf}
use Rattle.tree.specs.Root.{Root}
use Rattle.tree.specs.Tree.{Index, entries}
use Rattle.tree.specs.Insert.{Outcome, refused, accepted, insert}
use Rattle.tree.specs.Removed.{removed_total}
use Rattle.tree.specs.Remove.{remove}
use Rattle.tree.specs.Query.{Window, holds, entry_at, visits, matches, window_visits}
use Rattle.tree.specs.Nearest.{nearest, walk}
use Rattle.tree.specs.Emptiness.{is_empty, empty_visits}

-- "insertions, removals, clears and queries", with their arguments other than lent lists.
pub data Call (S : Space) (Win : Window S) : Type 0 where
  insert_call : EntryOf S → Call S Win
  remove_call : S.Cell → Call S Win
  clear_call : Call S Win
  point_call : S.Cell → Call S Win
  window_call : Win.W → Call S Win
  nearest_call : S.Cell → Call S Win
  empty_call : Win.W → Call S Win

-- An answer: a refusal by its number; "Insertion, removal and clearing report the entries held after the call",
-- insertion also "the total removed by siblings"; a point query the entry, if held, and visits; a window query the
-- matches in order and visits; a nearest query "the entry, the squared distance and the number of nodes entered"; an
-- emptiness query "a yes or no for a window" and visits.
pub data Answer (S : Space) : Type 0 where
  refusal : ℕ → Answer S
  inserted : ℕ → ℕ → Answer S
  reports : ℕ → Answer S
  point_answer : Option (EntryOf S) → ℕ → Answer S
  window_answer : List (EntryOf S) → ℕ → Answer S
  nearest_answer : EntryOf S → ℕ → ℕ → Answer S
  empty_answer : Bool → ℕ → Answer S

-- Whether the call was accepted.
abbrev pub is_accepted : {S : Space} → Answer S → Bool
is_accepted (refusal k) = false
is_accepted (inserted n r) = true
is_accepted (reports n) = true
is_accepted (point_answer e v) = true
is_accepted (window_answer es v) = true
is_accepted (nearest_answer e d v) = true
is_accepted (empty_answer b v) = true

module _ (S : Space) where
  -- The answer and the index after, from how a call that may change the index ends: f is its answer with the number of
  -- entries held after it. A refused call leaves "index" as it was.
  abbrev pub outcome_answer : (ℕ → Answer S) → Outcome S → Answer S
  outcome_answer f (refused k) = refusal k
  outcome_answer f (accepted i) = f (length (entries S i))

  abbrev pub outcome_index : Index S → Outcome S → Index S
  outcome_index i (refused k) = i
  outcome_index i (accepted j) = j

  -- Removal: 6, "cell not held (removal)".
  abbrev pub removal : Index S → S.Cell → Outcome S
  removal i c = cond (holds S c i) (accepted (remove S c i)) (refused 6)

  -- Nearest query: 10, "nothing is held".
  abbrev pub nearest_end : S.Cell → Option (EntryOf S) → ℕ → Answer S
  nearest_end c none v = refusal 10
  nearest_end c (some e) v = nearest_answer e (S.distance c e.cell) v

  module _ (R : Root S) (N : ℕ) where
    -- Insertion: 5, "cell already held (insertion)", before 7 and 8.
    abbrev pub insertion : Index S → EntryOf S → Outcome S
    insertion i e = cond (holds S e.cell i) (refused 5) (insert S R N i e)

    module _ (Win : Window S) where
      -- The answer of a call on an index.
      unfoldable pub answer : Index S → Call S Win → Answer S
      answer i (insert_call e) = outcome_answer (λ n. inserted n (removed_total S R i e.cell)) (insertion i e)
      answer i (remove_call c) = outcome_answer reports (removal i c)
      answer i clear_call = reports 0
      answer i (point_call c) = point_answer (entry_at S c i) (visits S c i)
      answer i (window_call w) = window_answer (matches S Win w i) (window_visits S Win w i)
      answer i (nearest_call c) = nearest_end c (nearest S c i) (walk S c i).entered
      answer i (empty_call w) = empty_answer (is_empty S Win w i) (empty_visits S Win w i)

      -- The index after a call.
      unfoldable pub after : Index S → Call S Win → Index S
      after i (insert_call e) = outcome_index i (insertion i e)
      after i (remove_call c) = outcome_index i (removal i c)
      after i clear_call = none
      after i (point_call c) = i
      after i (window_call w) = i
      after i (nearest_call c) = i
      after i (empty_call w) = i

      -- A list of calls, "each call handed the memory that the last one left": the index after all, and each call's
      -- answer.
      unfoldable pub after_all : Index S → List (Call S Win) → Index S
      after_all i [] = i
      after_all i (k ∷ ks) = after_all (after i k) ks

      unfoldable pub answers : Index S → List (Call S Win) → List (Answer S)
      answers i [] = []
      answers i (k ∷ ks) = answer i k ∷ answers (after i k) ks
