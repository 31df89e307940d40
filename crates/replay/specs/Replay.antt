-- A list of calls that was replayed.
use Rattle.std.specs.Prelude.{ℕ, suc, ◌*◌, ◌≤◌, false, ◌≡◌, drop, length}
use mathlib.Core.List.{List, [], ◌∷◌, ◌++◌, map, flat_map}
use Rattle.tree.specs.Lists.{All}
use Rattle.answers.specs.declared.reply.Reply.{Reply}
use Rattle.answers.specs.Numbers.{with_seven}
use Rattle.history.specs.Calls.{Performed, fresh_memory, Linked}
use Rattle.history.specs.Claim.{HistoryClaim}
use Rattle.history.specs.Contract.{ByContract}
use Rattle.replay.specs.Coded.{coded_at, call_of, calls_in, call_fits, part_for, part_back}
use Rattle.replay.specs.Replies.{reply_numbers, put_reply}

-- The i-th call of the list l was made on the index m, which left m', with its part of p lent, which left p', and its
-- answer was stored in a, which gave a'.
pub record MadeOne (l : List ℕ) (i : ℕ) (m p a m' p' a' : List ℕ) : Type 0 where
  pub reply : Reply
  pub at_exit : List ℕ
  pub kept : ByContract (record {
    call = call_of (coded_at l i);
    before = m;
    after = m';
    lent = part_for l i p;
    at_exit = at_exit;
    reply = reply;
  })
  pub list : p' ≡ part_back l i p at_exit
  pub answers : a' ≡ put_reply a i (with_seven reply)
  pub memory_length : length m' ≡ length m
  pub list_length : length p' ≡ length p
  pub answers_length : length a' ≡ length a

-- The calls ds of the list l, from the i-th on, are lent their parts, one after another: from the lent list p to p'.
unfoldable pub Lends : List ℕ → ℕ → List ℕ → List Performed → List ℕ → Type 0
Lends l i p [] p' = p' ≡ p
Lends l i p (d ∷ ds) p' = (d.lent ≡ part_for l i p) × Lends l (suc i) (part_back l i p d.at_exit) ds p'

-- the answer of a call as it is stored
abbrev pub answer_numbers : Performed → List ℕ
answer_numbers d = reply_numbers (with_seven d.reply)

-- The first n calls of the list l were made on the index m, which left m', with parts of p lent, which left p', and
-- their answers were stored in a, which gave a'.
pub record Replayed (l m p a : List ℕ) (n : ℕ) (m' p' a' : List ℕ) : Type 0 where
  -- the calls made
  pub made : List Performed
  pub count : length made ≡ n
  pub calls : map (λ d. d.call) made ≡ calls_in l n
  pub linked : Linked m made m'
  pub lends : Lends l 0 p made p'
  pub answers : a' ≡ flat_map answer_numbers made ++ drop (8 * n) a
  -- each by the contract of its function, whatever the memory
  pub kept : All ByContract made
  -- the next one cannot be made
  pub ends : call_fits l n (length p) (length a) ≡ false
  -- demand 3, if the index was a fresh one
  pub claim : (N : ℕ) → 1 ≤ N → N ≤ 256 → m ≡ fresh_memory N → HistoryClaim N made m'
