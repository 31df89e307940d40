-- Demand 3 of the calls for C and Rust. A step is a call of one of them that has returned: its lifetimes, its arguments, its number and what
-- it was lent when it returned, with the function's own contract of these (`Post`), quoted and not restated. The claim speaks of the number
-- returned and the values stored (`made`), not of what a definition says that they should be.
use Prim.Native.Nat.{ℕ, ◌≤◌}
use mathlib.Core.Path.{◌≡◌, refl, ap, ◌∙◌}
use mathlib.Core.Bool.{false, cond}
use mathlib.Core.List.{List, [], ◌∷◌, map}
use native.Mathlib.Omega.{arith}
use lib.Dec.{eqb}
use contract.Lifetimes.{Lfts}
use borrow.Fn.Kinds.{ended_of}
use denote.Triple.Clauses.{AtExit}
use borrow.Fn.World.{ArgsD, ResD}
use lib.ListN.{length, get_or}
use Rattle.geometry.specs.Cells.{cell_of, rect_of}
use Rattle.tree.specs.Lists.{All}
use Rattle.tree.specs.Calls.{insert_call, remove_call, clear_call, point_call, window_call, nearest_call, empty_call}
use Rattle.tree.proofs.Lists.{all_of_map, all_any}
use Rattle.plane.specs.Lines.{entry_of}
use Rattle.answers.specs.Answers.{insert_answer, remove_answer, clear_answer, point_answer, window_answer, nearest_answer, empty_answer}
use Rattle.answers.specs.Numbers.{refusal_number, matches_told, accepts, point_values, insert_reply, remove_reply, clear_reply, point_reply, window_reply, nearest_reply, empty_reply}
use Rattle.answers.specs.declared.answer.Inserted.{Inserted}
use Rattle.std.specs.Prelude.{Option, Some, None, Result, Ok, Err}
use Rattle.answers.specs.declared.answer.Refusal.{Refusal}
use Rattle.answers.specs.declared.answer.PointFound.{PointFound}
use Rattle.answers.specs.declared.answer.WindowFound.{WindowFound}
use Rattle.answers.specs.declared.answer.NearestFound.{NearestFound}
use Rattle.answers.specs.declared.answer.EmptyFound.{EmptyFound}
use Rattle.history.specs.Calls.{Performed, fresh_memory, Linked}
use Rattle.history.specs.Contract.{ByContract}
use Rattle.history.specs.Claim.{HistoryClaim}
use Rattle.history.specs.Emptiness.{EmptyAsWindow}
use Rattle.history.proofs.History.{kept_history}
use Rattle.history.proofs.Emptiness.{empty_as_window}
use Rattle.lintzoger.specs.Exports.{stored}
use Rattle.lintzoger.specs.Seen.{insert_seen, change_seen, point_seen, window_seen, nearest_seen, empty_seen}
use Rattle.lintzoger.specs.contracts.exports.lintzoger_insert as insert_fn
use Rattle.lintzoger.proofs.exports.lintzoger_insert.Reads as insert
use Rattle.lintzoger.proofs.exports.lintzoger_insert.Kinds as insert_kinds
use Rattle.lintzoger.specs.contracts.exports.lintzoger_remove as remove_fn
use Rattle.lintzoger.proofs.exports.lintzoger_remove.Reads as remove
use Rattle.lintzoger.proofs.exports.lintzoger_remove.Kinds as remove_kinds
use Rattle.lintzoger.specs.contracts.exports.lintzoger_clear as clear_fn
use Rattle.lintzoger.proofs.exports.lintzoger_clear.Reads as clear
use Rattle.lintzoger.proofs.exports.lintzoger_clear.Kinds as clear_kinds
use Rattle.lintzoger.specs.contracts.exports.lintzoger_point as point_fn
use Rattle.lintzoger.proofs.exports.lintzoger_point.Reads as point
use Rattle.lintzoger.proofs.exports.lintzoger_point.Kinds as point_kinds
use Rattle.lintzoger.specs.contracts.exports.lintzoger_window as window_fn
use Rattle.lintzoger.proofs.exports.lintzoger_window.Reads as window
use Rattle.lintzoger.proofs.exports.lintzoger_window.Kinds as window_kinds
use Rattle.lintzoger.specs.contracts.exports.lintzoger_nearest as nearest_fn
use Rattle.lintzoger.proofs.exports.lintzoger_nearest.Reads as nearest
use Rattle.lintzoger.proofs.exports.lintzoger_nearest.Kinds as nearest_kinds
use Rattle.lintzoger.specs.contracts.exports.lintzoger_is_empty as empty_fn
use Rattle.lintzoger.proofs.exports.lintzoger_is_empty.Reads as empty
use Rattle.lintzoger.proofs.exports.lintzoger_is_empty.Kinds as empty_kinds

-- A call of `lintzoger_insert`: the index, the work area, x, y, the tag, the places for the entries held and the
-- cells removed.
pub record Insert : Type 0 where
  pub κs : Lfts 4
  pub args : ArgsD insert_fn.signature κs
  pub out : ResD insert_fn.signature κs
  pub exits : AtExit (ended_of 4 insert_kinds.ps insert_kinds.r) κs
  pub meets : insert.Post κs args out exits

-- A call of `lintzoger_remove`: the index, x, y, the place for the entries held.
pub record Remove : Type 0 where
  pub κs : Lfts 2
  pub args : ArgsD remove_fn.signature κs
  pub out : ResD remove_fn.signature κs
  pub exits : AtExit (ended_of 2 remove_kinds.ps remove_kinds.r) κs
  pub meets : remove.Post κs args out exits

-- A call of `lintzoger_clear`: the index, the place for the entries held.
pub record Clear : Type 0 where
  pub κs : Lfts 2
  pub args : ArgsD clear_fn.signature κs
  pub out : ResD clear_fn.signature κs
  pub exits : AtExit (ended_of 2 clear_kinds.ps clear_kinds.r) κs
  pub meets : clear.Post κs args out exits

-- A call of `lintzoger_point`: the index, to read only, x, y, the places for held, visits and tag.
pub record Point : Type 0 where
  pub κs : Lfts 4
  pub args : ArgsD point_fn.signature κs
  pub out : ResD point_fn.signature κs
  pub exits : AtExit (ended_of 4 point_kinds.ps point_kinds.r) κs
  pub meets : point.Post κs args out exits

-- A call of `lintzoger_window`: the index, to read only, the window's corners, the result list, the places for matches and visits.
pub record Window : Type 0 where
  pub κs : Lfts 4
  pub args : ArgsD window_fn.signature κs
  pub out : ResD window_fn.signature κs
  pub exits : AtExit (ended_of 4 window_kinds.ps window_kinds.r) κs
  pub meets : window.Post κs args out exits

-- A call of `lintzoger_nearest`: the index, to read only, x, y, the places for the entry's x, y and tag, the distance and the visits.
pub record Nearest : Type 0 where
  pub κs : Lfts 6
  pub args : ArgsD nearest_fn.signature κs
  pub out : ResD nearest_fn.signature κs
  pub exits : AtExit (ended_of 6 nearest_kinds.ps nearest_kinds.r) κs
  pub meets : nearest.Post κs args out exits

-- A call of `lintzoger_is_empty`: the index, to read only, the window's corners, the places for empty and visits.
pub record Emptiness : Type 0 where
  pub κs : Lfts 3
  pub args : ArgsD empty_fn.signature κs
  pub out : ResD empty_fn.signature κs
  pub exits : AtExit (ended_of 3 empty_kinds.ps empty_kinds.r) κs
  pub meets : empty.Post κs args out exits

pub data Step : Type 0 where
  inserts : Insert → Step
  removes : Remove → Step
  clears : Clear → Step
  points : Point → Step
  windows : Window → Step
  nearests : Nearest → Step
  empties : Emptiness → Step

-- a refusal has a number, and tells the matches where that is 9
refused : (r : Refusal) → eqb (refusal_number r) 0 ≡ false
refused r = grind arith

told : (r : Refusal) (before : ℕ) → cond (eqb (refusal_number r) 9) (get_or (matches_told r) 0 before ∷ []) [] ≡ matches_told r
told r before = grind arith

-- The number and the values stored are those of the answer: one law for each kind of call, by the cases of its answer.
insert_tells : (r : Result Inserted Refusal) (n held removed held' removed' : ℕ) → n ≡ (insert_reply r).number
    → held' ≡ stored (insert_reply r) 0 held → removed' ≡ stored (insert_reply r) 1 removed
    → insert_seen n held' removed' ≡ insert_reply r
insert_tells (Ok done) n held removed held' removed' p q o = rw (p, q, o)
insert_tells (Err r) n held removed held' removed' p q o = rw (p, refused r)

remove_tells : (r : Result ℕ Refusal) (n held held' : ℕ) → n ≡ (remove_reply r).number → held' ≡ stored (remove_reply r) 0 held
    → change_seen n held' ≡ remove_reply r
remove_tells (Ok k) n held held' p q = rw (p, q)
remove_tells (Err r) n held held' p q = rw (p, refused r)

clear_tells : (r : Result ℕ Refusal) (n held held' : ℕ) → n ≡ (clear_reply r).number → held' ≡ stored (clear_reply r) 0 held
    → change_seen n held' ≡ clear_reply r
clear_tells (Ok k) n held held' p q = rw (p, q)
clear_tells (Err r) n held held' p q = rw (p, refused r)

point_tells : (r : Result PointFound Refusal) (n held visits tag held' visits' tag' : ℕ) → n ≡ (point_reply r).number
    → held' ≡ stored (point_reply r) 0 held → visits' ≡ stored (point_reply r) 1 visits → tag' ≡ stored (point_reply r) 2 tag
    → point_seen n held' visits' tag' ≡ point_reply r
point_tells (Ok found) n held visits tag held' visits' tag' p q a b = go found.tag q a b
  where
    go : (t : Option ℕ) → held' ≡ get_or (point_values t found.visits) 0 held → visits' ≡ get_or (point_values t found.visits) 1 visits
        → tag' ≡ get_or (point_values t found.visits) 2 tag → point_seen n held' visits' tag' ≡ accepts (point_values t found.visits)
    go (Some x) q a b = rw (p, q, a, b)
    go None q a b = rw (p, q, a)
point_tells (Err r) n held visits tag held' visits' tag' p q a b = rw (p, refused r)

window_tells : (r : Result WindowFound Refusal) (n matches visits matches' visits' : ℕ) → n ≡ (window_reply r).number
    → matches' ≡ stored (window_reply r) 0 matches → visits' ≡ stored (window_reply r) 1 visits
    → window_seen n matches' visits' ≡ window_reply r
window_tells (Ok found) n matches visits matches' visits' p q a = rw (p, q, a)
window_tells (Err r) n matches visits matches' visits' p q a = rw (p, q, refused r, told r matches)

nearest_tells : (r : Result NearestFound Refusal) (n x y tag distance visits x' y' tag' distance' visits' : ℕ) → n ≡ (nearest_reply r).number
    → x' ≡ stored (nearest_reply r) 0 x → y' ≡ stored (nearest_reply r) 1 y → tag' ≡ stored (nearest_reply r) 2 tag
    → distance' ≡ stored (nearest_reply r) 3 distance → visits' ≡ stored (nearest_reply r) 4 visits
    → nearest_seen n x' y' tag' distance' visits' ≡ nearest_reply r
nearest_tells (Ok found) n x y tag distance visits x' y' tag' distance' visits' p a b d e f = rw (p, a, b, d, e, f)
nearest_tells (Err r) n x y tag distance visits x' y' tag' distance' visits' p a b d e f = rw (p, refused r)

empty_tells : (r : Result EmptyFound Refusal) (n empty visits empty' visits' : ℕ) → n ≡ (empty_reply r).number
    → empty' ≡ stored (empty_reply r) 0 empty → visits' ≡ stored (empty_reply r) 1 visits
    → empty_seen n empty' visits' ≡ empty_reply r
empty_tells (Ok found) n empty visits empty' visits' p q a = rw (p, q, a)
empty_tells (Err r) n empty visits empty' visits' p q a = rw (p, refused r)

-- What a step was handed, and what came of it: the lists and places as they were at the return, and the number returned.
abbrev pub made : Step → Performed
made (inserts s) =
    let a = s.args in
    let z = s.exits in
    record {
      call = insert_call (entry_of (cell_of a.1.1.0 a.1.1.1.0) a.1.1.1.1.0);
      before = a.0.now;
      after = z.0.now;
      lent = a.1.0.now;
      at_exit = z.1.0.now;
      reply = insert_seen s.out z.1.1.1.1.1.0.now z.1.1.1.1.1.1.0.now;
    }
made (removes s) =
    let a = s.args in
    let z = s.exits in
    record {
      call = remove_call (cell_of a.1.0 a.1.1.0);
      before = a.0.now;
      after = z.0.now;
      lent = [];
      at_exit = [];
      reply = change_seen s.out z.1.1.1.0.now;
    }
made (clears s) =
    let z = s.exits in
    record {
      call = clear_call;
      before = s.args.0.now;
      after = z.0.now;
      lent = [];
      at_exit = [];
      reply = change_seen s.out z.1.0.now;
    }
made (points s) =
    let a = s.args in
    let z = s.exits in
    record {
      call = point_call (cell_of a.1.0 a.1.1.0);
      before = a.0.now;
      after = a.0.now;
      lent = [];
      at_exit = [];
      reply = point_seen s.out z.1.1.1.0.now z.1.1.1.1.0.now z.1.1.1.1.1.0.now;
    }
made (windows s) =
    let a = s.args in
    let z = s.exits in
    record {
      call = window_call (rect_of a.1.0 a.1.1.0 a.1.1.1.0 a.1.1.1.1.0);
      before = a.0.now;
      after = a.0.now;
      lent = a.1.1.1.1.1.0.now;
      at_exit = z.1.1.1.1.1.0.now;
      reply = window_seen s.out z.1.1.1.1.1.1.0.now z.1.1.1.1.1.1.1.0.now;
    }
made (nearests s) =
    let a = s.args in
    let z = s.exits.1.1.1 in
    record {
      call = nearest_call (cell_of a.1.0 a.1.1.0);
      before = a.0.now;
      after = a.0.now;
      lent = [];
      at_exit = [];
      reply = nearest_seen s.out z.0.now z.1.0.now z.1.1.0.now z.1.1.1.0.now z.1.1.1.1.0.now;
    }
made (empties s) =
    let a = s.args in
    let z = s.exits.1.1.1.1.1 in
    record {
      call = empty_call (rect_of a.1.0 a.1.1.0 a.1.1.1.0 a.1.1.1.1.0);
      before = a.0.now;
      after = a.0.now;
      lent = [];
      at_exit = [];
      reply = empty_seen s.out z.0.now z.1.0.now;
    }

-- A step's own contract is what the claim rests on.
pub kept : (s : Step) → ByContract (made s)
kept (inserts s) =
    let v = s.meets in
    record {
      result = _;
      reply = insert_tells (insert_answer _ _ _) s.out _ _ _ _ v.number v.held_is v.removed_is;
      contract = record { answer = refl; memory = v.memory; memory_length = v.memory_length; work = v.work };
    }
kept (removes s) =
    let v = s.meets in
    record {
      result = _;
      reply = remove_tells (remove_answer _ _) s.out _ _ v.number v.held_is;
      contract = record { answer = refl; memory = v.memory; memory_length = v.memory_length };
      list = refl;
    }
kept (clears s) =
    let v = s.meets in
    record { reply = clear_tells (clear_answer _) s.out _ _ v.number v.held_is; memory = v.memory; list = refl }
kept (points s) =
    let v = s.meets in
    record {
      reply = point_tells (point_answer _ _) s.out _ _ _ _ _ _ v.number v.held_is v.visits_is v.tag_is;
      memory = refl;
      list = refl;
    }
kept (windows s) =
    let v = s.meets in
    record {
      result = _;
      reply = window_tells (window_answer _ _ _) s.out _ _ _ _ v.number v.matches_is v.visits_is;
      contract = record { answer = refl; list = v.list_is };
      memory = refl;
    }
kept (nearests s) =
    let v = s.meets in
    record {
      reply =
          nearest_tells (nearest_answer _ _) s.out _ _ _ _ _ _ _ _ _ _ v.number v.near_x_is v.near_y_is v.tag_is v.distance_is v.visits_is;
      memory = refl;
      list = refl;
    }
kept (empties s) =
    let v = s.meets in
    record {
      reply = empty_tells (empty_answer _ _) s.out _ _ _ _ v.number v.empty_is v.visits_is;
      memory = refl;
      list = refl;
    }

pub all_kept : (ss : List Step) → All ByContract (map made ss)
all_kept ss = all_of_map ByContract made ss (all_any (λ s. ByContract (made s)) ss kept)

-- Demand 3: for every N from 1 to 256, every list of these calls from a fresh memory, each handed the memory that the last one left.
pub exported_history : (N : ℕ) → 1 ≤ N → N ≤ 256 → (ss : List Step) (m : List ℕ) → Linked (fresh_memory N) (map made ss) m
    → HistoryClaim N (map made ss) m
exported_history N a b ss m l = kept_history N a b (map made ss) m (all_kept ss) l

-- Request A.11: an emptiness query and a window query for C that were handed the same memory and the same corners, whatever
-- these are, by the numbers that they returned and the values that they stored: the yes exactly where the window query
-- reports zero matches, and at most its visits.
pub exported_empty_as_window : (s : Emptiness) (t : Window) → s.args.0.now ≡ t.args.0.now
    → s.args.1.0 ≡ t.args.1.0 → s.args.1.1.0 ≡ t.args.1.1.0
    → s.args.1.1.1.0 ≡ t.args.1.1.1.0 → s.args.1.1.1.1.0 ≡ t.args.1.1.1.1.0
    → EmptyAsWindow (made (empties s)).reply (made (windows t)).reply
exported_empty_as_window s t m a b c d =
    let i = t.args.0.now in
    let w = rect_of t.args.1.0 t.args.1.1.0 t.args.1.1.1.0 t.args.1.1.1.1.0 in
    let n = length t.args.1.1.1.1.1.0.now in
    let e : (made (empties s)).reply ≡ empty_reply (empty_answer i w) = rw (← m, ← a, ← b, ← c, ← d) (kept (empties s)).reply in
    let k = kept (windows t) in
    let f : (made (windows t)).reply ≡ window_reply (window_answer i w n) = k.reply ∙ ap window_reply k.contract.answer in
    rw (e, f) (empty_as_window i w n)
