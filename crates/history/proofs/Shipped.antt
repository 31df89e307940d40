-- Demand 3 of the shipped functions themselves. A step is a call of one of them that has returned: its lifetimes, its arguments, its
-- result and the lists it was lent when it returned, with the function's own contract of these (`Post`), quoted and not restated.
use Prim.Native.Nat.{ℕ, ◌*◌, ◌≤◌}
use mathlib.Core.Bool.{true}
use mathlib.Core.Option.{some}
use mathlib.Core.Path.{◌≡◌, refl, sym, ap, ◌∙◌}
use mathlib.Core.List.{List, [], map}
use contract.Lifetimes.{Lfts}
use borrow.Fn.Kinds.{ended_of}
use denote.Triple.Clauses.{AtExit}
use borrow.Fn.World.{ArgsD, ResD}
use lib.ListN.{length}
use Rattle.geometry.specs.Cells.{on_grid, valid}
use Rattle.tree.specs.Lists.{All}
use Rattle.tree.specs.Tree.{entries}
use Rattle.tree.specs.Calls.{insert_call, remove_call, clear_call, point_call, window_call, nearest_call, empty_call}
use Rattle.tree.proofs.Lists.{all_of_map, all_any}
use Rattle.plane.specs.Fanout.{fanout, index_space, PlaneIndex}
use Rattle.memory.specs.Reading.{reading}
use Rattle.layout.specs.Entries.{tree_entry}
use Rattle.answers.specs.Listing.{list_width}
use Rattle.std.specs.Prelude.{Result}
use Rattle.answers.specs.declared.answer.Refusal.{Refusal}
use Rattle.answers.specs.declared.answer.PointFound.{PointFound}
use Rattle.answers.specs.declared.answer.WindowFound.{WindowFound}
use Rattle.answers.specs.declared.answer.NearestFound.{NearestFound}
use Rattle.answers.specs.declared.answer.EmptyFound.{EmptyFound}
use Rattle.answers.specs.Numbers.{insert_reply, remove_reply, clear_reply, point_reply, window_reply, nearest_reply, empty_reply}
use Rattle.queries.specs.contracts.point as point_fn
use Rattle.queries.proofs.point.Reads as point
use Rattle.queries.proofs.point.Kinds as point_kinds
use Rattle.queries.specs.contracts.window as window_fn
use Rattle.queries.proofs.window.Reads as window
use Rattle.queries.proofs.window.Kinds as window_kinds
use Rattle.nearest.specs.contracts.nearest as nearest_fn
use Rattle.nearest.proofs.nearest.Reads as nearest
use Rattle.nearest.proofs.nearest.Kinds as nearest_kinds
use Rattle.emptiness.specs.contracts.is_empty as empty_fn
use Rattle.emptiness.proofs.is_empty.Reads as empty
use Rattle.emptiness.proofs.is_empty.Kinds as empty_kinds
use Rattle.removal.specs.contracts.clear as clear_fn
use Rattle.removal.proofs.clear.Reads as clear
use Rattle.removal.proofs.clear.Kinds as clear_kinds
use Rattle.removal.specs.contracts.remove as remove_fn
use Rattle.removal.proofs.remove.Reads as remove
use Rattle.removal.proofs.remove.Kinds as remove_kinds
use Rattle.insertion.specs.contracts.insert as insert_fn
use Rattle.insertion.proofs.insert.Reads as insert
use Rattle.insertion.proofs.insert.Kinds as insert_kinds
use Rattle.history.specs.Calls.{Performed, accepted, fresh_memory, Linked}
use Rattle.history.specs.Contract.{ByContract}
use Rattle.history.specs.Claim.{visits_of, VisitsExact, NearestExact, HistoryClaim}
use Rattle.history.specs.Emptiness.{EmptyExact, EmptyAsWindow}
use Rattle.history.proofs.History.{kept_history, call_visits}
use Rattle.history.proofs.Visits.{point_accepts}
use Rattle.history.proofs.Windows.{window_accepts}
use Rattle.history.proofs.Nearest.{nearest_accepts, nearest_on_index}
use Rattle.history.proofs.Emptiness.{empty_accepts, empty_on_index, empty_as_window as as_window}

-- A call of `insert`: the index, the work area, the entry.
pub record Insert : Type 0 where
  pub κs : Lfts 2
  pub args : ArgsD insert_fn.signature κs
  pub out : ResD insert_fn.signature κs
  pub exits : AtExit (ended_of 2 insert_kinds.ps insert_kinds.r) κs
  pub meets : insert.Post κs args out exits

-- A call of `remove`: the index, the cell.
pub record Remove : Type 0 where
  pub κs : Lfts 1
  pub args : ArgsD remove_fn.signature κs
  pub out : ResD remove_fn.signature κs
  pub exits : AtExit (ended_of 1 remove_kinds.ps remove_kinds.r) κs
  pub meets : remove.Post κs args out exits

-- A call of `clear`: the index.
pub record Clear : Type 0 where
  pub κs : Lfts 1
  pub args : ArgsD clear_fn.signature κs
  pub out : ResD clear_fn.signature κs
  pub exits : AtExit (ended_of 1 clear_kinds.ps clear_kinds.r) κs
  pub meets : clear.Post κs args out exits

-- A call of `point`: the index, to read only, and the cell.
pub record Point : Type 0 where
  pub κs : Lfts 1
  pub args : ArgsD point_fn.signature κs
  pub out : ResD point_fn.signature κs
  pub exits : AtExit (ended_of 1 point_kinds.ps point_kinds.r) κs
  pub meets : point.Post κs args out exits

-- A call of `window`: the index, to read only, the window, the result list.
pub record Window : Type 0 where
  pub κs : Lfts 2
  pub args : ArgsD window_fn.signature κs
  pub out : ResD window_fn.signature κs
  pub exits : AtExit (ended_of 2 window_kinds.ps window_kinds.r) κs
  pub meets : window.Post κs args out exits

-- A call of `nearest`: the index, to read only, and the cell.
pub record Nearest : Type 0 where
  pub κs : Lfts 1
  pub args : ArgsD nearest_fn.signature κs
  pub out : ResD nearest_fn.signature κs
  pub exits : AtExit (ended_of 1 nearest_kinds.ps nearest_kinds.r) κs
  pub meets : nearest.Post κs args out exits

-- A call of `is_empty`: the index, to read only, and the window.
pub record Emptiness : Type 0 where
  pub κs : Lfts 1
  pub args : ArgsD empty_fn.signature κs
  pub out : ResD empty_fn.signature κs
  pub exits : AtExit (ended_of 1 empty_kinds.ps empty_kinds.r) κs
  pub meets : empty.Post κs args out exits

pub data Step : Type 0 where
  inserts : Insert → Step
  removes : Remove → Step
  clears : Clear → Step
  points : Point → Step
  windows : Window → Step
  nearests : Nearest → Step
  empties : Emptiness → Step

-- What a step was handed, and what came of it. A step that is lent the index to read only leaves it as it is.
abbrev pub made : Step → Performed
made (inserts s) = record {
  call = insert_call (tree_entry s.args.1.1.0);
  before = s.args.0.now;
  after = s.exits.0.now;
  lent = s.args.1.0.now;
  at_exit = s.exits.1.0.now;
  reply = insert_reply s.out;
}
made (removes s) = record {
  call = remove_call s.args.1.0;
  before = s.args.0.now;
  after = s.exits.0.now;
  lent = [];
  at_exit = [];
  reply = remove_reply s.out;
}
made (clears s) = record {
  call = clear_call;
  before = s.args.0.now;
  after = s.exits.0.now;
  lent = [];
  at_exit = [];
  reply = clear_reply s.out;
}
made (points s) = record {
  call = point_call s.args.1.0;
  before = s.args.0.now;
  after = s.args.0.now;
  lent = [];
  at_exit = [];
  reply = point_reply s.out;
}
made (windows s) = record {
  call = window_call s.args.1.0;
  before = s.args.0.now;
  after = s.args.0.now;
  lent = s.args.1.1.0.now;
  at_exit = s.exits.1.1.0.now;
  reply = window_reply s.out;
}
made (nearests s) = record {
  call = nearest_call s.args.1.0;
  before = s.args.0.now;
  after = s.args.0.now;
  lent = [];
  at_exit = [];
  reply = nearest_reply s.out;
}
made (empties s) = record {
  call = empty_call s.args.1.0;
  before = s.args.0.now;
  after = s.args.0.now;
  lent = [];
  at_exit = [];
  reply = empty_reply s.out;
}

-- A step's own contract is what the claim rests on.
pub kept : (s : Step) → ByContract (made s)
kept (inserts s) = record { result = s.out; reply = refl; contract = s.meets }
kept (removes s) = record { result = s.out; reply = refl; contract = s.meets; list = refl }
kept (clears s) = record { reply = ap clear_reply s.meets.0; memory = s.meets.1; list = refl }
kept (points s) = record { reply = ap point_reply s.meets; memory = refl; list = refl }
kept (windows s) = record { result = s.out; reply = refl; contract = s.meets; memory = refl }
kept (nearests s) = record { reply = ap nearest_reply s.meets; memory = refl; list = refl }
kept (empties s) = record { reply = ap empty_reply s.meets; memory = refl; list = refl }

pub all_kept : (ss : List Step) → All ByContract (map made ss)
all_kept ss = all_of_map ByContract made ss (all_any (λ s. ByContract (made s)) ss kept)

-- Demand 3: for every N from 1 to 256, every list of calls from a fresh memory, each handed the memory that the last one left.
pub history : (N : ℕ) → 1 ≤ N → N ≤ 256 → (ss : List Step) (m : List ℕ) → Linked (fresh_memory N) (map made ss) m → HistoryClaim N (map made ss) m
history N a b ss m l = kept_history N a b (map made ss) m (all_kept ss) l

-- "or on any other sound index": on every memory that holds an index, a point query of a cell on the grid is accepted,
pub point_on_sound : (s : Point) (i : PlaneIndex) → reading fanout s.args.0.now ≡ some i → on_grid s.args.1.0 ≡ true → accepted (point_reply s.out) ≡ true
point_on_sound s i e g = ap (λ (x : Result PointFound Refusal). accepted (point_reply x)) s.meets ∙ point_accepts s.args.0.now s.args.1.0 i e g

-- and the visits of an accepted one are exact and at most the height, whatever memory it was handed.
pub point_exact : (s : Point) → accepted (point_reply s.out) ≡ true → VisitsExact s.args.0.now s.args.1.0 (visits_of (point_reply s.out))
point_exact s = call_visits (made (points s)) (kept (points s))

-- A window query of a valid window is accepted there, if its result list has room for every entry held.
pub window_on_sound : (s : Window) (i : PlaneIndex) → reading fanout s.args.0.now ≡ some i
    → valid s.args.1.0 ≡ true → list_width * length (entries index_space i) ≤ length s.args.1.1.0.now
    → accepted (window_reply s.out) ≡ true
window_on_sound s i e g r =
    ap (λ (x : Result WindowFound Refusal). accepted (window_reply x)) s.meets.answer
    ∙ window_accepts s.args.0.now s.args.1.0 i e (length s.args.1.1.0.now) g r

-- The same of nearest queries: on every memory that holds an index with an entry, one of a cell on the grid is accepted,
pub nearest_on_sound : (s : Nearest) (i : PlaneIndex) → reading fanout s.args.0.now ≡ some i → 1 ≤ length (entries index_space i)
    → on_grid s.args.1.0 ≡ true → accepted (nearest_reply s.out) ≡ true
nearest_on_sound s i e n g =
    ap (λ (x : Result NearestFound Refusal). accepted (nearest_reply x)) s.meets ∙ nearest_accepts s.args.0.now s.args.1.0 i e n g

-- and of an accepted one the memory holds an index, whatever memory it was handed, and the answer is exact for the entries of that index.
pub nearest_exact : (s : Nearest) → accepted (nearest_reply s.out) ≡ true
    → (i : PlaneIndex) × (reading fanout s.args.0.now ≡ some i)
    × NearestExact s.args.0.now s.args.1.0 (entries index_space i) (nearest_reply s.out)
nearest_exact s f =
    rw s.meets (nearest_on_index s.args.0.now s.args.1.0 (ap (λ (x : Result NearestFound Refusal). accepted (nearest_reply x)) (sym s.meets) ∙ f))

-- The same of emptiness queries: on every memory that holds an index, one of a valid window is accepted,
pub empty_on_sound : (s : Emptiness) (i : PlaneIndex) → reading fanout s.args.0.now ≡ some i
    → valid s.args.1.0 ≡ true → accepted (empty_reply s.out) ≡ true
empty_on_sound s i e g =
    ap (λ (x : Result EmptyFound Refusal). accepted (empty_reply x)) s.meets
    ∙ empty_accepts s.args.0.now s.args.1.0 i e g

-- and of an accepted one the memory holds an index, whatever memory it was handed, and the answer is exact for the entries
-- of that index.
pub empty_exact : (s : Emptiness) → accepted (empty_reply s.out) ≡ true
    → (i : PlaneIndex) × (reading fanout s.args.0.now ≡ some i)
    × EmptyExact s.args.0.now s.args.1.0 (entries index_space i) (empty_reply s.out)
empty_exact s f =
    let g = ap (λ (x : Result EmptyFound Refusal). accepted (empty_reply x)) (sym s.meets) ∙ f in
    rw s.meets (empty_on_index s.args.0.now s.args.1.0 g)

-- An emptiness query and a window query that were handed the same memory and the same window, whatever these are: the yes
-- exactly where the window query reports zero matches, and at most its visits.
pub empty_as_window : (s : Emptiness) (t : Window) → s.args.0.now ≡ t.args.0.now → s.args.1.0 ≡ t.args.1.0
    → EmptyAsWindow (empty_reply s.out) (window_reply t.out)
empty_as_window s t e g =
    rw (s.meets, t.meets.answer, e, g)
    (as_window t.args.0.now t.args.1.0 (length t.args.1.1.0.now))
