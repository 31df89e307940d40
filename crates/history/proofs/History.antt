-- The claim about every list of calls that kept their contracts, from a fresh memory.
use Prim.Native.Nat.{ℕ, ◌+◌, ◌*◌, ◌≤◌}
use mathlib.Core.List.{List, [], ◌∷◌}
use mathlib.Core.Option.{none}
use mathlib.Core.Path.{refl, sym, ap, ◌∙◌, subst}
use native.Mathlib.Omega.{arith}
use lib.ListN.{length, length-replicate}
use Rattle.tree.specs.Lists.{All}
use Rattle.tree.specs.Record.{recorded, record_of}
use Rattle.tree.specs.Calls.{insert_call, remove_call, clear_call, point_call, window_call, nearest_call, empty_call}
use Rattle.tree.proofs.Claim.{index_claim}
use Rattle.plane.specs.Lines.{CellEntry}
use Rattle.plane.specs.Fanout.{fanout, index_space, index_root, index_window, PlaneIndex}
use Rattle.plane.proofs.Rects.{plane_space_laws}
use Rattle.plane.proofs.Roots.{plane_root_laws}
use Rattle.plane.proofs.Steps.{plane_steps}
use Rattle.plane.proofs.Windows.{plane_window_laws}
use Rattle.memory.proofs.ReadingLaws.{fresh}
use Rattle.answers.specs.Numbers.{insert_reply}
use Rattle.history.specs.Calls.{IndexCall, Performed, accepted, fed, fresh_memory, Linked, record_from}
use Rattle.history.specs.Contract.{ByContractOf, ByContract}
use Rattle.history.specs.Defined.{index_after, AsDefined}
use Rattle.history.specs.Claim.{EachWith, Reports, PointVisits, visits_of, VisitsExact, NearestExact, NearestBy, TellsNearest, HistoryClaim}
use Rattle.history.specs.Emptiness.{EmptyExact, EmptyBy, TellsEmpty}
use Rattle.history.specs.Removed.{RemovedExact, RemovedBy}
use Rattle.history.proofs.Answers.{Holds}
use Rattle.history.proofs.Steps.{stepped, as_defined, holds_after}
use Rattle.history.proofs.States.{PlaneState, one_fits, two_fit, goes, Goes}
use Rattle.history.proofs.Removed.{insert_removed}
use Rattle.history.proofs.Visits.{point_visits}
use Rattle.history.proofs.Nearest.{tells_nearest}
use Rattle.history.proofs.Emptiness.{tells_empty}

-- The memory m holds an index that goes with the record r.
pub record Agrees (N : ℕ) (m : List ℕ) (r : List CellEntry) : Type 0 where
  pub index : PlaneIndex
  pub holds : Holds N m index
  pub state : PlaneState N index r

-- A fresh memory goes with the empty record.
pub fresh_agrees : (N : ℕ) → 1 ≤ N → N ≤ 256 → Agrees N (fresh_memory N) []
fresh_agrees N a b = record {
  index = none;
  holds = record { some_parts = a; few_parts = b; length_is = length-replicate (64 + 128 * N) 0; reads = fresh fanout N a b };
  state = record { sound = tt; room = omega arith; same = λ q. refl };
}

-- An accepted nearest query, with the record after it.
nearest_by : (N : ℕ) (r : List CellEntry) (k : IndexCall) (d : Performed) → Agrees N d.before r → ByContractOf k d
    → NearestBy k d.before d.reply (fed r k (accepted d.reply))
unfolding recorded
nearest_by N r (insert_call e) d g p = tt
nearest_by N r (remove_call c) d g p = tt
nearest_by N r clear_call d g p = tt
nearest_by N r (point_call c) d g p = tt
nearest_by N r (window_call w) d g p = tt
nearest_by N r (nearest_call c) d g p = λ f.
    rw f
    (subst (NearestExact d.before c r) (sym p.reply)
    (tells_nearest d.before c g.index r g.holds.reads g.state.same (ap accepted (sym p.reply) ∙ f)))
nearest_by N r (empty_call w) d g p = tt

-- An accepted emptiness query, with the record after it.
empty_by : (N : ℕ) (r : List CellEntry) (k : IndexCall) (d : Performed) → Agrees N d.before r → ByContractOf k d
    → EmptyBy k d.before d.reply (fed r k (accepted d.reply))
unfolding recorded
empty_by N r (insert_call e) d g p = tt
empty_by N r (remove_call c) d g p = tt
empty_by N r clear_call d g p = tt
empty_by N r (point_call c) d g p = tt
empty_by N r (window_call w) d g p = tt
empty_by N r (nearest_call c) d g p = tt
empty_by N r (empty_call w) d g p = λ f.
    rw f
    (subst (EmptyExact d.before w r) (sym p.reply)
    (tells_empty d.before w g.index g.holds.reads r g.state.same (ap accepted (sym p.reply) ∙ f)))

-- What one call comes to.
pub record CallClaim (N : ℕ) (r : List CellEntry) (d : Performed) : Type 0 where
  pub defined : AsDefined N d
  pub report : Reports d (fed r d.call (accepted d.reply))
  pub nearest : TellsNearest d (fed r d.call (accepted d.reply))
  pub emptiness : TellsEmpty d (fed r d.call (accepted d.reply))
  pub agrees : Agrees N d.after (fed r d.call (accepted d.reply))

pub call_claim : (N : ℕ) (r : List CellEntry) (d : Performed) → Agrees N d.before r → ByContract d → CallClaim N r d
call_claim N r d g p =
    let s = stepped N g.index d g.holds p in
    let t = subst (Goes N g.index (length d.lent) r d.call (index_after N g.index d.call (length d.lent))) (sym s.answer) (goes N g.index (length d.lent) r d.call g.state) in
    record {
      defined = as_defined N g.index d g.holds s;
      report = t.report;
      nearest = nearest_by N r d.call d g p;
      emptiness = empty_by N r d.call d g p;
      agrees = record { index = index_after N g.index d.call (length d.lent); holds = holds_after N g.index d g.holds s; state = t.state };
    }

-- A list of calls.
pub record ListClaim (N : ℕ) (r : List CellEntry) (ds : List Performed) (m : List ℕ) : Type 0 where
  pub defined : All (AsDefined N) ds
  pub reported : EachWith Reports r ds
  pub nearest : EachWith TellsNearest r ds
  pub emptiness : EachWith TellsEmpty r ds
  pub agrees : Agrees N m (record_from r ds)

pub list_claim : (N : ℕ) (ds : List Performed) (r : List CellEntry) (m m' : List ℕ) → Agrees N m r → All ByContract ds → Linked m ds m' → ListClaim N r ds m'
unfolding All Linked EachWith record_of
list_claim N [] r m m' g p l = record {
  defined = tt;
  reported = tt;
  nearest = tt;
  emptiness = tt;
  agrees = subst (λ x. Agrees N x r) (sym l) g;
}
list_claim N (d ∷ ds) r m m' g p l =
    let c = call_claim N r d (subst (λ x. Agrees N x r) (sym l.0) g) p.0 in
    let n = list_claim N ds (fed r d.call (accepted d.reply)) d.after m' c.agrees p.1 l.1 in
    record {
      defined = (c.defined, n.defined);
      reported = (c.report, n.reported);
      nearest = (c.nearest, n.nearest);
      emptiness = (c.emptiness, n.emptiness);
      agrees = n.agrees;
    }

-- An accepted point query, on any memory.
visits_by : (k : IndexCall) (d : Performed) → ByContractOf k d → PointVisits k d.before d.reply
visits_by (insert_call e) d p = tt
visits_by (remove_call c) d p = tt
visits_by clear_call d p = tt
visits_by (point_call c) d p = λ f. subst (λ t. VisitsExact d.before c (visits_of t)) (sym p.reply) (point_visits d.before c (ap accepted (sym p.reply) ∙ f))
visits_by (window_call w) d p = tt
visits_by (nearest_call c) d p = tt
visits_by (empty_call w) d p = tt

pub call_visits : (d : Performed) → ByContract d → PointVisits d.call d.before d.reply
call_visits d p = visits_by d.call d p

pub all_visits : (ds : List Performed) → All ByContract ds → All (λ d. PointVisits d.call d.before d.reply) ds
unfolding All
all_visits [] p = tt
all_visits (d ∷ ds) p = (call_visits d p.0, all_visits ds p.1)

-- An accepted insertion, on any memory.
removed_by_lem : (k : IndexCall) (d : Performed) → ByContractOf k d → RemovedBy k d.before d.reply
removed_by_lem (insert_call e) d p = λ f.
    let a = p.reply ∙ ap insert_reply p.contract.answer in
    subst (RemovedExact d.before e.cell) (sym a)
    (insert_removed d.before e (length d.lent) (ap accepted (sym a) ∙ f))
removed_by_lem (remove_call c) d p = tt
removed_by_lem clear_call d p = tt
removed_by_lem (point_call c) d p = tt
removed_by_lem (window_call w) d p = tt
removed_by_lem (nearest_call c) d p = tt
removed_by_lem (empty_call w) d p = tt

pub all_removed : (ds : List Performed) → All ByContract ds → All (λ d. RemovedBy d.call d.before d.reply) ds
unfolding All
all_removed [] p = tt
all_removed (d ∷ ds) p = (removed_by_lem d.call d p.0, all_removed ds p.1)

-- Demand 3.
pub kept_history : (N : ℕ) → 1 ≤ N → N ≤ 256 → (ds : List Performed) (m : List ℕ) → All ByContract ds → Linked (fresh_memory N) ds m → HistoryClaim N ds m
kept_history N a b ds m p l =
    let c = list_claim N ds [] (fresh_memory N) m (fresh_agrees N a b) p l in
    let g = c.agrees in
    let t = index_claim index_space (plane_space_laws fanout) (plane_steps fanout one_fits) index_root
    (plane_root_laws fanout) two_fit index_window N (plane_window_laws fanout) g.index (record_from [] ds) g.state in
    record {
      answers = c.defined;
      index = g.index;
      reads = g.holds.reads;
      sound = t.sound;
      room = t.room;
      separate = t.separate;
      within = t.within;
      deep = t.deep;
      entries_same = t.entries_same;
      entries_once = t.entries_once;
      one_leaf = t.one_leaf;
      covers = t.covers;
      reported = c.reported;
      visits = all_visits ds p;
      removed = all_removed ds p;
      nearest = c.nearest;
      emptiness = c.emptiness;
    }
