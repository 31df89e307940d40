-- Index and record go on together from call to call: the tree's laws, with the tests that come before the tree is looked at.
use Prim.Native.Nat.{ℕ, ◌+◌, ◌*◌, ◌≤◌}
use mathlib.Core.Bool.{Bool, true, false, cond, false≢true}
use mathlib.Core.List.{List}
use mathlib.Core.Option.{Option, none, some}
use mathlib.Core.Path.{◌≡◌, refl, sym, ap, ◌∙◌, subst}
use native.Mathlib.Omega.{arith}
use lib.Dec.{leb, eqb}
use lib.ListN.{length}
use Rattle.geometry.specs.declared.rect.Cell.{Cell}
use Rattle.geometry.specs.declared.rect.Rect.{Rect}
use Rattle.geometry.specs.Cells.{on_grid}
use Rattle.tree.specs.Lists.{nth}
use Rattle.tree.specs.Tree.{Tree, node_count, entries}
use Rattle.tree.specs.Insert.{Outcome, refused, limited, insert_tree, accepted as accepted_as}
use Rattle.tree.specs.Remove.{remove}
use Rattle.tree.specs.Query.{holds, entry_at, visits}
use Rattle.tree.specs.Nearest.{nearest, walk}
use Rattle.tree.specs.Calls.{insert_call, remove_call, clear_call, point_call, window_call, nearest_call, empty_call, is_accepted, outcome_answer, inserted, reports as reports_held, Answer, insertion, removal, nearest_end, answer, point_answer as point_found}
use Rattle.tree.specs.Record.{recorded}
use Rattle.tree.specs.Claim.{Reported, OnGrid}
use Rattle.tree.proofs.Claim.{State, refused_step, call_step}
use Rattle.plane.specs.Lines.{CellEntry}
use Rattle.plane.specs.Fanout.{fanout, index_space, index_root, index_window, PlaneIndex}
use Rattle.plane.proofs.Rects.{plane_space_laws}
use Rattle.plane.proofs.Roots.{plane_root_laws}
use Rattle.plane.proofs.Steps.{plane_steps}
use Rattle.answers.specs.Answers.{cells_removed}
use Rattle.answers.specs.declared.reply.Reply.{Reply}
use Rattle.answers.specs.Numbers.{refusal}
use Rattle.history.specs.Calls.{IndexCall, accepted, is_change, fed}
use Rattle.history.specs.Claim.{held_of}
use Rattle.history.specs.Defined.{early, reply_of, tree_answer, tree_after, reply_on, index_after}

pub one_fits : 1 ≤ fanout
one_fits = omega arith

pub two_fit : 2 ≤ fanout
two_fit = omega arith

-- the index i is sound, has at most N nodes, and holds the entries of the record r
abbrev pub PlaneState : ℕ → PlaneIndex → List CellEntry → Type 0
PlaneState N i r = State index_space (plane_space_laws fanout) (plane_steps fanout one_fits) index_root (plane_root_laws fanout) two_fit index_window N i r

module _ (N : ℕ) (i : PlaneIndex) (len : ℕ) where
  -- a call that passed the early tests has its cell on the grid
  on_grid_lem : (k : IndexCall) → eqb (early N k len) 0 ≡ true → OnGrid index_space index_window k
  unfolding early
  on_grid_lem (insert_call e) f = go (eqb len (64 + 128 * N)) (on_grid e.cell) f
    where
      go : (a b : Bool) → eqb (cond a (cond b 0 3) 2) 0 ≡ true → b ≡ true
      go a true f = refl
      go true false f = absurd (false≢true f)
      go false false f = absurd (false≢true f)
  on_grid_lem (remove_call c) f = tt
  on_grid_lem clear_call f = tt
  on_grid_lem (point_call c) f = tt
  on_grid_lem (window_call w) f = tt
  on_grid_lem (nearest_call c) f = tt
  on_grid_lem (empty_call w) f = tt

  -- an insertion is accepted by its number exactly where the tree's answer accepts
  insert_accepts : (n : ℕ) (c : Bool) (t : Option (Tree index_space))
      → accepted (reply_of len (outcome_answer index_space (λ h. inserted h n) (cond c (refused 5) (limited index_space N t))))
      ≡ is_accepted (outcome_answer index_space (λ h. inserted h n) (cond c (refused 5) (limited index_space N t)))
  unfolding reply_of
  insert_accepts n true t = refl
  insert_accepts n false none = refl
  insert_accepts n false (some t) = go (leb (node_count index_space (some t)) N)
    where
      go : (d : Bool) → accepted (reply_of len (outcome_answer index_space (λ h. inserted h n) (cond d (accepted_as (some t)) (refused 8))))
          ≡ is_accepted (outcome_answer index_space (λ h. inserted h n) (cond d (accepted_as (some t)) (refused 8)))
      go true = refl
      go false = refl

  -- the same of an insertion of an entry into the index
  insertion_accepts : (e : CellEntry) → accepted (reply_of len (tree_answer N i (insert_call e))) ≡ is_accepted (tree_answer N i (insert_call e))
  unfolding answer
  insertion_accepts e =
      insert_accepts (cells_removed i e.cell) (holds index_space e.cell i)
      (insert_tree index_space index_root i e)

  -- so is a removal
  remove_accepts : (c : Bool) (j : PlaneIndex) → accepted (reply_of len (outcome_answer index_space reports_held (cond c (accepted_as j) (refused 6))))
      ≡ is_accepted (outcome_answer index_space reports_held (cond c (accepted_as j) (refused 6)))
  unfolding reply_of
  remove_accepts true j = refl
  remove_accepts false j = refl

  -- so is a nearest query
  nearest_accepts : (c : Cell) (o : Option CellEntry) (v : ℕ) → accepted (reply_of len (nearest_end index_space c o v))
      ≡ is_accepted (nearest_end index_space c o v)
  unfolding reply_of
  nearest_accepts c none v = refl
  nearest_accepts c (some e) v = refl

  -- the record is fed the same by the number as by the tree's answer
  fed_point : (r : List CellEntry) (k : IndexCall) (o : Option CellEntry) (v : ℕ) → fed r k true ≡ fed r k (accepted (reply_of len (point_found o v)))
  unfolding reply_of
  fed_point r k none v = refl
  fed_point r k (some e) v = refl

  fed_window : (r : List CellEntry) (w : Rect) (b : Bool) → fed r (window_call w) true ≡ fed r (window_call w) b
  unfolding recorded
  fed_window r w true = refl
  fed_window r w false = refl

  fed_same : (r : List CellEntry) (k : IndexCall) → fed r k (is_accepted (tree_answer N i k))
      ≡ fed r k (accepted (reply_of len (tree_answer N i k)))
  unfolding answer reply_of
  fed_same r (insert_call e) = ap (fed r (insert_call e)) (sym (insertion_accepts e))
  fed_same r (remove_call c) = ap (fed r (remove_call c)) (sym (remove_accepts (holds index_space c i) (remove index_space c i)))
  fed_same r clear_call = refl
  fed_same r (point_call c) = fed_point r (point_call c) (entry_at index_space c i) (visits index_space c i)
  fed_same r (window_call w) = fed_window r w _
  fed_same r (nearest_call c) = ap (fed r (nearest_call c)) (sym (nearest_accepts c (nearest index_space c i) (walk index_space c i).entered))
  fed_same r (empty_call w) = refl

  -- the entries reported, where f reports them of every number of entries
  outcome_reports : (f : ℕ → Answer index_space)
      → ((n : ℕ) (r : List CellEntry) → Reported index_space (f n) r → held_of (reply_of len (f n)) ≡ some (length r))
      → (o : Outcome index_space) (r : List CellEntry) → Reported index_space (outcome_answer index_space f o) r
      → accepted (reply_of len (outcome_answer index_space f o)) ≡ is_accepted (outcome_answer index_space f o)
      → accepted (reply_of len (outcome_answer index_space f o)) ≡ true
      → held_of (reply_of len (outcome_answer index_space f o)) ≡ some (length r)
  outcome_reports f h (refused k) r g e t = absurd (false≢true (sym e ∙ t))
  outcome_reports f h (accepted_as j) r g e t = h (length (entries index_space j)) r g

  -- of a call that passed the early tests
  reports : (r : List CellEntry) (k : IndexCall) → Reported index_space (tree_answer N i k) r
      → accepted (reply_of len (tree_answer N i k)) ≡ true → is_change k ≡ true
      → held_of (reply_of len (tree_answer N i k)) ≡ some (length r)
  unfolding answer reply_of nth
  reports r (insert_call e) g f c =
      outcome_reports (λ n. inserted n (cells_removed i e.cell)) (λ n l h. ap some h) (insertion index_space index_root N i e) r g
      (insertion_accepts e) f
  reports r (remove_call c) g f d =
      outcome_reports reports_held (λ n l h. ap some h) (removal index_space i c) r g (remove_accepts (holds index_space c i) (remove index_space c i)) f
  reports r clear_call g f c = ap some g
  reports r (point_call c) g f d = absurd (false≢true d)
  reports r (window_call w) g f d = absurd (false≢true d)
  reports r (nearest_call c) g f d = absurd (false≢true d)
  reports r (empty_call w) g f d = absurd (false≢true d)

  -- What is carried on by a call that replied t and left the index j.
  pub record Goes (r : List CellEntry) (k : IndexCall) (j : PlaneIndex) (t : Reply) : Type 0 where
    pub state : PlaneState N j (fed r k (accepted t))
    pub report : accepted t ≡ true → is_change k ≡ true → held_of t ≡ some (length (fed r k (accepted t)))

  -- a call that failed an early test
  goes_early : (r : List CellEntry) (k : IndexCall) (n : ℕ) → PlaneState N i r → eqb n 0 ≡ false → Goes r k i (refusal n)
  goes_early r k n s f = record {
    state = rw f (refused_step index_space (plane_space_laws fanout) (plane_steps fanout one_fits) index_root (plane_root_laws fanout) two_fit index_window N i r k n s).state;
    report = λ g. absurd (false≢true (sym f ∙ g));
  }

  -- a call that passed them
  goes_on : (r : List CellEntry) (k : IndexCall) → PlaneState N i r → eqb (early N k len) 0 ≡ true
      → Goes r k (tree_after N i k) (reply_of len (tree_answer N i k))
  goes_on r k s f =
      let p = call_step index_space (plane_space_laws fanout) (plane_steps fanout one_fits) index_root (plane_root_laws fanout) two_fit index_window N i r k (on_grid_lem k f) s in
      let e = fed_same r k in
      record {
        state = subst (PlaneState N _) e p.state;
        report = reports (fed r k (accepted (reply_of len (tree_answer N i k)))) k (subst (Reported index_space (tree_answer N i k)) e p.report);
      }

  -- every call
  pub goes : (r : List CellEntry) (k : IndexCall) → PlaneState N i r → Goes r k (index_after N i k len) (reply_on N i k len)
  unfolding reply_on index_after
  goes r k s = go (eqb (early N k len) 0) refl
    where
      go : (b : Bool) → eqb (early N k len) 0 ≡ b
          → Goes r k (cond b (tree_after N i k) i) (cond b (reply_of len (tree_answer N i k)) (refusal (early N k len)))
      go true f = goes_on r k s f
      go false f = goes_early r k (early N k len) s f
