-- Two memories whose indexes hold the same entries in any order: queries that kept their contracts answer alike.
use Prim.Native.Nat.{ℕ, ◌≤◌}
use mathlib.Core.Bool.{Bool, true, false, cond}
use mathlib.Core.List.{List, [], ◌∷◌}
use mathlib.Core.Option.{Option, none, some}
use mathlib.Core.Path.{◌≡◌, refl, sym, ap, ◌∙◌}
use native.Mathlib.Omega.{arith}
use lib.Dec.{eqb}
use lib.ListN.{length}
use Rattle.geometry.specs.declared.rect.Cell.{Cell}
use Rattle.geometry.specs.declared.rect.Rect.{Rect}
use Rattle.geometry.specs.Cells.{on_grid, valid}
use Rattle.tree.specs.Lists.{count_of, Bag}
use Rattle.tree.specs.Tree.{entries}
use Rattle.tree.specs.Query.{of_cell, holds, entry_at, visits, matching}
use Rattle.tree.specs.Nearest.{nearest, walk}
use Rattle.tree.specs.Calls.{insert_call, remove_call, clear_call, point_call, window_call, nearest_call, empty_call}
use Rattle.tree.proofs.Bags.{bag_keep, bag_length}
use Rattle.tree.proofs.Leaves.{cell_once}
use Rattle.tree.proofs.SameEntries.{same_matches, same_entry}
use Rattle.tree.proofs.NearestSame.{same_nearest}
use Rattle.plane.specs.Lines.{CellEntry}
use Rattle.plane.specs.Fanout.{fanout, index_space, index_root, index_window, PlaneIndex}
use Rattle.plane.proofs.Rects.{plane_space_laws}
use Rattle.memory.specs.Reading.{reading}
use Rattle.answers.specs.Answers.{matches_in, point_end, point_read, point_answer, nearest_end, nearest_read, nearest_answer, empty_read, empty_answer}
use Rattle.answers.specs.Numbers.{point_reply, nearest_reply, empty_reply}
use Rattle.std.specs.Prelude.{Ok, Err}
use Rattle.answers.specs.declared.answer.Refusal.TheVariants as R
use Rattle.history.specs.Calls.{IndexCall, Performed, with_room}
use Rattle.history.specs.Contract.{WindowByContract, ByContractOf}
use Rattle.history.specs.SameAnswers.{without, SameButVisits, SameWindow, SameBy}
use Rattle.history.proofs.Visits.{reads_sound, reads_right}
use Rattle.history.proofs.Windows.{reply_by, matched, fits, window_reply_lem, window_wrote}
use Rattle.history.proofs.Emptiness.{is_empty, empty_visits, yes_exact}

-- the entries that an index holds
abbrev held : PlaneIndex → List CellEntry
held i = entries index_space i

-- the entry's cell is in the window
abbrev inside : Rect → CellEntry → Bool
inside w = matching index_space index_window w

-- Two memories that hold indexes with the same entries.
module _ (m m' : List ℕ) (i j : PlaneIndex) (e : reading fanout m ≡ some i) (f : reading fanout m' ≡ some j)
    (same : Bag (held i) (held j)) where
  -- no cell is held twice
  once : (c : Cell) → count_of (of_cell index_space c) (held i) ≤ 1
  once c =
      let h = cell_once index_space (plane_space_laws fanout) index_root i (reads_sound m i e) c in
      go (holds index_space c i) h
    where
      go : (b : Bool) → count_of (of_cell index_space c) (held i) ≡ cond b 1 0
          → count_of (of_cell index_space c) (held i) ≤ 1
      go true k = omega arith
      go false k = omega arith

  point_reply_same : (c : Cell) → SameButVisits 1 (point_reply (point_answer m c)) (point_reply (point_answer m' c))
  unfolding point_answer point_read point_end
  point_reply_same c =
      let k : entry_at index_space c i ≡ entry_at index_space c j =
      same_entry index_space (plane_space_laws fanout) (held i) (held j) same c (once c) in
      rw (reads_right m i e, e, reads_right m' j f, f, ← k)
      (go (on_grid c) (entry_at index_space c i)
      (visits index_space c i) (visits index_space c j))
    where
      go : (a : Bool) (o : Option CellEntry) (v v' : ℕ)
          → SameButVisits 1 (point_reply (cond a (Ok (point_end o v)) (Err R.Invalid))) (point_reply (cond a (Ok (point_end o v')) (Err R.Invalid)))
      go false o v v' = record { number = refl; values = refl }
      go true none v v' = record { number = refl; values = refl }
      go true (some n) v v' = record { number = refl; values = refl }

  nearest_reply_same : (c : Cell) → SameButVisits 4 (nearest_reply (nearest_answer m c)) (nearest_reply (nearest_answer m' c))
  unfolding nearest_answer nearest_read nearest_end
  nearest_reply_same c =
      let k : nearest index_space c i ≡ nearest index_space c j =
      same_nearest index_space (plane_space_laws fanout) c (held i) (held j) same once in
      rw (reads_right m i e, e, reads_right m' j f, f, ← k)
      (go (on_grid c) (nearest index_space c i)
      (walk index_space c i).entered (walk index_space c j).entered)
    where
      go : (a : Bool) (o : Option CellEntry) (v v' : ℕ)
          → SameButVisits 4 (nearest_reply (cond a (nearest_end c o v) (Err R.Invalid)))
          (nearest_reply (cond a (nearest_end c o v') (Err R.Invalid)))
      go false o v v' = record { number = refl; values = refl }
      go true none v v' = record { number = refl; values = refl }
      go true (some n) v v' = record { number = refl; values = refl }

  -- a window has as many matches in both
  as_many : (w : Rect) → length (matches_in w i) ≡ length (matches_in w j)
  as_many w = bag_length (matches_in w i) (matches_in w j) (bag_keep (inside w) (held i) (held j) same)

  empty_reply_same : (w : Rect) → SameButVisits 1 (empty_reply (empty_answer m w)) (empty_reply (empty_answer m' w))
  unfolding empty_answer empty_read
  empty_reply_same w =
      let k : is_empty w i ≡ is_empty w j =
      yes_exact m w i e ∙ ap (λ n. eqb n 0) (as_many w) ∙ sym (yes_exact m' w j f) in
      rw (reads_right m i e, e, reads_right m' j f, f, ← k)
      (go (valid w) (is_empty w i) (empty_visits w i) (empty_visits w j))
    where
      go : (a t : Bool) (v v' : ℕ)
          → SameButVisits 1 (empty_reply (cond a (Ok (record { empty = t; visits = v })) (Err R.Invalid)))
          (empty_reply (cond a (Ok (record { empty = t; visits = v' })) (Err R.Invalid)))
      go false t v v' = record { number = refl; values = refl }
      go true t v v' = record { number = refl; values = refl }

  -- the number and the matches of two window queries, by the tests of the window and of the two lists
  window_reply_same : (w : Rect) (a b b' : Bool)
      → (with_room (reply_by m w i e a b).number ≡ with_room (reply_by m' w j f a b').number)
      × (without 1 (reply_by m w i e a b).values ≡ without 1 (reply_by m' w j f a b').values)
  unfolding reply_by matched
  window_reply_same w true true true = (refl, ap (λ n. n ∷ []) (as_many w))
  window_reply_same w true true false = (refl, ap (λ n. n ∷ []) (as_many w))
  window_reply_same w true false true = (refl, ap (λ n. n ∷ []) (as_many w))
  window_reply_same w true false false = (refl, ap (λ n. n ∷ []) (as_many w))
  window_reply_same w false b b' = (refl, refl)

  window_same : (w : Rect) (d d' : Performed) → WindowByContract w d → WindowByContract w d' → d.before ≡ m → d'.before ≡ m'
      → SameWindow d d'
  window_same w d d' p p' h h' =
      let t = window_reply_lem m w i e d p h in
      let t' = window_reply_lem m' w j f d' p' h' in
      let r = window_reply_same w (valid w) (fits m w i e d p h) (fits m' w j f d' p' h') in
      record {
        number = ap (λ x. with_room x.number) t ∙ r.0 ∙ ap (λ x. with_room x.number) (sym t');
        matches = ap (λ x. without 1 x.values) t ∙ r.1 ∙ ap (λ x. without 1 x.values) (sym t');
        written = λ g g'. record {
          entries = matches_in w i;
          entries' = matches_in w j;
          wrote = window_wrote m w i e d p h g;
          wrote' = window_wrote m' w j f d' p' h' g';
          rearranged =
              same_matches index_space (plane_space_laws fanout) (held i) (held j) same index_window w;
        };
      }

  -- Two calls with the same arguments, of these memories, that kept their contracts.
  pub same_by : (k : IndexCall) (d d' : Performed) → ByContractOf k d → ByContractOf k d' → d.before ≡ m → d'.before ≡ m'
      → SameBy k d d'
  same_by (insert_call x) d d' p p' h h' = tt
  same_by (remove_call c) d d' p p' h h' = tt
  same_by clear_call d d' p p' h h' = tt
  same_by (point_call c) d d' p p' h h' = rw (p.reply, p'.reply, h, h') (point_reply_same c)
  same_by (window_call w) d d' p p' h h' = window_same w d d' p p' h h'
  same_by (nearest_call c) d d' p p' h h' = rw (p.reply, p'.reply, h, h') (nearest_reply_same c)
  same_by (empty_call w) d d' p p' h h' = rw (p.reply, p'.reply, h, h') (empty_reply_same w)
