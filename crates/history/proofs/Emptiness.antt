-- The answer of an accepted emptiness query, on any memory, and beside a window query.
use Prim.Native.Nat.{ℕ, ◌*◌, ◌≤◌}
use mathlib.Core.Bool.{Bool, true, false, cond, false≢true}
use mathlib.Core.List.{List}
use mathlib.Core.Option.{Option, none, some}
use mathlib.Core.Path.{◌≡◌, refl, sym, ap, ◌∙◌}
use lib.Dec.{leb, eqb}
use lib.ListN.{length}
use Rattle.geometry.specs.declared.rect.Rect.{Rect}
use Rattle.geometry.specs.Cells.{valid}
use Rattle.tree.specs.Lists.{Bag}
use Rattle.tree.specs.Tree.{entries}
use Rattle.tree.specs.Query as query
use Rattle.tree.specs.Emptiness as tree
use Rattle.tree.proofs.Emptiness.{empty_exact, empty_few}
use Rattle.plane.specs.Lines.{CellEntry}
use Rattle.plane.specs.Fanout.{fanout, index_space, index_root, index_window, PlaneIndex}
use Rattle.plane.proofs.Rects.{plane_space_laws}
use Rattle.plane.proofs.Windows.{plane_window_laws}
use Rattle.memory.specs.Layout.{is_index_length}
use Rattle.memory.specs.Reading.{reading}
use Rattle.answers.specs.Listing.{list_width}
use Rattle.answers.specs.Answers.{matches_in, window_read, window_answer, empty_read, empty_answer}
use Rattle.answers.specs.Numbers.{window_reply, empty_reply}
use Rattle.std.specs.Prelude.{Ok, Err}
use Rattle.answers.specs.declared.answer.Refusal.TheVariants as R
use Rattle.history.specs.Calls.{accepted}
use Rattle.history.specs.Emptiness.{EmptyExact, EmptyAsWindow}
use Rattle.history.proofs.Visits.{reads_sound, reads_right, index_held}

-- a refused call is not accepted
never : {A : Type 0} → false ≡ true → A
never f = absurd (false≢true f)

-- of the plane
abbrev pub is_empty : Rect → PlaneIndex → Bool
is_empty w i = tree.is_empty index_space index_window w i

abbrev pub empty_visits : Rect → PlaneIndex → ℕ
empty_visits w i = tree.empty_visits index_space index_window w i

abbrev window_visits : Rect → PlaneIndex → ℕ
window_visits w i = query.window_visits index_space index_window w i

module _ (m : List ℕ) (w : Rect) (i : PlaneIndex) (e : reading fanout m ≡ some i) where
  -- the yes exactly where the index has no match
  pub yes_exact : is_empty w i ≡ eqb (length (matches_in w i)) 0
  yes_exact =
      empty_exact index_space (plane_space_laws fanout) index_root i (reads_sound m i e)
      index_window (plane_window_laws fanout) w

  few : empty_visits w i ≤ window_visits w i
  few =
      empty_few index_space (plane_space_laws fanout) index_root i (reads_sound m i e)
      index_window (plane_window_laws fanout) w

  -- an emptiness query of a valid window is accepted on every memory that holds an index
  pub empty_accepts : valid w ≡ true → accepted (empty_reply (empty_answer m w)) ≡ true
  unfolding empty_answer empty_read
  empty_accepts g = rw (reads_right m i e, g, e)

  -- An accepted one is exact for r, if as many entries of i as of r pass any test.
  pub tells_empty : (r : List CellEntry)
      → Bag (entries index_space i) r
      → accepted (empty_reply (empty_answer m w)) ≡ true → EmptyExact m w r (empty_reply (empty_answer m w))
  unfolding empty_answer empty_read
  tells_empty r same f = rw e (go (is_index_length m) (valid w) (is_empty w i) refl (rw e at f))
    where
      inside : CellEntry → Bool
      inside = query.matching index_space index_window w

      go : (a b t : Bool) → is_empty w i ≡ t
          → accepted (empty_reply (cond a (cond b (Ok (record { empty = t; visits = empty_visits w i })) (Err R.Invalid)) (Err R.WrongLength))) ≡ true
          → EmptyExact m w r (empty_reply (cond a (cond b (Ok (record { empty = t; visits = empty_visits w i })) (Err R.Invalid)) (Err R.WrongLength)))
      go false b t h f = never f
      go true false t h f = never f
      go true true t h f = record {
        empty = t;
        visits = empty_visits w i;
        reply = refl;
        none_inside = sym h ∙ yes_exact ∙ ap (λ n. eqb n 0) (same inside);
        index = i;
        reads = e;
        no_match = sym h ∙ yes_exact;
        exact = refl;
        few = few;
      }

-- An accepted one on any memory: that memory holds an index, and its answer is exact for the entries of that index.
pub empty_on_index : (m : List ℕ) (w : Rect) → accepted (empty_reply (empty_answer m w)) ≡ true
    → (i : PlaneIndex) × (reading fanout m ≡ some i)
    × EmptyExact m w (entries index_space i) (empty_reply (empty_answer m w))
unfolding empty_answer empty_read
empty_on_index m w f =
    let h = index_held empty_reply (empty_read w) (Err R.Invalid) (Err R.WrongLength)
    (is_index_length m) (valid w) (reading fanout m) refl refl refl f in
    (h.0, h.1, tells_empty m w h.0 h.1 (entries index_space h.0) (λ q. refl) f)

-- Beside a window query of the same memory and window, with a result list of any length.
pub empty_as_window : (m : List ℕ) (w : Rect) (len : ℕ)
    → EmptyAsWindow (empty_reply (empty_answer m w)) (window_reply (window_answer m w len))
unfolding empty_answer window_answer empty_read window_read
empty_as_window m w len = go (is_index_length m) (valid w) (reading fanout m) refl
  where
    -- both accept, or the window query lacks room
    accept : (i : PlaneIndex) → reading fanout m ≡ some i → (t : Bool) → is_empty w i ≡ t → (l : Bool)
        → EmptyAsWindow (empty_reply (Ok (record { empty = t; visits = empty_visits w i })))
        (window_reply
        (cond l (Ok (record { matches = length (matches_in w i); visits = window_visits w i })) (Err (R.ShortList (length (matches_in w i))))))
    accept i e t h true = record { number = refl; yes = λ f. rw (← (yes_exact m w i e), h); few = λ f. few m w i e }
    accept i e t h false = record { number = refl; yes = λ f. rw (← (yes_exact m w i e), h); few = λ f. never f }

    go : (a b : Bool) (o : Option PlaneIndex) → reading fanout m ≡ o
        → EmptyAsWindow (empty_reply (cond a (cond b (empty_read w o) (Err R.Invalid)) (Err R.WrongLength)))
        (window_reply (cond a (cond b (window_read w len o) (Err R.Invalid)) (Err R.WrongLength)))
    go false b o e = record { number = refl; yes = λ f. never f; few = λ f. never f }
    go true false o e = record { number = refl; yes = λ f. never f; few = λ f. never f }
    go true true none e = record { number = refl; yes = λ f. never f; few = λ f. never f }
    go true true (some i) e = accept i e (is_empty w i) refl (leb (list_width * length (matches_in w i)) len)
