-- The returns of the window query, and the list that it leaves.
use Prim.Native.Nat.{ℕ, suc, ◌+◌, ◌*◌, ◌≤◌, ◌<◌}
use mathlib.Core.Path.{◌≡◌, sym, ap, ◌∙◌}
use mathlib.Core.Bool.{Bool, true, false, not}
use mathlib.Core.List.{List, [], ◌∷◌, ◌++◌, flat_map, append_assoc}
use mathlib.Core.Option.{none, some}
use native.Mathlib.Omega.{arith}
use borrow.Author.Tests.{not-true, not-false, le-leb, lt-leb}
use lib.Dec.{leb}
use lib.ListN.{length, take, drop, length-append, take-append-drop}
use lib.Seq.{sets-eq, take_at, drop-set-lt, length-take-le}
use Rattle.geometry.specs.declared.rect.Rect.{Rect}
use Rattle.geometry.specs.Cells.{valid}
use Rattle.tree.specs.Lists.{keep}
use Rattle.tree.specs.Query.{window_visits}
use Rattle.plane.specs.Lines.{CellEntry}
use Rattle.plane.specs.Fanout.{fanout, index_space, index_window}
use Rattle.memory.specs.Layout.{is_index_length, part, polygon_in}
use Rattle.memory.specs.Reading.{reading}
use Rattle.memory.specs.TreeIn.{TreeIn}
use Rattle.answers.specs.declared.answer.WindowFound.{WindowFound}
use Rattle.std.specs.Prelude.{Result, Ok, Err}
use Rattle.answers.specs.declared.answer.Refusal.{Refusal}
use Rattle.answers.specs.declared.answer.Refusal.TheVariants as R
use Rattle.answers.specs.Answers.{matches_in, window_read, window_written, window_answer, window_list}
use Rattle.answers.specs.Listing.{list_width, listed_numbers, put_listed}
use Rattle.answers.specs.Changes.{WindowCall}
use Rattle.walks.specs.Walks.{meets_test, visits_below, matches_below}
use Rattle.walks.proofs.TreeWalk.{tree_walkable, tree_window_visits, tree_matches}
use Rattle.queries.specs.Window.{matched, put_entries, Listed, WalkRoom, WindowDone}
use Rattle.queries.proofs.WindowWrite.{length_put}

-- one entry put at a place
put_is : (l : List ℕ) (at : ℕ) (e : CellEntry) → list_width * at + list_width ≤ length l → put_listed l at e ≡ take (list_width * at) l ++ listed_numbers e ++ drop (list_width * at + list_width) l
unfolding put_listed listed_numbers
put_is l at e h =
    let a : list_width * at + 1 ≡ suc (list_width * at) = omega arith in
    let b : list_width * at + 2 ≡ suc (suc (list_width * at)) = omega arith in
    rw (a, b) (sets-eq (e.cell.x ∷ e.cell.y ∷ e.tag ∷ []) l (list_width * at) h)

put_take : (l : List ℕ) (at : ℕ) (e : CellEntry) → list_width * at + list_width ≤ length l → take (list_width * (at + 1)) (put_listed l at e) ≡ take (list_width * at) l ++ listed_numbers e
unfolding listed_numbers
put_take l at e h =
    let a = length-take-le (list_width * at) l (omega arith) in
    let n : length (take (list_width * at) l ++ listed_numbers e) ≡ list_width * (at + 1) = rw length-append (omega arith) in
    rw (put_is l at e h) (take_at (take (list_width * at) l ++ listed_numbers e) (drop (list_width * at + list_width) l) (list_width * (at + 1)) n)

put_drop : (l : List ℕ) (at : ℕ) (e : CellEntry) (n : ℕ) → list_width * at + list_width ≤ n → drop n (put_listed l at e) ≡ drop n l
unfolding put_listed
put_drop l at e n h = drop-set-lt n _ _ _ (omega arith) ∙ drop-set-lt n _ _ _ (omega arith) ∙ drop-set-lt n _ _ _ (omega arith)

-- entries put one after another, as a list
puts_are : (l : List ℕ) (at : ℕ) (es : List CellEntry) → list_width * (at + length es) ≤ length l
    → put_entries l at es ≡ take (list_width * at) l ++ (flat_map listed_numbers es ++ drop (list_width * (at + length es)) l)
unfolding put_entries flat_map
puts_are l at [] h =
    let z : at + 0 ≡ at = omega arith in
    rw z (sym (take-append-drop (list_width * at) l))
puts_are l at (e ∷ es) h =
    let n : list_width * (at + 1 + length es) ≤ length (put_listed l at e) = rw (length_put l at e) (omega arith) in
    let q : at + 1 + length es ≡ at + length (e ∷ es) = omega arith in
    puts_are (put_listed l at e) (at + 1) es n
    ∙ rw (put_take l at e (omega arith), put_drop l at e (list_width * (at + 1 + length es)) (omega arith), q) (simp append_assoc)

-- entries put at the start of a list
puts_first : (l : List ℕ) (es : List CellEntry) → list_width * length es ≤ length l → put_entries l 0 es ≡ flat_map listed_numbers es ++ drop (list_width * length es) l
puts_first l es h =
    let z : 0 + length es ≡ length es = omega arith in
    puts_are l 0 es (omega arith) ∙ rw z

module _ (m : List ℕ) (level root : ℕ) (w : Rect) (l : List ℕ) (v : TreeIn m level root) (b : Bool) (e : b ≡ meets_test w (polygon_in (part m root))) where
  -- the root's polygon shares no cell with the window
  pub window_outside : not b ≡ true → WindowDone m w l l (Ok (record { matches = 0; visits = 0 }))
  unfolding window_read window_written flat_map
  window_outside f =
      let g : meets_test w (polygon_in (part m root)) ≡ false = sym e ∙ not-true b f in
      let x : matches_in w (some v.tree) ≡ [] = sym (tree_matches m level root v w) ∙ rw g in
      let y : window_visits index_space index_window w (some v.tree) ≡ 0 = sym (tree_window_visits m level root v w) ∙ rw g in
      let z : leb 0 (length l) ≡ true = le-leb 0 (length l) (omega arith) in
      record { answer = rw (v.reads, x, y, z); list = rw (v.reads, x, z) }

  module _ (f : not b ≡ false) (d : WindowFound) (g : d ≡ matched (matches_below w level m 0 root) (visits_below (meets_test w) level m 0 root)) where
    matches_are : matches_in w (some v.tree) ≡ matches_below w level m 0 root
    matches_are =
        let h : meets_test w (polygon_in (part m root)) ≡ true = sym e ∙ not-false b f in
        sym (tree_matches m level root v w) ∙ rw h

    visits_are : window_visits index_space index_window w (some v.tree) ≡ visits_below (meets_test w) level m 0 root
    visits_are =
        let h : meets_test w (polygon_in (part m root)) ≡ true = sym e ∙ not-false b f in
        sym (tree_window_visits m level root v w) ∙ rw h

    count_is : d.matches ≡ length (matches_below w level m 0 root)
    unfolding matched
    count_is = ap (λ r. r.matches) g

    visits_is : d.visits ≡ visits_below (meets_test w) level m 0 root
    unfolding matched
    visits_is = ap (λ r. r.visits) g

    -- the list is too short
    pub window_short : length l < list_width * d.matches → WindowDone m w l l (Err (R.ShortList d.matches))
    unfolding window_read window_written
    window_short h =
        let c = count_is in
        let z : leb (list_width * length (matches_below w level m 0 root)) (length l) ≡ false = lt-leb _ _ (rw c at h) in
        record { answer = rw (v.reads, matches_are, z, c); list = rw (v.reads, matches_are, z) }

    pub window_room : list_width * d.matches ≤ length l → WalkRoom level m 0 root w l 0
    window_room h =
        let c = count_is in
        record { walk = tree_walkable m level root v; room = omega arith }

    pub window_written_lem : (l' : List ℕ) (next : ℕ) → list_width * d.matches ≤ length l → Listed l 0 (matches_below w level m 0 root) l' next
        → WindowDone m w l l' (Ok d)
    unfolding window_read window_written
    window_written_lem l' next h q =
        let c = count_is in
        let s = visits_is in
        let k : list_width * length (matches_below w level m 0 root) ≤ length l = rw c at h in
        let z : leb (list_width * length (matches_below w level m 0 root)) (length l) ≡ true = le-leb _ _ k in
        record {
          answer = rw (v.reads, matches_are, visits_are, z, c, s);
          list = q.list ∙ puts_first l _ k ∙ rw (v.reads, matches_are, z);
        }

-- a memory that was opened as the empty index
pub window_empty : (m : List ℕ) (w : Rect) (l : List ℕ) → reading fanout m ≡ some none → WindowDone m w l l (Ok (record { matches = 0; visits = 0 }))
unfolding window_read window_written keep flat_map
window_empty m w l p =
    let z : leb 0 (length l) ≡ true = le-leb 0 (length l) (omega arith) in
    record { answer = rw (p, z); list = rw (p, z) }

-- a call on a memory of a right length and a window, tested
pub window_tested : (m : List ℕ) (w : Rect) (l : List ℕ) → is_index_length m ≡ true → (g : Bool) → g ≡ valid w → not g ≡ false
    → (l' : List ℕ) (r : Result WindowFound Refusal) → WindowDone m w l l' r → WindowCall m w l l' r
unfolding window_answer window_list
window_tested m w l e g h k l' r q =
    record { answer = rw (e, ← h, not-false g k) q.answer; list = rw (e, ← h, not-false g k) q.list }
