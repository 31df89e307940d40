-- Request A.14, 'Two groups, same points', of the shipped functions themselves: insertions and queries are the steps of
-- demand 3's theorem (Shipped), each with its function's own contract.
use Prim.Native.Nat.{ℕ, ◌*◌, ◌≤◌}
use mathlib.Core.Bool.{true}
use mathlib.Core.List.{List, [], map, Permᴰ}
use mathlib.Core.Path.{◌≡◌, ap, subst}
use lib.ListN.{length}
use Rattle.geometry.specs.Cells.{valid}
use Rattle.tree.specs.Calls.{window_call}
use Rattle.plane.specs.Lines.{CellEntry}
use Rattle.answers.specs.Listing.{list_width}
use Rattle.answers.specs.Numbers.{window_reply}
use Rattle.history.specs.Calls.{accepted, record_from}
use Rattle.history.specs.SameAnswers.{FromFresh, Entered, Rearranged, SameAnswer}
use Rattle.history.proofs.SameLists.{kept_same, kept_same_points, kept_room, entered_record}
use Rattle.history.proofs.Shipped.{Window, Step, windows, made, kept, all_kept}

-- Between any two lists of calls from fresh indexes whose records are rearrangements of each other every query is
-- answered alike, whatever was refused, removed and entered again on the way.
pub same_records : (N N' : ℕ) (ss ss' : List Step) (m m' : List ℕ)
    → FromFresh N (map made ss) m → FromFresh N' (map made ss') m'
    → Permᴰ (record_from [] (map made ss)) (record_from [] (map made ss'))
    → (s s' : Step) → (made s).before ≡ m → (made s').before ≡ m' → (made s).call ≡ (made s').call
    → SameAnswer (made s) (made s')
same_records N N' ss ss' m m' l l' r s s' =
    kept_same N N' (map made ss) (map made ss') m m' l (all_kept ss) l' (all_kept ss') r
    (made s) (made s') (kept s) (kept s')

-- A window query after accepted insertions from a fresh index is accepted if the window is valid and the result list
-- has room for all entries, three numbers each.
pub room_accepted : (N : ℕ) (ss : List Step) (m : List ℕ) (es : List CellEntry)
    → FromFresh N (map made ss) m → Entered (map made ss) es
    → (s : Window) → s.args.0.now ≡ m → valid s.args.1.0 ≡ true
    → list_width * length es ≤ length s.args.1.1.0.now
    → accepted (window_reply s.out) ≡ true
room_accepted N ss m es l x s h g n =
    kept_room N (map made ss) m l (all_kept ss) s.args.1.0 (made (windows s)) (kept (windows s)) h g
    (rw (entered_record (map made ss) es x) n)

-- "between two lists of insertions that are rearrangements of each other, all accepted, from fresh indexes"
module _ (N N' : ℕ) (ss ss' : List Step) (m m' : List ℕ) (es es' : List CellEntry)
    (l : FromFresh N (map made ss) m) (x : Entered (map made ss) es)
    (l' : FromFresh N' (map made ss') m') (x' : Entered (map made ss') es') (r : Permᴰ es es') where
  -- every query of the one is answered as the same query of the other
  pub same_points : (s s' : Step) → (made s).before ≡ m → (made s').before ≡ m' → (made s).call ≡ (made s').call
      → SameAnswer (made s) (made s')
  same_points s s' =
      kept_same_points N N' (map made ss) (map made ss') m m' es es' l (all_kept ss) x l' (all_kept ss') x' r
      (made s) (made s') (kept s) (kept s')

  -- "every window query given a list long enough": a valid window, and room for all entries in both result lists
  pub same_windows : (s s' : Window) → s.args.0.now ≡ m → s'.args.0.now ≡ m' → s.args.1.0 ≡ s'.args.1.0
      → valid s.args.1.0 ≡ true
      → list_width * length es ≤ length s.args.1.1.0.now → list_width * length es' ≤ length s'.args.1.1.0.now
      → Rearranged (made (windows s)) (made (windows s'))
  same_windows s s' h h' w g n n' =
      (same_points (windows s) (windows s') h h' (ap window_call w)).written
      (room_accepted N ss m es l x s h g n)
      (room_accepted N' ss' m' es' l' x' s' h' (subst (λ v. valid v ≡ true) w g) n')
