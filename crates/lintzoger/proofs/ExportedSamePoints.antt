-- Request A.14, 'Two groups, same points', of the calls for C and Rust: by the numbers that they returned, the values
-- that they stored and the lists that they left, from their own contracts (ExportedHistory).
use Prim.Native.Nat.{ℕ, ◌*◌, ◌≤◌}
use mathlib.Core.Bool.{true}
use mathlib.Core.List.{List, [], map, Permᴰ}
use mathlib.Core.Path.{◌≡◌, ap, subst}
use lib.ListN.{length}
use Rattle.geometry.specs.declared.rect.Rect.{Rect}
use Rattle.geometry.specs.Cells.{rect_of, valid}
use Rattle.tree.specs.Calls.{window_call}
use Rattle.plane.specs.Lines.{CellEntry}
use Rattle.answers.specs.Listing.{list_width}
use Rattle.history.specs.Calls.{accepted, record_from}
use Rattle.history.specs.SameAnswers.{FromFresh, Entered, Rearranged, SameAnswer}
use Rattle.history.proofs.SameLists.{kept_same, kept_same_points, kept_room, entered_record}
use Rattle.lintzoger.proofs.ExportedHistory.{Window, Step, windows, made, kept, all_kept}

-- Between any two lists of these calls from fresh indexes whose records are rearrangements of each other every query is
-- answered alike.
pub exported_same_records : (N N' : ℕ) (ss ss' : List Step) (m m' : List ℕ)
    → FromFresh N (map made ss) m → FromFresh N' (map made ss') m'
    → Permᴰ (record_from [] (map made ss)) (record_from [] (map made ss'))
    → (s s' : Step) → (made s).before ≡ m → (made s').before ≡ m' → (made s).call ≡ (made s').call
    → SameAnswer (made s) (made s')
exported_same_records N N' ss ss' m m' l l' r s s' =
    kept_same N N' (map made ss) (map made ss') m m' l (all_kept ss) l' (all_kept ss') r
    (made s) (made s') (kept s) (kept s')

-- the window that the corners of a window query give
abbrev pub window_of : Window → Rect
window_of s = rect_of s.args.1.0 s.args.1.1.0 s.args.1.1.1.0 s.args.1.1.1.1.0

-- A window query after accepted insertions from a fresh index returned 0 if the window is valid and the result list has
-- room for all entries, three numbers each.
pub exported_room_accepted : (N : ℕ) (ss : List Step) (m : List ℕ) (es : List CellEntry)
    → FromFresh N (map made ss) m → Entered (map made ss) es
    → (s : Window) → s.args.0.now ≡ m → valid (window_of s) ≡ true → list_width * length es ≤ length (made (windows s)).lent
    → accepted (made (windows s)).reply ≡ true
exported_room_accepted N ss m es l x s h g n =
    kept_room N (map made ss) m l (all_kept ss) (window_of s) (made (windows s)) (kept (windows s)) h g
    (rw (entered_record (map made ss) es x) n)

-- "between two lists of insertions that are rearrangements of each other, all accepted, from fresh indexes"
module _ (N N' : ℕ) (ss ss' : List Step) (m m' : List ℕ) (es es' : List CellEntry)
    (l : FromFresh N (map made ss) m) (x : Entered (map made ss) es)
    (l' : FromFresh N' (map made ss') m') (x' : Entered (map made ss') es') (r : Permᴰ es es') where
  -- every query of the one is answered as the same query of the other
  pub exported_same_points : (s s' : Step) → (made s).before ≡ m → (made s').before ≡ m' → (made s).call ≡ (made s').call
      → SameAnswer (made s) (made s')
  exported_same_points s s' =
      kept_same_points N N' (map made ss) (map made ss') m m' es es' l (all_kept ss) x l' (all_kept ss') x' r
      (made s) (made s') (kept s) (kept s')

  -- "every window query given a list long enough": a valid window, and room for all entries in both result lists
  pub exported_same_windows : (s s' : Window) → s.args.0.now ≡ m → s'.args.0.now ≡ m' → window_of s ≡ window_of s'
      → valid (window_of s) ≡ true
      → list_width * length es ≤ length (made (windows s)).lent → list_width * length es' ≤ length (made (windows s')).lent
      → Rearranged (made (windows s)) (made (windows s'))
  exported_same_windows s s' h h' w g n n' =
      (exported_same_points (windows s) (windows s') h h' (ap window_call w)).written
      (exported_room_accepted N ss m es l x s h g n)
      (exported_room_accepted N' ss' m' es' l' x' s' h' (subst (λ v. valid v ≡ true) w g) n')
