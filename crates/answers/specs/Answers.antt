-- The answer of each call, from the memory, its arguments and the lengths of the lent lists. 'Tests run in number
-- order; the first that applies is given, and only where its cause holds.'
-- docs/RULES.md 4.23 to 4.26, 5.4 to 5.11, 5.13, 5.18, 7.1, 7.2
use Rattle.std.specs.Prelude.{ℕ, ◌*◌, cond, leb, eqb, length, drop, replicate, Some, None, Result, Ok, Err}
use mathlib.Core.List.{List, ◌++◌, flat_map}
use Rattle.std.proofs.Math.Option.{Option, none, some}
use Rattle.geometry.specs.declared.rect.Cell.{Cell}
use Rattle.geometry.specs.declared.rect.Rect.{Rect}
use Rattle.geometry.specs.Cells.{on_grid, valid}
use Rattle.tree.specs.Tree.{entries}
use Rattle.tree.specs.Insert.{Outcome, refused, accepted}
use Rattle.tree.specs.Removed.{removed_total}
use Rattle.tree.specs.Query.{entry_at, visits, matches, window_visits}
use Rattle.tree.specs.Nearest.{nearest, walk}
use Rattle.tree.specs.Emptiness.{is_empty, empty_visits}
use Rattle.tree.specs.Calls.{insertion, removal}
use Rattle.plane.specs.Lines.{CellEntry}
use Rattle.plane.specs.Fanout.{fanout, index_space, index_root, index_window, PlaneIndex}
use Rattle.memory.specs.Layout.{parts_of, is_index_length}
use Rattle.memory.specs.Reading.{reading}
use Rattle.answers.specs.declared.answer.Refusal.{Refusal}
use Rattle.answers.specs.declared.answer.Refusal.TheVariants as R
use Rattle.answers.specs.declared.answer.Inserted.{Inserted}
use Rattle.answers.specs.declared.answer.PointFound.{PointFound}
use Rattle.answers.specs.declared.answer.WindowFound.{WindowFound}
use Rattle.answers.specs.declared.answer.NearestFound.{NearestFound}
use Rattle.answers.specs.declared.answer.EmptyFound.{EmptyFound}
use Rattle.answers.specs.Listing.{list_width, listed_numbers}

-- A.6: 'the total removed by siblings, summed over all levels', of the insertion of a cell
abbrev pub cells_removed : PlaneIndex → Cell → ℕ
cells_removed i c = removed_total index_space index_root i c

-- how an insertion that removed so many cells ended: 5, 7 and 8 of the table
unfoldable pub insert_end : ℕ → Outcome index_space → Result Inserted Refusal
insert_end removed (refused k) = Err (cond (eqb k 5) R.Held (cond (eqb k 7) R.OverLimit R.TooManyNodes))
insert_end removed (accepted i) = Ok (record { held = length (entries index_space i); removed = removed })

unfoldable pub insert_read : ℕ → CellEntry → Option PlaneIndex → Result Inserted Refusal
insert_read N e none = Err R.NoSoundTree
insert_read N e (some i) = insert_end (cells_removed i e.cell) (insertion index_space index_root N i e)

-- insertion: the index, the length of the work area, the entry. Tests 1, 2, 3, 4, 5, 7, 8
unfoldable pub insert_answer : List ℕ → ℕ → CellEntry → Result Inserted Refusal
insert_answer m work e =
    cond (is_index_length m)
    (cond (eqb work (length m)) (cond (on_grid e.cell) (insert_read (parts_of m) e (reading fanout m))
    (Err R.Invalid)) (Err R.WorkLength))
    (Err R.WrongLength)

-- how a removal ended: 6 of the table
unfoldable pub remove_end : Outcome index_space → Result ℕ Refusal
remove_end (refused k) = Err R.NotHeld
remove_end (accepted i) = Ok (length (entries index_space i))

unfoldable pub remove_read : Cell → Option PlaneIndex → Result ℕ Refusal
remove_read c none = Err R.NoSoundTree
remove_read c (some i) = remove_end (removal index_space i c)

-- removal: the index and the cell. Tests 1, 3, 4, 6
unfoldable pub remove_answer : List ℕ → Cell → Result ℕ Refusal
remove_answer m c =
    cond (is_index_length m) (cond (on_grid c) (remove_read c (reading fanout m)) (Err R.Invalid)) (Err R.WrongLength)

-- 'Clearing needs only a right length.' Test 1
unfoldable pub clear_answer : List ℕ → Result ℕ Refusal
clear_answer m = cond (is_index_length m) (Ok 0) (Err R.WrongLength)

-- 'Clearing turns the whole memory to zeros'; refused, it leaves everything
unfoldable pub cleared : List ℕ → List ℕ
cleared m = cond (is_index_length m) (replicate (length m) 0) m

-- 'held with tag, or not held, and the visits'
unfoldable pub point_end : Option CellEntry → ℕ → PointFound
point_end none v = record { tag = None; visits = v }
point_end (some e) v = record { tag = Some e.tag; visits = v }

unfoldable pub point_read : Cell → Option PlaneIndex → Result PointFound Refusal
point_read c none = Err R.NoSoundTree
point_read c (some i) = Ok (point_end (entry_at index_space c i) (visits index_space c i))

-- point query: the index and the cell. Tests 1, 3, 4
unfoldable pub point_answer : List ℕ → Cell → Result PointFound Refusal
point_answer m c =
    cond (is_index_length m) (cond (on_grid c) (point_read c (reading fanout m)) (Err R.Invalid)) (Err R.WrongLength)

-- the matching entries of a window
abbrev pub matches_in : Rect → PlaneIndex → List CellEntry
matches_in w i = matches index_space index_window w i

unfoldable pub window_read : Rect → ℕ → Option PlaneIndex → Result WindowFound Refusal
window_read w len none = Err R.NoSoundTree
window_read w len (some i) =
    cond (leb (list_width * length (matches_in w i)) len)
    (Ok (record { matches = length (matches_in w i); visits = window_visits index_space index_window w i }))
    (Err (R.ShortList (length (matches_in w i))))

-- window query: the index, the window and the length of the result list. Tests 1, 3, 4, 9
unfoldable pub window_answer : List ℕ → Rect → ℕ → Result WindowFound Refusal
window_answer m w len = cond (is_index_length m)
    (cond (valid w) (window_read w len (reading fanout m)) (Err R.Invalid)) (Err R.WrongLength)

-- 'writes x, y, tag for each matching entry in depth-first order, leaves the rest of the list'; a refused call leaves
-- all of it
unfoldable pub window_written : Rect → Option PlaneIndex → List ℕ → List ℕ
window_written w none list = list
window_written w (some i) list =
    cond (leb (list_width * length (matches_in w i)) (length list))
    (flat_map listed_numbers (matches_in w i) ++ drop (list_width * length (matches_in w i)) list) list

unfoldable pub window_list : List ℕ → Rect → List ℕ → List ℕ
window_list m w list = cond (is_index_length m) (cond (valid w) (window_written w (reading fanout m) list) list) list

-- 'The answer is the entry, the squared distance and the number of nodes entered.' '10, nothing is held'
unfoldable pub nearest_end : Cell → Option CellEntry → ℕ → Result NearestFound Refusal
nearest_end c none v = Err R.NothingHeld
nearest_end c (some e) v =
    Ok (record { x = e.cell.x; y = e.cell.y; tag = e.tag; distance = index_space.distance c e.cell; visits = v })

-- the entry by a look at all of them, the nodes entered by the walk
unfoldable pub nearest_read : Cell → Option PlaneIndex → Result NearestFound Refusal
nearest_read c none = Err R.NoSoundTree
nearest_read c (some i) = nearest_end c (nearest index_space c i) (walk index_space c i).entered

-- nearest query: the index and the cell. Tests 1, 3, 4, 10
unfoldable pub nearest_answer : List ℕ → Cell → Result NearestFound Refusal
nearest_answer m c =
    cond (is_index_length m) (cond (on_grid c) (nearest_read c (reading fanout m)) (Err R.Invalid)) (Err R.WrongLength)

-- 'a yes or no for a window', and the visits of the walk that 'stops at the first matching entry'
unfoldable pub empty_read : Rect → Option PlaneIndex → Result EmptyFound Refusal
empty_read w none = Err R.NoSoundTree
empty_read w (some i) = Ok (record {
  empty = is_empty index_space index_window w i;
  visits = empty_visits index_space index_window w i;
})

-- emptiness query: the index and the window. Tests 1, 3, 4
unfoldable pub empty_answer : List ℕ → Rect → Result EmptyFound Refusal
empty_answer m w =
    cond (is_index_length m) (cond (valid w) (empty_read w (reading fanout m)) (Err R.Invalid)) (Err R.WrongLength)
