-- The two walks of a window query: what they count and write.
use Rattle.std.specs.Prelude.{ℕ, ◌+◌, ◌*◌, ◌≤◌, List, [], ◌∷◌, ◌≡◌, length, Result}
use Rattle.geometry.specs.declared.rect.Rect.{Rect}
use Rattle.plane.specs.Lines.{CellEntry}
use Rattle.plane.specs.Fanout.{fanout}
use Rattle.memory.specs.Reading.{reading}
use Rattle.layout.specs.Nodes.{NodePart}
use Rattle.answers.specs.declared.answer.Refusal.{Refusal}
use Rattle.answers.specs.declared.answer.WindowFound.{WindowFound}
use Rattle.answers.specs.Listing.{list_width, put_listed}
use Rattle.answers.specs.Answers.{window_read, window_written}
use Rattle.walks.specs.Walks.{inside_test, matches_below, leaf_entries, Walkable}

-- what a walk for a window found: how many entries match, and the visits
unfoldable pub matched : List CellEntry → ℕ → WindowFound
matched es v = record { matches = length es; visits = v }

-- a list with the numbers of some entries from the at-th place on
unfoldable pub put_entries : List ℕ → ℕ → List CellEntry → List ℕ
put_entries l at [] = l
put_entries l at (e ∷ es) = put_entries (put_listed l at e) (at + 1) es

-- The entries were written into l from the at-th place on, which gives l'; next is the first free place.
pub record Listed (l : List ℕ) (at : ℕ) (es : List CellEntry) (l' : List ℕ) (next : ℕ) : Type 0 where
  pub next_is : next ≡ at + length es
  pub list : l' ≡ put_entries l at es
  pub same_length : length l' ≡ length l

-- A leaf's part can be walked, and its entries in the window fit into the list from the at-th place on.
pub record LeafRoom (p : List ℕ) (w : Rect) (l : List ℕ) (at : ℕ) : Type 0 where
  pub leaf : NodePart p
  pub room : list_width * (at + length (leaf_entries (inside_test w) p)) ≤ length l

-- The node at part k can be walked, and the entries below it in the window fit into the list from the at-th place on.
pub record WalkRoom (n : ℕ) (m : List ℕ) (lo k : ℕ) (w : Rect) (l : List ℕ) (at : ℕ) : Type 0 where
  pub walk : Walkable n m lo k
  pub room : list_width * (at + length (matches_below w n m lo k)) ≤ length l

-- A window query of the index that the memory reads as ended with that answer, and left the list l'.
pub record WindowDone (m : List ℕ) (w : Rect) (l l' : List ℕ) (r : Result WindowFound Refusal) : Type 0 where
  pub answer : r ≡ window_read w (length l) (reading fanout m)
  pub list : l' ≡ window_written w (reading fanout m) l
