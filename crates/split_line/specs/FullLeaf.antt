-- Document 01, 'The line', 'Leaf': the entries of a leaf that is split, and the sums of their coordinates.
use Rattle.std.specs.Prelude.{ℕ, suc, ◌+◌, ◌*◌, ◌≤◌, true, List, [], ◌∷◌, ◌++◌, ◌≡◌, length}
use Rattle.geometry.specs.declared.rect.Cell.{Cell}
use Rattle.geometry.specs.declared.rect.Line.{Line}
use Rattle.geometry.specs.Cells.{on_grid}
use Rattle.tree.specs.Lists.{Pairs, total}
use Rattle.tree.specs.Sound.{Apart}
use Rattle.plane.specs.Lines.{CellEntry, x_of, y_of, leaf_line, Payload, entry_of, OnGrid}
use Rattle.plane.specs.Fanout.{fanout, index_space}
use Rattle.memory.specs.Layout.{item_count, entries_in}
use Rattle.layout.specs.Nodes.{NodePart}
use Rattle.split_line.specs.declared.leaf.Sums.{Sums}

-- the entries of a leaf's part
abbrev pub entries_of : List ℕ → List CellEntry
entries_of p = entries_in p (item_count p)

-- The part of a leaf, and the cell of the entry that it gets.
pub record LeafHere (p : List ℕ) (c : Cell) : Type 0 where
  pub leaf : NodePart p
  pub grid : OnGrid (entries_of p)
  pub cell : on_grid c ≡ true

-- 'a node with nine is split': the entries of such a leaf, the new one among them; 'no cell has two entries'.
pub record FullLeaf (es : List CellEntry) : Type 0 where
  pub count : length es ≡ suc fanout
  pub grid : OnGrid es
  pub apart : Pairs (Apart index_space 0) es

-- r is the leaf's line, whatever the tag of the new entry
abbrev pub LeafLineIs : List ℕ → Cell → Line → Type 0
LeafLineIs p c r = (t : Payload) → FullLeaf (entries_of p ++ (entry_of c t ∷ []))
    → r ≡ leaf_line (entries_of p ++ (entry_of c t ∷ []))

-- The sums s with one more cell c fit 64 bits.
pub record SmallSums (s : Sums) (c : Cell) : Type 0 where
  pub square_x : c.x * c.x ≤ 4294836225
  pub square_y : c.y * c.y ≤ 4294836225
  pub sum_x : s.x ≤ 589815
  pub sum_y : s.y ≤ 589815
  pub squares_x : s.xx ≤ 38653526025
  pub squares_y : s.yy ≤ 38653526025

-- Σv and Σv² of both dimensions
unfoldable pub sums_of : List CellEntry → Sums
sums_of es = record {
  x = total x_of es;
  xx = total (λ e. x_of e * x_of e) es;
  y = total y_of es;
  yy = total (λ e. y_of e * y_of e) es;
}

-- the sums with one more cell
unfoldable pub added_sums : Sums → Cell → Sums
added_sums s c = record { x = s.x + c.x; xx = s.xx + c.x * c.x; y = s.y + c.y; yy = s.yy + c.y * c.y }
