-- Document 01, 'The tree and its memory': what a node holds.
-- docs/RULES.md 3.1 to 3.3, 3.6, 3.7, 4.12
use Rattle.std.specs.Prelude.{ℕ, zero, suc, ◌+◌, Bool, not}
use mathlib.Core.List.{List, [], ◌∷◌, flat_map}
use Rattle.tree.specs.Lists.{total}
use Rattle.tree.specs.Space.{Side, left, right, Entry, Branch, Space}

module _ (S : Space) where
  -- An entry of this plane.
  abbrev pub EntryOf : Type 0
  EntryOf = Entry S.Cell

  -- "A leaf holds .. entries", "A routing node holds .. branches": what a node holds whose leaves are n steps below it.
  abbrev pub Item : ℕ → Type 0
  Item zero = Entry S.Cell
  Item (suc n) = Branch S.Poly (Item n)

  -- The cell is on this side of the line.
  abbrev pub on : Side S.Line → S.Cell → Bool
  on (left l) c = S.below l c
  on (right l) c = not (S.below l c)

  -- The entry is on this side of the line.
  abbrev pub entry_on : Side S.Line → EntryOf → Bool
  entry_on s e = on s e.cell

  -- The cells of an item: an entry's one cell, the cells of a branch's polygon.
  unfoldable pub item_has : (n : ℕ) → Item n → S.Cell → Bool
  item_has zero e c = S.same e.cell c
  item_has (suc n) b c = S.has b.poly c

  -- The entries that an item holds, in depth-first order.
  unfoldable pub held : (n : ℕ) → Item n → List EntryOf
  held zero e = e ∷ []
  held (suc n) b = flat_map (held n) b.child

  -- The number of nodes of an item: an entry is no node, a branch leads to one and to those below it.
  unfoldable pub nodes : (n : ℕ) → Item n → ℕ
  nodes zero e = 0
  nodes (suc n) b = 1 + total (nodes n) b.child
