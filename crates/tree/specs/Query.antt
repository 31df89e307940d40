-- Document 01, 'queries': the point query and the window query.
-- docs/RULES.md 5.6, 5.8, 5.9, 7.2
use Rattle.std.specs.Prelude.{ℕ, Bool}
use mathlib.Core.List.{List, head?}
use Rattle.std.proofs.Math.Option.{Option}
use Rattle.polygons.specs.Lists.{any}
use Rattle.tree.specs.Lists.{keep, count_of}
use Rattle.tree.specs.Space.{Space}
use Rattle.tree.specs.Nodes.{EntryOf}
use Rattle.tree.specs.Tree.{Index, entries}
use Rattle.tree.specs.Depth.{polygons}

-- A window: "A window query takes a rectangle".
pub record Window (S : Space) : Type 1 where
  pub W : Type 0
  -- the cell is in the window
  pub inside : W → S.Cell → Bool
  -- the "polygon shares a cell with it"
  pub meets : S.Poly → W → Bool

module _ (S : Space) where
  -- The entry is of that cell.
  abbrev pub of_cell : S.Cell → EntryOf S → Bool
  of_cell c e = S.same e.cell c

  -- "cell already held"
  abbrev pub holds : S.Cell → Index S → Bool
  holds c i = any (of_cell c) (entries S i)

  -- "A point query answers held with tag, or not held": the entry of that cell.
  abbrev pub entry_at : S.Cell → Index S → Option (EntryOf S)
  entry_at c i = head? (keep (of_cell c) (entries S i))

  -- "and the visits: nodes whose polygon has the cell"
  abbrev pub visits : S.Cell → Index S → ℕ
  visits c i = count_of (λ p. S.has p c) (polygons S i)

  module _ (Win : Window S) where
    -- The entry's cell is in the window.
    abbrev pub matching : Win.W → EntryOf S → Bool
    matching w e = Win.inside w e.cell

    -- "each matching entry in depth-first order"
    abbrev pub matches : Win.W → Index S → List (EntryOf S)
    matches w i = keep (matching w) (entries S i)

    -- "visits (nodes whose polygon shares a cell with it)"
    abbrev pub window_visits : Win.W → Index S → ℕ
    window_visits w i = count_of (λ p. Win.meets p w) (polygons S i)
