-- Request A.1, 'Nearest calibrated cell': the entry nearest a cell by a look at all; the walk that passes over nodes.
-- docs/RULES.md 5.13, 5.15, 6.15
use Rattle.std.specs.Prelude.{ℕ, zero, suc, Bool, true, false, cond, ◌≡◌, leb}
use mathlib.Core.List.{List, ◌∷◌, foldl}
use Rattle.std.proofs.Math.Option.{Option, none, some}
use Rattle.tree.specs.Lists.{All, nth}
use Rattle.tree.specs.Space.{Space}
use Rattle.tree.specs.Nodes.{EntryOf, Item}
use Rattle.tree.specs.Tree.{Index, entries}
use Rattle.tree.specs.Order.{comes_before}

module _ (S : Space) (c : S.Cell) where
  -- An entry's place in the order of the query: its squared distance, then its ties.
  abbrev pub rank : EntryOf S → List ℕ
  rank e = S.distance c e.cell ∷ S.ties e

  -- The first entry is the nearer one: "by (dx)² + (dy)², ties to the smaller x, then the smaller y".
  abbrev pub nearer : EntryOf S → EntryOf S → Bool
  nearer e f = comes_before (rank e) (rank f)

  -- The entry is the nearest of a list: one of it, at some place, and none of it is nearer.
  pub record IsNearest (es : List (EntryOf S)) (e : EntryOf S) : Type 0 where
    pub place : ℕ
    pub one : nth es place ≡ some e
    pub none_nearer : All (λ f. nearer f e ≡ false) es

  -- The nearest so far, with one more entry looked at.
  unfoldable pub or_nearer : Option (EntryOf S) → EntryOf S → Option (EntryOf S)
  or_nearer none e = some e
  or_nearer (some b) e = cond (nearer e b) (some e) (some b)

  -- The nearest of some entries and of the nearest so far.
  abbrev pub nearest_of : Option (EntryOf S) → List (EntryOf S) → Option (EntryOf S)
  nearest_of best es = foldl or_nearer best es

  -- "the entry nearest a given cell", by "a look at all of them"; nothing where "nothing is held".
  abbrev pub nearest : Index S → Option (EntryOf S)
  nearest i = nearest_of none (entries S i)

  -- What a walk has met: the nearest entry so far, and "the number of nodes entered".
  pub record Met : Type 0 where
    pub best : Option (EntryOf S)
    pub entered : ℕ

  -- Before the walk.
  abbrev pub start : Met
  start = record { best = none; entered = 0 }

  -- One more node is entered.
  abbrev pub enter : Met → Met
  enter w = record { best = w.best; entered = suc w.entered }

  -- The walk enters "a child exactly if no entry has been met yet or the least squared distance from the cell to a cell
  -- of the child's polygon is at most the best so far".
  unfoldable pub enters : S.Poly → Option (EntryOf S) → Bool
  enters p none = true
  enters p (some e) = leb (S.min_distance c p) (S.distance c e.cell)

  -- The walk below a node that it enters: "depth-first with branches in order". A child is tested when the walk comes
  -- to it, with what was met so far. Of a leaf all entries are looked at.
  unfoldable pub walk_node : (n : ℕ) → Met → List (Item S n) → Met
  walk_node zero w es = record { best = nearest_of w.best es; entered = suc w.entered }
  walk_node (suc n) w bs = foldl (λ v b. cond (enters b.poly v.best) (walk_node n v b.child) v) (enter w) bs

  -- The whole walk: "it enters the root".
  abbrev pub walk : Index S → Met
  walk none = start
  walk (some t) = walk_node t.level start t.items
