-- The walk that code makes for a query: it enters only nodes whose polygon passes a test. Not stated by document 01;
-- proofs/Walk shows that it gives a query's visits and entries.
use Rattle.std.specs.Prelude.{ℕ, zero, suc, ◌+◌, Bool, cond}
use mathlib.Core.List.{List, [], flat_map}
use Rattle.std.proofs.Math.Option.{none, some}
use Rattle.tree.specs.Lists.{keep, total}
use Rattle.tree.specs.Space.{Space}
use Rattle.tree.specs.Nodes.{EntryOf, Item}
use Rattle.tree.specs.Tree.{Index}

module _ (S : Space) (t : S.Poly → Bool) where
  -- The nodes entered, from a node that is entered: itself, and those below the children whose polygon passes.
  unfoldable pub node_walk_visits : (n : ℕ) → List (Item S n) → ℕ
  node_walk_visits zero es = 1
  node_walk_visits (suc n) bs = 1 + total (λ b. cond (t b.poly) (node_walk_visits n b.child) 0) bs

  -- The same from the root, which is entered if its polygon passes.
  abbrev pub walk_visits : Index S → ℕ
  walk_visits none = 0
  walk_visits (some x) = cond (t x.root) (node_walk_visits x.level x.items) 0

  module _ (u : EntryOf S → Bool) where
    -- The entries that pass u in the leaves entered, in the order of the walk.
    unfoldable pub node_walk_entries : (n : ℕ) → List (Item S n) → List (EntryOf S)
    node_walk_entries zero es = keep u es
    node_walk_entries (suc n) bs = flat_map (λ b. cond (t b.poly) (node_walk_entries n b.child) []) bs

    -- The same from the root.
    abbrev pub walk_entries : Index S → List (EntryOf S)
    walk_entries none = []
    walk_entries (some x) = cond (t x.root) (node_walk_entries x.level x.items) []
