-- Request A.11, 'Is this window empty?': the walk of the window query that stops at the first matching entry.
-- docs/RULES.md 5.18, 5.19
use Rattle.std.specs.Prelude.{ℕ, zero, suc, Bool, false, not, cond}
use mathlib.Core.List.{List, foldl}
use Rattle.std.proofs.Math.Option.{none, some}
use Rattle.polygons.specs.Lists.{any}
use Rattle.tree.specs.Space.{Space}
use Rattle.tree.specs.Nodes.{Item}
use Rattle.tree.specs.Tree.{Index}
use Rattle.tree.specs.Query.{Window, matching}

-- How far the walk has come: whether it met a matching entry, and the nodes that it entered.
pub record ToMatch : Type 0 where
  pub found : Bool
  pub entered : ℕ

-- Before the walk: no match, no node.
abbrev pub at_start : ToMatch
at_start = record { found = false; entered = 0 }

module _ (S : Space) (Win : Window S) (w : Win.W) where
  -- The walk below a node that it enters, after v others: "depth-first as in the window query", it enters the children
  -- that share a cell with the window, and it "stops at the first matching entry".
  unfoldable pub node_to_match : (n : ℕ) → ℕ → List (Item S n) → ToMatch
  node_to_match zero v es = record { found = any (matching S Win w) es; entered = suc v }
  node_to_match (suc n) v bs =
      foldl (λ u b. cond u.found u (cond (Win.meets b.poly w) (node_to_match n u.entered b.child) u))
      (record { found = false; entered = suc v }) bs

  -- The whole walk: it enters the root if that shares a cell with the window.
  abbrev pub walk_to_match : Index S → ToMatch
  walk_to_match none = at_start
  walk_to_match (some t) = cond (Win.meets t.root w) (node_to_match t.level 0 t.items) at_start

  -- "a yes or no for a window": yes, no entry is in it.
  abbrev pub is_empty : Index S → Bool
  is_empty i = not (walk_to_match i).found

  -- "The visits reported are the nodes sharing a cell with the window that this walk enters up to its stop".
  abbrev pub empty_visits : Index S → ℕ
  empty_visits i = (walk_to_match i).entered
