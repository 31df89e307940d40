-- Document 01, 'The tree and its memory': "A node's depth is the number of steps from the root down to it; its polygon
-- is the one its branch gives, and the root's is its one rectangle."
-- docs/RULES.md 3.5, 5.6, 6.8 to 6.10
use Rattle.std.specs.Prelude.{ℕ, zero, suc}
use mathlib.Core.List.{List, [], ◌∷◌, ◌++◌, map, flat_map}
use Rattle.std.proofs.Math.Option.{none, some}
use Rattle.tree.specs.Space.{Space}
use Rattle.tree.specs.Nodes.{Item}
use Rattle.tree.specs.Tree.{Index, top}

-- The polygons of a node and of one of its children.
pub record Edge (P : Type 0) : Type 0 where
  pub parent : P
  pub below : P

module _ (S : Space) where
  -- The polygons of the nodes of an item, in depth-first order, a node before those below it.
  unfoldable pub item_polygons : (n : ℕ) → Item S n → List S.Poly
  item_polygons zero e = []
  item_polygons (suc n) b = b.poly ∷ flat_map (item_polygons n) b.child

  -- Those of the nodes d steps below the node that a branch leads to.
  unfoldable pub item_polygons_at : (n d : ℕ) → Item S n → List S.Poly
  item_polygons_at zero d e = []
  item_polygons_at (suc n) zero b = b.poly ∷ []
  item_polygons_at (suc n) (suc d) b = flat_map (item_polygons_at n d) b.child

  -- The leaves below a branch, each with its polygon and its entries.
  unfoldable pub item_leaves : (n : ℕ) → Item S (suc n) → List (Item S 1)
  item_leaves zero b = b ∷ []
  item_leaves (suc n) b = flat_map (item_leaves n) b.child

  -- Their depths, where the node that the branch leads to has the depth d.
  unfoldable pub item_depths : (n d : ℕ) → Item S (suc n) → List ℕ
  item_depths zero d b = d ∷ []
  item_depths (suc n) d b = flat_map (item_depths n (suc d)) b.child

  -- Every node below a branch with each of its children, for their polygons.
  unfoldable pub item_edges : (n : ℕ) → Item S (suc n) → List (Edge S.Poly)
  item_edges zero b = []
  item_edges (suc n) b = map (λ x. record { parent = b.poly; below = x.poly }) b.child
      ++ flat_map (item_edges n) b.child

  -- The polygons of all nodes.
  abbrev pub polygons : Index S → List S.Poly
  polygons none = []
  polygons (some t) = item_polygons (suc t.level) (top S t)

  -- The polygons of the nodes of depth d.
  abbrev pub polygons_at : ℕ → Index S → List S.Poly
  polygons_at d none = []
  polygons_at d (some t) = item_polygons_at (suc t.level) d (top S t)

  -- The leaves, in depth-first order, each with its polygon and its entries.
  abbrev pub leaves : Index S → List (Item S 1)
  leaves none = []
  leaves (some t) = item_leaves t.level (top S t)

  -- The depths of the leaves.
  abbrev pub leaf_depths : Index S → List ℕ
  leaf_depths none = []
  leaf_depths (some t) = item_depths t.level 0 (top S t)

  -- Every node with each of its children, for their polygons.
  abbrev pub edges : Index S → List (Edge S.Poly)
  edges none = []
  edges (some t) = item_edges t.level (top S t)
