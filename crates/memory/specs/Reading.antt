-- The reading of a memory into 'no sound tree' or an index. Document 01: 'its reading into a tree is a definition'.
-- docs/RULES.md 3.10, 3.12 to 3.15, 5.3, 7.2
use Rattle.std.specs.Prelude.{ℕ, zero, suc, ◌+◌, Bool, ◌&&◌, cond, List, [], ◌∷◌, leb, ltb, eqb, take, drop}
use Rattle.std.proofs.Math.Option.{Option, none, some, bind}
use Rattle.geometry.specs.declared.rect.Rect.{Rect}
use Rattle.tree.specs.Space.{Branch}
use Rattle.tree.specs.Nodes.{Item, nodes}
use Rattle.tree.specs.Tree.{Tree}
use Rattle.plane.specs.Plane.{plane_space}
use Rattle.memory.specs.Layout.{parts_of, is_index_length, part, bits_set, height_in, root_in, all_zero, item_count, polygon_in, entries_in, children_in, node_fits, others_zero}
use Rattle.memory.specs.SoundTest.{sound_test}

-- The branches of a node at part hi, by their part numbers: read lo k reads the one at part k, whose subtree has the
-- parts from lo up to k. Parts rise in depth-first order, a node after its children (docs/LAYOUT.md), so no part is
-- reached twice.
unfoldable pub read_row : {B : Type 0} → (ℕ → ℕ → Option B) → ℕ → ℕ → List ℕ → Option (List B)
read_row read lo hi [] = some []
read_row read lo hi (k ∷ ks) =
    cond (leb lo k && ltb k hi)
    (bind (read lo k) λ b. bind (read_row read (k + 1) hi ks) λ bs. some (b ∷ bs))
    none

module _ (fanout : ℕ) where
  abbrev pub branch_of : {A : Type 0} → List ℕ → List A → Branch (List Rect) A
  branch_of p items = record { poly = polygon_in p; child = items }

  -- the node at part k, whose leaves lie n steps below it, as a branch with its polygon
  unfoldable pub read_node : (n : ℕ) → List ℕ → ℕ → ℕ → Option (Item (plane_space fanout) (suc n))
  read_node zero m lo k =
      let p = part m k in
      cond (node_fits fanout 3 m k) (some (branch_of p (entries_in p (item_count p)))) none
  read_node (suc n) m lo k =
      let p = part m k in
      cond (node_fits fanout 1 m k)
      (bind (read_row (read_node n m) lo k (children_in p)) λ bs. some (branch_of p bs))
      none

  -- the node at the root as a tree
  abbrev pub tree_of : (n : ℕ) → Item (plane_space fanout) (suc n) → Tree (plane_space fanout)
  tree_of n b = record { level = n; root = b.poly; items = b.child }

  -- 'the number of bits set is the number of nodes', and 'Unused numbers are zero'
  unfoldable pub rest_fits : (n : ℕ) → List ℕ → Item (plane_space fanout) (suc n) → Bool
  rest_fits n m b =
      eqb (bits_set m) (nodes (plane_space fanout) (suc n) b)
      && all_zero (drop 10 (take 64 m))
      && others_zero m (parts_of m)

  unfoldable pub read_tree : (n : ℕ) → List ℕ → Option (Tree (plane_space fanout))
  read_tree n m =
      bind (read_node n m 0 (root_in m)) λ b.
      cond (rest_fits n m b && sound_test fanout (tree_of n b)) (some (tree_of n b)) none

  abbrev pub read_height : ℕ → List ℕ → Option (Option (Tree (plane_space fanout)))
  read_height zero m = cond (all_zero m) (some none) none
  read_height (suc n) m = bind (read_tree n m) λ t. some (some t)

  -- none: 'memory reads as no sound tree'; some none: the empty index, all zeros; some (some t): the tree t
  unfoldable pub reading : List ℕ → Option (Option (Tree (plane_space fanout)))
  reading m = cond (is_index_length m) (read_height (height_in m) m) none
