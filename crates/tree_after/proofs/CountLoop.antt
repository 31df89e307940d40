-- The count of the nodes below a node: the leaf, the loop over the children, the node itself.
use Prim.Native.Nat.{ℕ, zero, suc, ◌+◌, ◌-◌, ◌≤◌, ◌<◌, min}
use mathlib.Core.Path.{◌≡◌, refl, sym, ap, ◌∙◌}
use mathlib.Core.List.{List, [], ◌∷◌}
use native.Mathlib.Omega.{arith}
use borrow.Author.Tests.{ne_eqb}
use lib.ListN.{length}
use Rattle.geometry.specs.declared.rect.Side.{Side}
use Rattle.geometry.specs.declared.rect.Rect.{Rect}
use Rattle.tree.specs.Lists.{total}
use Rattle.tree.specs.Nodes.{Item, nodes}
use Rattle.tree.specs.Plan.{branch_under}
use Rattle.plane.specs.Fanout.{index_space}
use Rattle.memory.specs.Layout.{part, polygon_in}
use Rattle.layout.specs.Nodes.{count_at, child_at}
use Rattle.walks.specs.Walks.{Walkable}
use Rattle.split_line.specs.Sides.{sides_of}
use Rattle.tree_after.specs.Writes.{counted, deep_at}
use Rattle.tree_after.specs.Leaves.{leaf_under}
use Rattle.tree_after.specs.Rows.{kept, node_parts}
use Rattle.tree_after.proofs.DeepRows.{deep_leaf, deep_node, children_remaining, AtDeep, deep_start, deep_child, deep_next, deep_end}
use Rattle.tree_after.proofs.BranchLaws.{under_nodes}
use Rattle.tree_after.proofs.CountLaws.{none_counted, counted_few, counted_more, counted_none}

-- a node that is a leaf
pub count_leaf : (level : ℕ) (m : List ℕ) (lo k : ℕ) (ss : List Side) (p : List ℕ) (r : ℕ) → level ≡ 0 → Walkable level m lo k → p ≡ part m k
    → r ≡ counted 0 (leaf_under ss p) → r ≡ counted level (deep_at level m lo k ss)
count_leaf level m lo k ss p r z v q e =
    let v' : Walkable 0 m lo k = rw z at v in
    rw (z, deep_leaf m lo k ss v', ← q) e

-- a node is kept or not by whether it has branches, however these are counted
parts_same : (ss : List Side) (a b : ℕ) → (a ≡ 0 → b ≡ 0) → (b ≡ 0 → a ≡ 0) → node_parts ss a ≡ node_parts ss b
unfolding node_parts kept
parts_same [] a b f g = refl
parts_same (s ∷ ss) zero b f g = let e : b ≡ 0 = f refl in rw e
parts_same (s ∷ ss) (suc a) b f g =
    let ne : suc a ≡ 0 → ⊥ = λ q. omega arith in
    let ne' : b ≡ 0 → ⊥ = λ q. ne (g q) in
    rw (ne_eqb (suc a) 0 ne, ne_eqb b 0 ne')

-- a node under sides has the nodes of its branches and itself
pub under_count : (n : ℕ) (ss : List Side) (p : List Rect) (bs : List (Item index_space (suc n)))
    → counted (suc n) (branch_under index_space (sides_of ss) p bs) ≡ min 257 (counted n bs + node_parts ss (counted n bs))
unfolding counted
under_count n ss p bs =
    let u = under_nodes n ss p bs in
    let t : node_parts ss (length bs) ≡ node_parts ss (min 257 (total (nodes index_space (suc n)) bs)) =
    parts_same ss (length bs) (counted n bs) (no_count bs) (λ q. ap length (counted_none n bs q)) in
    omega arith
  where
    no_count : (bs : List (Item index_space (suc n))) → length bs ≡ 0 → counted n bs ≡ 0
    no_count [] q = sym (none_counted n)
    no_count (b ∷ bs) q = absurd (omega arith)

-- Before the i-th of the size children: c counts the nodes that remain of those that were passed.
pub record CountLoop (level : ℕ) (m : List ℕ) (lo k : ℕ) (ss : List Side) (size i low c : ℕ) : Type 0 where
  pub level_is : level ≡ suc (level - 1)
  pub bs : List (Item index_space (suc (level - 1)))
  pub at : AtDeep (level - 1) m lo k ss size i low bs
  pub so_far : c ≡ counted (level - 1) bs
  pub few : c ≤ 257

module _ (level : ℕ) (m : List ℕ) (lo k : ℕ) (ss : List Side) where
  pub count_start : (size : ℕ) → (level ≡ 0 → ⊥) → Walkable level m lo k → size ≡ count_at m k → CountLoop level m lo k ss size 0 lo 0
  count_start size ne v q =
      let e : level ≡ suc (level - 1) = omega arith in
      record {
        level_is = e;
        bs = [];
        at = deep_start (level - 1) m lo k ss size q (rw e at v);
        so_far = none_counted (level - 1);
        few = omega arith;
      }

  pub child_few : (low j r : ℕ) → r ≡ counted (level - 1) (deep_at (level - 1) m low j ss) → r ≤ 257
  child_few low j r e = rw e (counted_few (level - 1) (deep_at (level - 1) m low j ss))

  module _ (size i low c : ℕ) (a : CountLoop level m lo k ss size i low c) where
    pub count_child : (j : ℕ) → i < size → j ≡ child_at m k i → Walkable (level - 1) m low j
    count_child j h q = deep_child (level - 1) m lo k ss size i low a.bs a.at h j q

    pub count_again : (j r c' : ℕ) → i < size → j ≡ child_at m k i → r ≡ counted (level - 1) (deep_at (level - 1) m low j ss) → c' ≡ min 257 (c + r)
        → CountLoop level m lo k ss size (i + 1) (j + 1) c'
    count_again j r c' h q e f = record {
      level_is = a.level_is;
      bs = _;
      at = deep_next (level - 1) m lo k ss size i low a.bs a.at h j q;
      so_far =
          f ∙ ap (λ (x : ℕ). min 257 (x + r)) a.so_far ∙ ap (λ (x : ℕ). min 257 (counted (level - 1) a.bs + x)) e
          ∙ counted_more (level - 1) a.bs (deep_at (level - 1) m low j ss);
      few = omega arith;
    }

    -- what was counted is the count of what remains of all children
    all_counted : size ≤ i → c ≡ counted (level - 1) (children_remaining (level - 1) m lo k ss)
    all_counted h = a.so_far ∙ ap (counted (level - 1)) (deep_end (level - 1) m lo k ss size i low a.bs a.at h)

    -- then the node itself, if it is kept
    pub count_end : (r : ℕ) → size ≤ i → r ≡ min 257 (c + node_parts ss c) → r ≡ counted level (deep_at level m lo k ss)
    count_end r h e =
        let bs = children_remaining (level - 1) m lo k ss in
        let q : r ≡ min 257 (counted (level - 1) bs + node_parts ss (counted (level - 1) bs)) = e ∙ ap (λ x. min 257 (x + node_parts ss x)) (all_counted h) in
        rw (a.level_is, deep_node (level - 1) m lo k ss a.at.walk) (q ∙ sym (under_count (level - 1) ss (polygon_in (part m k)) bs))
