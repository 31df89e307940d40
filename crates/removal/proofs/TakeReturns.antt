-- Taking an item out of a node: the node is left with the others, or its part is set free.
use Prim.Native.Nat.{ℕ, ◌≤◌, ◌<◌}
use mathlib.Core.Path.{◌≡◌, ◌∙◌}
use mathlib.Core.List.{List}
use native.Mathlib.Omega.{arith}
use Rattle.memory.specs.Layout.{part, item_count}
use Rattle.layout.specs.declared.node.Node.{Node}
use Rattle.layout.specs.Loaded.{node_in, with_node, ItemOut}
use Rattle.layout.specs.PartSet.{set_part, freed}
use Rattle.layout.proofs.GapLaws.{entry_out, child_out}
use Rattle.removal.specs.Below.{TakesItem, LeafShorter, NodeShorter, NodeFreed}

-- the node at part k, loaded
module _ (m : List ℕ) (k i : ℕ) (v : TakesItem m k i) (n : Node) (c : n ≡ node_in (part m k)) where
  count_is : item_count (part m k) ≡ n.count
  unfolding node_in
  count_is = rw c

  pub has_item : i < n.count
  has_item = let e = count_is in let h = v.item.inside in omega arith

  pub few_items : n.count ≤ 8
  few_items = let e = count_is in let h = v.item.node.few_items in omega arith

  pub take_last : (m' : List ℕ) → n.count ≡ 1 → m' ≡ freed m k → NodeFreed m k m'
  take_last m' e f = record { last = count_is ∙ e; memory = f }

  several : (n.count ≡ 1 → ⊥) → 2 ≤ item_count (part m k)
  several ne = let e = count_is in let h = v.item.inside in omega arith

  -- an item was taken out, and the node stored
  module _ (n' : Node) (m' : List ℕ) (ne : n.count ≡ 1 → ⊥) (e : m' ≡ set_part m k (with_node (part m k) n')) where
    pub take_entry : ItemOut 3 i n n' → LeafShorter m k i m'
    take_entry o = record { dropped = entry_out m k i n n' v.item c m' o e; several = several ne }

    pub take_branch : ItemOut 1 i n n' → NodeShorter m k i m'
    take_branch o = record { dropped = child_out m k i n n' v.item c m' o e; several = several ne }
