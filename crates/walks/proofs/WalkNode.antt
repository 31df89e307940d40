-- A node that a walk comes to, as it was loaded: its count and its children are those of its part.
use Prim.Native.Nat.{ℕ, ◌<◌}
use mathlib.Core.Path.{◌≡◌}
use mathlib.Core.List.{List}
use native.Mathlib.Omega.{arith}
use Rattle.memory.specs.Layout.{part}
use Rattle.layout.specs.declared.node.Node.{Node}
use Rattle.layout.specs.Loaded.{node_in, node_child}
use Rattle.layout.specs.Nodes.{count_at, child_at}
use Rattle.layout.proofs.LoadedLaws.{count_at_lem, child_at_lem}
use Rattle.walks.specs.Walks.{Walkable}

module _ (level : ℕ) (m : List ℕ) (lo k : ℕ) (v : Walkable level m lo k) (node : Node) (q : node ≡ node_in (part m k)) where
  pub walk_count : node.count ≡ count_at m k
  walk_count = count_at_lem m k node q

  pub walk_nine : (i : ℕ) → i < node.count → i < 9
  walk_nine i h = let c = walk_count in let f = v.few in omega arith

  pub walk_child : (i j : ℕ) → i < node.count → j ≡ node_child node i → j ≡ child_at m k i
  walk_child i j h e = let c = walk_count in let f = v.few in child_at_lem m k node q i j (omega arith) e
