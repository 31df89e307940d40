-- The children of a node that a walk comes to, as they are lent: they are those of its part.
use Prim.Native.Nat.{ℕ, ◌≤◌, ◌<◌}
use mathlib.Core.Path.{◌≡◌, ap, ◌∙◌}
use mathlib.Core.List.{List}
use native.Mathlib.Omega.{arith}
use lib.ListN.{length, get_or}
use Rattle.memory.specs.Layout.{part, children_in}
use Rattle.layout.specs.Nodes.{count_at, child_at}
use Rattle.layout.proofs.NodeLaws.{child_in_lem}
use Rattle.walks.specs.Walks.{Walkable}
use Rattle.walks.proofs.WalkLoop.{children_count}

module _ (level : ℕ) (m : List ℕ) (lo k : ℕ) (v : Walkable level m lo k) where
  pub children_few : count_at m k ≤ 62
  children_few = let f = v.few in omega arith

  module _ (ks : List ℕ) (q : ks ≡ children_in (part m k)) where
    pub children_here : length ks ≡ count_at m k
    children_here = ap length q ∙ children_count level m lo k v

    pub child_here : (i : ℕ) → i < length ks → get_or ks i 0 ≡ child_at m k i
    child_here i h =
        let c = children_here in
        ap (λ l. get_or l i 0) q ∙ child_in_lem (part m k) i (omega arith)
