-- The bounds of what the loops of the plan read and write.
use Prim.Native.Nat.{ℕ, ◌+◌, ◌<◌}
use mathlib.Core.Path.{◌≡◌}
use mathlib.Core.List.{List}
use native.Mathlib.Omega.{arith}
use mir.Syntax.{w32}
use mir.Val.{Fits}
use Rattle.path.specs.declared.level.Level.{Level}
use Rattle.geometry.specs.declared.rect.Cell.{Cell}
use Rattle.plane.specs.Fanout.{fanout}
use Rattle.memory.proofs.ReadingLaws.{level_range}
use Rattle.layout.specs.Nodes.{PartIn}
use Rattle.path.specs.Path.{part_on, HasLevel}
use Rattle.tree_after.specs.Path.{PathNode, PathFrom}
use Rattle.tree_after.proofs.PathLaws.{path_node}
use Rattle.insertion.proofs.NodeBounds.{part_ends}
use Rattle.insertion.proofs.PathLaws.{path_below}
use Rattle.insertion.proofs.PlanLoop.{Planning, plan_node}

-- the next level is a number of the code
next_fits : (n : ℕ) (path : List Level) (m : List ℕ) → PathNode n path m → Fits w32 (n + 1)
next_fits n path m node =
    let w = node.walk in
    let l = level_range fanout m n 0 (part_on path n) w.node w.from w.reads in
    let b = w.below in
    omega arith

-- of the loop that counts the nodes that are split
pub levels_fit : (level : ℕ) (path : List Level) (m : List ℕ) → PathFrom level path m → Fits w32 (level + 1)
levels_fit level path m f = next_fits level path m (path_node path m level f)

module _ (level : ℕ) (path : List Level) (m : List ℕ) (n : ℕ) (f : PathFrom level path m) (h : n < level + 1) where
  node : PathNode n path m
  node = path_node path m n (path_below path m level n f (omega arith))

  pub count_level : HasLevel n path
  count_level = node.room

  pub count_in : (k : ℕ) → k ≡ part_on path n → PartIn m k
  count_in k e = part_ends n path m node k e

-- of the loop that writes their lines
module _ (level : ℕ) (path₀ : List Level) (m : List ℕ) (splits : ℕ) (c : Cell) (n : ℕ) (path : List Level) (a : Planning level path₀ m splits c n path) (h : n < splits) where
  pub plan_level : HasLevel n path
  plan_level = (plan_node level path₀ m splits c n path a h).room
