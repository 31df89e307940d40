-- The bounds of what the code reads of a node on the path, in the path and in the memory.
use Prim.Native.Nat.{ℕ, ◌-◌}
use mathlib.Core.Path.{◌≡◌, sym, subst}
use mathlib.Core.List.{List}
use native.Mathlib.Omega.{arith}
use Rattle.path.specs.declared.level.Level.{Level}
use Rattle.geometry.specs.declared.rect.Cell.{Cell}
use Rattle.layout.specs.Nodes.{PartIn}
use Rattle.path.specs.Path.{part_on, HasLevel}
use Rattle.path.proofs.PutLaws.{level_below}
use Rattle.tree_after.specs.Path.{PathNode}
use Rattle.tree_after.proofs.PathLaws.{path_node}
use Rattle.insertion.specs.Planning.{Full}
use Rattle.insertion.proofs.PathLaws.{path_below}

pub part_ends : (n : ℕ) (path : List Level) (m : List ℕ) → PathNode n path m → (k : ℕ) → k ≡ part_on path n → PartIn m k
part_ends n path m p k e = subst (PartIn m) (sym e) p.walk.ends

module _ (n level : ℕ) (path : List Level) (m : List ℕ) (c : Cell) (f : Full n level path m c) where
  full_node : PathNode n path m
  full_node = path_node path m n (path_below path m level n f.path_is.from f.below)

  pub full_level : HasLevel n path
  full_level = full_node.room

  pub full_ends : (k : ℕ) → k ≡ part_on path n → PartIn m k
  full_ends k e = part_ends n path m full_node k e

  pub below_level : (n ≡ 0 → ⊥) → HasLevel (n - 1) path
  below_level h = level_below path n (n - 1) full_level (omega arith)
