-- `removing::remove_in_tree` meets its contract; its returns are in TreeRemoved.
use Rattle.walks.proofs.TreeWalk.{tree_walkable}
use Rattle.removal.proofs.TreeRemoved.{head_in, not_held, held_some, tree_removable, tree_remaining, tree_gone}
use Prim.Native.Nat.{◌≤◌}
use native.Mathlib.Omega.{arith}
use Rattle.removal.proofs.removing.remove_in_tree.Goals as goal

pub returns-then-not-is_held : goal.returns-then-not-is_held
returns-then-not-is_held c = search not_held

pub entries_below-entries-requires : goal.entries_below-entries-requires
entries_below-entries-requires c = search tree_walkable

pub overflow_sub-entries : goal.overflow_sub-entries
overflow_sub-entries c =
    let h : 1 ≤ c.entries_below-entries.result = search held_some in
    omega (arith, h)

pub remove_below-requires : goal.remove_below-requires
remove_below-requires c = search tree_removable

pub returns-then-remove_below : goal.returns-then-remove_below
returns-then-remove_below c = search tree_remaining

pub no_tree-requires : goal.no_tree-requires
no_tree-requires c = search head_in

pub returns : goal.returns
returns c = search tree_gone
