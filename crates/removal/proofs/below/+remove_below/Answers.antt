-- `below::remove_below` meets its contract, with the level as its measure; its ways are in BelowReturns.
use native.Mathlib.Omega.{arith}
use Rattle.removal.proofs.BelowReturns.{below_holds, below_takes, below_leaf, below_children, below_some, below_child, below_stays, below_takes_branch, below_node}
use Rattle.removal.proofs.below.+remove_below.Goals as goal

pub entry_place-i-requires : goal.entry_place-i-requires
entry_place-i-requires t c = search below_holds

pub take_entry-requires : goal.take_entry-requires
take_entry-requires t c = search below_takes

pub returns-then-level-eq0 : goal.returns-then-level-eq0
returns-then-level-eq0 t c = search below_leaf

pub child_with-requires : goal.child_with-requires
child_with-requires t c = search below_children

pub returns-in_default : goal.returns-in_default
returns-in_default t c = search below_some

pub remove_below-requires : goal.remove_below-requires
remove_below-requires t c = (omega arith, search below_child)

pub returns-then-remove_below : goal.returns-then-remove_below
returns-then-remove_below t c = search below_stays

pub take_branch-requires : goal.take_branch-requires
take_branch-requires t c = search below_takes_branch

pub returns : goal.returns
returns t c = search below_node
