-- `growing::grow_path` meets its contract, with the level as its measure; its ways are in GrowReturns.
use native.Mathlib.Omega.{arith}
use Rattle.insertion.proofs.GrowReturns.{grow_leaf_in, grow_leaf_done, grow_below, grow_level, grow_done}
use Rattle.insertion.proofs.growing.+grow_path.Goals as goal

pub grow_leaf-requires-clause-level_in : goal.grow_leaf-requires-clause-level_in
grow_leaf-requires-clause-level_in t c = search grow_leaf_in

pub returns-then-level-eq0 : goal.returns-then-level-eq0
returns-then-level-eq0 t c = search grow_leaf_done

pub grow_path-requires : goal.grow_path-requires
grow_path-requires t c = (omega arith, search grow_below)

pub grow_node-requires : goal.grow_node-requires
grow_node-requires t c = search grow_level

pub returns : goal.returns
returns t c = search grow_done
