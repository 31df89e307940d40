-- `check::check_node` meets its contract, with the level as its measure; its loop is in CheckLoops.
use Prim.Native.Nat.{◌+◌, ◌≤◌}
use mathlib.Core.Path.{◌≡◌, ◌∙◌}
use native.Mathlib.Omega.{arith}
use Rattle.std.specs.Prelude.{None}
use Rattle.soundness.specs.Check.{checked_at}
use borrow.Author.Tests.{not-true, not-false}
use Rattle.soundness.proofs.CheckLoops.{leaf_any, node_unfit, sound_in, sound_few, rowing_start, rowing_low, rowing_high, rowing_lost, rowing_fits, rowing_child, rowing_outside, rowing_on, rowing_parts, rowing_sound, rowing_meet}
use Rattle.soundness.proofs.check.+check_node.Goals as goal

pub returns-then-level-eq0 : goal.returns-then-level-eq0
returns-then-level-eq0 t c = search leaf_any

pub returns-then-not-head_fits : goal.returns-then-not-head_fits
returns-then-not-head_fits t c = search (node_unfit, not-true)

pub part_at-requires : goal.part_at-requires
part_at-requires t c = search (sound_in, not-false)

pub children-ks-requires-clause-p_bound : goal.children-ks-requires-clause-p_bound
children-ks-requires-clause-p_bound t c = search (sound_few, not-false)

pub loop-j-init : goal.loop-j-init
loop-j-init t c = search (rowing_start, not-false)

pub returns-then-j-low : goal.returns-then-j-low
returns-then-j-low t c = search rowing_low

pub returns-then-k-j : goal.returns-then-k-j
returns-then-k-j t c = search rowing_high

pub check_node-requires : goal.check_node-requires
check_node-requires t c = let v = c.loop-j.invariant in (omega arith, (v.right, omega arith))

pub returns-in_err-nodes : goal.returns-in_err-nodes
returns-in_err-nodes t c =
    let h : None ≡ checked_at c.args.level c.args.m.now c.args.lo c.args.k = search (rowing_lost, c.in_err-nodes.was) in
    c.from_residual.ensures ∙ h

pub child_inside-requires-clause-polygon_part : goal.child_inside-requires-clause-polygon_part
child_inside-requires-clause-polygon_part t c = let v = c.loop-j.invariant in v.node

pub child_inside-requires-clause-polygon_part_2 : goal.child_inside-requires-clause-polygon_part_2
child_inside-requires-clause-polygon_part_2 t c = search (rowing_child, c.in_ok-nodes.was)

pub returns-then-not-child_inside : goal.returns-then-not-child_inside
returns-then-not-child_inside t c = search (rowing_outside, not-true, c.in_ok-nodes.was)

pub overflow_add-sum : goal.overflow_add-sum
overflow_add-sum t c = let h : c.loop-j.sum + c.in_ok-nodes.nodes ≤ 256 = search (rowing_fits, c.in_ok-nodes.was) in omega arith

pub loop-j-preserved : goal.loop-j-preserved
loop-j-preserved t c = search (rowing_on, not-false, c.in_ok-nodes.was)

pub siblings_apart-requires : goal.siblings_apart-requires
siblings_apart-requires t c = rowing_parts _ _ _ _ _ _ _ _ c.loop-j.invariant (omega arith)

pub returns-then-siblings_apart : goal.returns-then-siblings_apart
returns-then-siblings_apart t c = search rowing_sound

pub returns : goal.returns
returns t c = search rowing_meet
