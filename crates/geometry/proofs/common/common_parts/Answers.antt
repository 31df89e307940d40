-- `common::common_parts` meets its contract; its loop is in FillLoops.
use Rattle.std.proofs.Common.{rules}
use Rattle.geometry.specs.Common.{common_with, common_parts}
use Rattle.geometry.specs.Cut.{common_limited}
use Rattle.geometry.proofs.FillLoops.{fill_start, fill_again, fill_over, fill_end}
use Rattle.geometry.proofs.common.common_parts.Goals as goal

pub loop-r-init : goal.loop-r-init
loop-r-init c = search fill_start

pub returns-then-m-gt-MOST_PIECES : goal.returns-then-m-gt-MOST_PIECES
unfolding common_limited common_parts common_with
returns-then-m-gt-MOST_PIECES c = fill_over _ _ _ _ _ _ c.loop-r.invariant _ _ c.in-Some.ensures.steps _ _ _ c.put_common_with-m.ensures (search rules)

pub loop-r-preserved : goal.loop-r-preserved
loop-r-preserved c = fill_again _ _ _ _ _ _ c.loop-r.invariant _ _ c.in-Some.ensures.steps _ _ _ c.put_common_with-m.ensures (search rules)

pub returns : goal.returns
unfolding common_limited common_parts common_with
returns c = fill_end _ _ _ _ _ _ c.loop-r.invariant (search rules)
