-- `cut::cut_list` meets its contract; its loop is in FillLoops.
use Rattle.std.proofs.Common.{rules}
use Rattle.geometry.specs.Cut.{cut_list}
use Rattle.geometry.proofs.CutLaws.{cut_by}
use Rattle.geometry.proofs.FillLoops.{fill_start, fill_again, fill_over, fill_end}
use Rattle.geometry.proofs.cut.cut_list.Goals as goal

pub loop-r-init : goal.loop-r-init
loop-r-init c = search fill_start

pub returns-then-m-gt-MOST_PIECES : goal.returns-then-m-gt-MOST_PIECES
unfolding cut_list cut_by
returns-then-m-gt-MOST_PIECES c = fill_over _ _ _ _ _ _ c.loop-r.invariant _ _ c.in-Some.ensures.steps _ _ _ c.put_cut-m.ensures (search rules)

pub loop-r-preserved : goal.loop-r-preserved
unfolding cut_by
loop-r-preserved c = fill_again _ _ _ _ _ _ c.loop-r.invariant _ _ c.in-Some.ensures.steps _ _ _ c.put_cut-m.ensures (search rules)

pub returns : goal.returns
unfolding cut_list cut_by
returns c = fill_end _ _ _ _ _ _ c.loop-r.invariant (search rules)
