-- `totals::total_area` meets its contract; its loop is in TotalLoop.
use Rattle.std.proofs.Common.{rules}
use Rattle.area.proofs.TotalLoop.{total_end, total_wide, total_high, total_fits, total_on}
use Rattle.area.proofs.totals.total_area.Goals as goal

pub area-sum-requires-clause-llx_le_urx : goal.area-sum-requires-clause-llx_le_urx
area-sum-requires-clause-llx_le_urx c = total_wide _ _ _ c.loop-r.invariant _ _ c.in-Some.ensures.steps

pub area-sum-requires-clause-lly_le_ury : goal.area-sum-requires-clause-lly_le_ury
area-sum-requires-clause-lly_le_ury c = total_high _ _ _ c.loop-r.invariant _ _ c.in-Some.ensures.steps

pub overflow_add-sum : goal.overflow_add-sum
overflow_add-sum c = record { fits = total_fits _ _ _ c.loop-r.invariant _ _ c.in-Some.ensures.steps _ c.area-sum.ensures }

pub loop-r-preserved : goal.loop-r-preserved
loop-r-preserved c = total_on _ _ _ c.loop-r.invariant _ _ c.in-Some.ensures.steps _ c.area-sum.ensures

pub returns : goal.returns
returns c = total_end _ _ _ c.loop-r.invariant (search rules)
