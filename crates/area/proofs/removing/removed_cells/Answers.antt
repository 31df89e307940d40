-- `removing::removed_cells` meets its contract; its loop is in RemovedLoop.
use borrow.Author.Rules.{rules}
use Rattle.geometry.proofs.CellLaws.{Valid}
use Rattle.area.proofs.RemovedLoop.{up_to_limit, removing_start, removing_end, removing_valid, removing_fits, removing_on}
use Rattle.area.proofs.removing.removed_cells.Goals as goal

pub loop-j-init : goal.loop-j-init
loop-j-init c = search removing_start

pub lacking-new-requires : goal.lacking-new-requires
lacking-new-requires c =
    let v : Valid c.rect_at-s.result = search removing_valid in
    search rules

pub lacking-outside-requires : goal.lacking-outside-requires
lacking-outside-requires c =
    let v : Valid c.rect_at-s.result = search removing_valid in
    search rules

pub overflow_sub-sum : goal.overflow_sub-sum
overflow_sub-sum c = search up_to_limit

pub overflow_add-sum : goal.overflow_add-sum
overflow_add-sum c = search removing_fits

pub loop-j-preserved : goal.loop-j-preserved
loop-j-preserved c =
    removing_on _ _ _ _ _ c.loop-j.invariant (search rules) _ c.rect_at-s.ensures _ _
    (rw c.between.ensures at c.lacking-new.ensures) (rw c.between-in-loop-j.ensures at c.lacking-outside.ensures)

pub returns : goal.returns
returns c = search removing_end
