-- `insert_call::insert_known` meets its contract; the laws that it needs are in InsertReturns.
use borrow.Author.Tests.{not-true, not-false}
use Rattle.std.proofs.lemmas.Result.{err_from_is_err_and}
use Rattle.soundness.proofs.OpenLaws.{right_is}
use Rattle.insertion.proofs.InsertReturns.{wrong_length, wrong_work, off_grid, call_done, into_no_tree, into_done}
use Rattle.insertion.proofs.insert_call.insert_known.Goals as goal

pub returns-then-not-is_index_length : goal.returns-then-not-is_index_length
returns-then-not-is_index_length c = search wrong_length

pub returns-then-work-m : goal.returns-then-work-m
returns-then-work-m c = search (wrong_work, right_is, not-false)

pub returns-then-not-on_grid : goal.returns-then-not-on_grid
returns-then-not-on_grid c = search (off_grid, right_is, not-true, not-false)

pub returns-in_err-open_known : goal.returns-in_err-open_known
returns-in_err-open_known c =
    let p = err_from_is_err_and c.from_residual.result c.from_residual.ensures.1 in
    rw (p.1, p.2) (search (call_done, right_is, into_no_tree, c.in_err-open_known.ensures))

pub returns-in-None : goal.returns-in-None
returns-in-None c = search (call_done, right_is, into_done)

pub returns-in-Some : goal.returns-in-Some
returns-in-Some c = search (call_done, right_is)
