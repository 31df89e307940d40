-- `removing::remove_known` meets its contract; its returns are in RemoveReturns.
use Rattle.std.proofs.lemmas.Result.{err_from_is_err_and}
use Rattle.soundness.proofs.OpenLaws.{length_tested}
use Rattle.soundness.proofs.Opened.{opened_empty}
use Rattle.removal.proofs.RemoveReturns.{remove_wrong_length, remove_off_grid, remove_tested, remove_no_tree, remove_empty}
use Rattle.removal.proofs.removing.remove_known.Goals as goal

pub returns-then-not-is_index_length : goal.returns-then-not-is_index_length
returns-then-not-is_index_length c = search remove_wrong_length

pub returns-then-not-on_grid : goal.returns-then-not-on_grid
returns-then-not-on_grid c = search (remove_off_grid, length_tested)

pub returns-in_err-open_known : goal.returns-in_err-open_known
returns-in_err-open_known c =
    let p = err_from_is_err_and c.from_residual.result c.from_residual.ensures.1 in
    rw (p.1, p.2) (search (remove_tested, length_tested, remove_no_tree, c.in_err-open_known.ensures))

pub returns-in-None : goal.returns-in-None
returns-in-None c = search (remove_tested, length_tested, remove_empty, opened_empty, c.in_ok-open_known.ensures)

pub returns-in-Some : goal.returns-in-Some
returns-in-Some c = search (remove_tested, length_tested)
