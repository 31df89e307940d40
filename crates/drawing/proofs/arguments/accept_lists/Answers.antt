-- `arguments::accept_lists` meets its contract.
use Rattle.drawing.specs.Arguments.{accepted, is_result}
use Rattle.drawing.specs.Calls.{valid_alone}
use Rattle.drawing.proofs.Accepted.{handed_on, is_true}
use Rattle.drawing.proofs.arguments.accept_lists.Goals as goal

pub returns-in_err-accept : goal.returns-in_err-accept
unfolding valid_alone is_result accepted
returns-in_err-accept c =
    let s = handed_on _ _ c.accept.ensures _ _ c.in_err-accept.was c.from_residual.ensures.1 in
    rw (s.0, s.1)

pub returns : goal.returns
unfolding valid_alone is_result accepted
returns c = rw (is_true _ _ c.accept.ensures c.in_ok-accept.was, ← c.is_list.ensures) c.accept-2.ensures
