-- `fields::read_numbers` meets its contract; its loop is in FieldLoop.
use Rattle.std.proofs.Common.{◌≡◌, Result, Ok, Err, Some, None, OnErr, OnOk}
use Rattle.std.specs.Result.{result_ok}
use Rattle.commands.proofs.FieldLoop.{fields_start, fields_no_number, fields_too_many, fields_again, fields_end}
use Rattle.commands.proofs.fields.read_numbers.Goals as goal

failed : {T E P : Type 0} (r : Result T E) → None ≡ result_ok r → OnErr r P → P
failed (Ok v) e h = cc
failed (Err f) e h = h

passed : {T E P : Type 0} {v : T} (r : Result T E) → Some v ≡ result_ok r → OnOk r P → P
passed (Ok v) e h = h
passed (Err f) e h = cc

pub loop-at-init : goal.loop-at-init
loop-at-init c = rw c.new-numbers.ensures (fields_start _ c.requires)

pub returns-in_err-number : goal.returns-in_err-number
returns-in_err-number c =
    rw c.from_residual.ensures
    (fields_no_number _ _ _ c.loop-at.invariant _ c.loop-at-test.true c.find_byte-end.ensures c.in_err-number.ensures)

pub returns-in_err-ok : goal.returns-in_err-ok
returns-in_err-ok c =
    rw c.from_residual-in_err-ok.ensures
    (fields_too_many _ _ _ c.loop-at.invariant _ c.loop-at-test.true c.find_byte-end.ensures _ c.in_ok-number.ensures
    (failed c.try_push.result c.in_err-ok.ensures.value c.try_push.ensures.full))

pub loop-at-preserved : goal.loop-at-preserved
loop-at-preserved c =
    fields_again _ _ _ c.loop-at.invariant _ c.loop-at-test.true c.find_byte-end.ensures _ c.in_ok-number.ensures _
    (passed c.try_push.result c.in_ok-ok.ensures.value c.try_push.ensures.ok)

pub returns : goal.returns
returns c = search fields_end
