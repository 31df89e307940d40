-- `bytes::put_little` meets its contract.
use Rattle.wkb.proofs.LittleLoop.{Writing}
use Rattle.wkb.proofs.bytes.put_little.Given as goal

abbrev pub invariant-loop-i : goal.invariant-loop-i
invariant-loop-i l = Writing l.initial.out l.at l.k l.v l.out l.rest l.i
