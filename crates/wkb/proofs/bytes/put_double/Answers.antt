-- `bytes::put_double` meets its contract.
use borrow.Author.Rules.{rules}
use native.Mathlib.Omega.{arith}
use Rattle.wkb.specs.Doubles.{double_bytes}
use Rattle.wkb.proofs.DoubleLaws.{double_no_nan}
use Rattle.wkb.proofs.bytes.put_double.Goals as goal

pub float_to_bits-n : goal.float_to_bits-n
float_to_bits-n c = double_no_nan c.args.n (omega arith)

pub returns : goal.returns
unfolding double_bytes
returns c = search rules
