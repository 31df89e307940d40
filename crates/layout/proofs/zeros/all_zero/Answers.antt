-- `zeros::all_zero` meets its contract.
use mathlib.Core.Path.{ap, ◌∙◌}
use lib.Bits.{bit_or}
use lib.Dec.{eqb}
use Rattle.std.proofs.Common.{rules, tests}
use Rattle.std.proofs.lemmas.Iterator.{YieldsList-from_slice}
use Rattle.std.proofs.lemmas.Iterator.Consumers.{fold_from_yields_List}
use Rattle.layout.proofs.ZeroLaws.{zero_fold}
use Rattle.layout.proofs.zeros.all_zero.Goals as goal

pub returns : goal.returns
returns c =
    ap (λ z. eqb z 0) (fold_from_yields_List _ bit_or 0 _ c.fold.ensures.ran (YieldsList-from_slice c.args.s.now cc) (λ a x b q k. search (rules, tests)))
    ∙ zero_fold 0 c.args.s.now
