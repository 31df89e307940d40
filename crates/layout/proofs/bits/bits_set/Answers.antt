-- `bits::bits_set` meets its contract.
use mathlib.Core.Path.{◌∙◌}
use native.Mathlib.Omega.{arith}
use lib.Count.{ones}
use lib.ListN.{take}
use Rattle.std.proofs.Common.{rules, tests}
use Rattle.std.proofs.lemmas.Iterator.{YieldsList-from_slice, YieldsList-from_map}
use Rattle.std.proofs.lemmas.Iterator.Consumers.{sum_by_from_yields_List, fits_by_from_yields_list}
use Rattle.layout.proofs.BitLaws.{ones_sum, few_ones}
use Rattle.layout.proofs.bits.bits_set.Goals as goal

pub sum-requires-clause-fits : goal.sum-requires-clause-fits
sum-requires-clause-fits c = fits_by_from_yields_list ones (take 8 c.args.m.now) _ _
    (YieldsList-from_map _ ones (YieldsList-from_slice _ cc) c.map.ensures.closure (λ x r q k. search (rules, tests)))
    (omega (arith, few_ones c.args.m.now c.type_inv.m))

pub returns : goal.returns
returns c = sum_by_from_yields_List ones (take 8 c.args.m.now) _ _ c.sum.ensures.ran
    (YieldsList-from_map _ ones (YieldsList-from_slice _ cc) c.map.ensures.closure (λ x r q k. search (rules, tests)))
    ∙ ones_sum (take 8 c.args.m.now)
