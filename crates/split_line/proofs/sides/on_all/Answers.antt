-- `sides::on_all` meets its contract.
use mathlib.Core.Path.{◌∙◌}
use Rattle.std.proofs.Common.{rules, tests}
use Rattle.std.proofs.lemmas.Iterator.{YieldsList-from_slice}
use Rattle.std.proofs.lemmas.Iterator.Search.{all_from_yields_List}
use Rattle.split_line.specs.Sides.{on_side}
use Rattle.split_line.proofs.SideLaws.{all_every}
use Rattle.split_line.proofs.sides.on_all.Goals as goal

pub returns : goal.returns
returns c =
    all_from_yields_List (λ s. on_side s c.args.c) _ _ _ c.all.ensures.ran (YieldsList-from_slice c.args.sides.now (cc)) (λ x b q k. search (rules, tests))
    ∙ all_every c.args.sides.now c.args.c
