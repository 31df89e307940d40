-- `part::others_zero` meets its contract.
use mathlib.Core.Path.{◌∙◌}
use mathlib.Core.Bool.{◌||◌}
use Rattle.std.proofs.Common.{rules, tests}
use Rattle.std.proofs.lemmas.Iterator.{YieldsList-from_range}
use Rattle.std.proofs.lemmas.Iterator.Search.{all_from_yields_List}
use Rattle.memory.specs.Layout.{parts_of, part, in_use, all_zero}
use Rattle.layout.proofs.PartLaws.{unused_all}
use Rattle.layout.proofs.part.others_zero.Goals as goal

pub returns : goal.returns
returns c =
    all_from_yields_List (λ k. in_use c.args.m.now k || all_zero (part c.args.m.now k)) _ _ _ c.all.ensures.ran
    (YieldsList-from_range 0 (parts_of c.args.m.now) _ (search rules) (search rules)) (λ x b q k. search (rules, tests))
    ∙ unused_all c.args.m.now (parts_of c.args.m.now)
