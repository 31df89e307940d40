-- `check::none_meets` meets its contract.
use mathlib.Core.Path.{◌∙◌}
use Rattle.std.proofs.Common.{rules, tests}
use Rattle.std.proofs.lemmas.Iterator.{YieldsList-from_slice}
use Rattle.std.proofs.lemmas.Iterator.Adapters.{serves_from_places}
use Rattle.std.proofs.lemmas.Iterator.Search.{all_from_yields_List}
use Rattle.cover.proofs.PassLoops.{list_all-pass}
use Rattle.soundness.specs.Check.{parts_apart}
use Rattle.soundness.proofs.CheckLoops.{part_among}
use Rattle.soundness.proofs.check.none_meets.Goals as goal

pub all-requires-clause-callable : goal.all-requires-clause-callable
all-requires-clause-callable c =
    serves_from_places (YieldsList-from_slice c.args.others.now cc) (λ x q k. search (rules, tests))
    (λ x k h e. let d = part_among c.args.m.now c.args.others.now c.requires.polygon_parts k x.now h e in search (rules, d))

pub returns : goal.returns
returns c =
    all_from_yields_List (parts_apart c.args.m.now c.args.k) _ _ _ c.all.ensures.ran (YieldsList-from_slice c.args.others.now cc)
    (λ x b q k. search (rules, tests))
    ∙ list_all-pass _ _
