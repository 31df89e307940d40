-- `scans::are_apart` meets its contract.
use Rattle.std.proofs.Common.{rules, not, ◌∙◌}
use Rattle.polygons.specs.Lists.{any}
use Rattle.geometry.specs.Common.{shares_with}
use Rattle.geometry.specs.Rects.{rects_left}
use Rattle.geometry.proofs.RectsChains.{all_rects}
use Rattle.cover.specs.Tests.{apart}
use Rattle.cover.proofs.PassLoops.{list_all-pass}
use Rattle.cover.proofs.scans.are_apart.Goals as goal

pub returns : goal.returns
unfolding apart
returns c = all_rects (λ r. not (any (shares_with r) (rects_left c.args.q))) c.args.p c.all.new.self _ _ c.all.ensures.ran (λ x b q k. search rules)
    ∙ list_all-pass _ _
