-- `covering::inside` meets its contract.
use Rattle.std.proofs.Common.{rules, ◌∙◌}
use Rattle.geometry.specs.Rects.{rects_left}
use Rattle.geometry.proofs.RectsChains.{all_rects}
use Rattle.cover.specs.Tests.{covered_by, inside_of}
use Rattle.cover.proofs.PassLoops.{list_all-pass}
use Rattle.cover.proofs.covering.inside.Goals as goal

pub returns : goal.returns
unfolding inside_of
returns c = all_rects (covered_by (rects_left c.args.p)) c.args.q c.all.new.self _ _ c.all.ensures.ran (λ x b q k. search rules) ∙ list_all-pass _ _
