-- `scan::is_strictly_within_any` meets its contract.
use Rattle.std.proofs.Common.{rules}
use Rattle.geometry.specs.Refine.{strictly_within}
use Rattle.geometry.proofs.RectsChains.{any_rects}
use Rattle.refinement.proofs.scan.is_strictly_within_any.Goals as goal

pub returns : goal.returns
returns c = any_rects (strictly_within c.args.r) c.args.rects c.any.new.self _ _ c.any.ensures.ran (λ x b q k. search rules)
