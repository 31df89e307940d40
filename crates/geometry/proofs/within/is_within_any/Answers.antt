-- `within::is_within_any` meets its contract; what the chain answers is in RectsChains.
use Rattle.std.proofs.Common.{rules}
use Rattle.geometry.specs.Refine.{within}
use Rattle.geometry.proofs.RectsChains.{any_rects}
use Rattle.geometry.proofs.within.is_within_any.Goals as goal

pub returns : goal.returns
returns c = any_rects (within c.args.r) c.args.rects c.any.new.self _ _ c.any.ensures.ran (λ x b q k. search rules)
