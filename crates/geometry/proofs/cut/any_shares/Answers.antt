-- `cut::any_shares` meets its contract; what the chain answers is in RectsChains.
use Rattle.std.proofs.Common.{rules}
use Rattle.geometry.specs.Common.{shares_with}
use Rattle.geometry.proofs.RectsChains.{any_rects}
use Rattle.geometry.proofs.cut.any_shares.Goals as goal

pub returns : goal.returns
returns c = any_rects (shares_with c.args.s) c.args.rects c.any.new.self _ _ c.any.ensures.ran (λ x b q k. search rules)
