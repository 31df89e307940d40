-- `covering::next_shared` meets its contract; what the `find` gives is in SkipLaws.
use Rattle.std.proofs.Common.{rules}
use Rattle.cover.proofs.SkipLaws.{next_found}
use Rattle.cover.proofs.covering.next_shared.Goals as goal

pub returns : goal.returns
returns c = next_found _ c.args.r _ (λ x b q k. search rules) _ c.args.rects.now c.find.new.self c.find.ensures.ran
