-- `containment::contains` meets its contract; what the test answers is in ContainmentLoop.
use Rattle.std.proofs.Common.{rules}
use Rattle.geometry.proofs.ContainmentLoop.{from_place}
use Rattle.geometry.proofs.RectsChains.{place_in_rects}
use Rattle.geometry.proofs.containment.contains.Goals as goal

pub returns : goal.returns
returns c = from_place _ c.args.c _ _ _
    (place_in_rects c.args.c c.args.rects c.position.new.self _ _ c.position.ensures.ran (λ x b q k. search rules)) c.len-n.ensures c.at.ensures
