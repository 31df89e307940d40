-- `polygon_refine::first_near` meets its contract; the law that it needs is in PairLoops.
use Rattle.std.proofs.Common.{rules, get_or}
use Rattle.geometry.specs.Cells.{no_rect}
use Rattle.refinement.specs.Pairs.{near}
use Rattle.refinement.proofs.FindLaws.{finds}
use Rattle.refinement.proofs.PairLoops.{first_apart}
use Rattle.refinement.proofs.polygon_refine.first_near.Goals as goal

pub returns-clause-apart : goal.returns-clause-apart
returns-clause-apart c =
    let l = c.args.p.rects in
    let i = c.args.i in
    let f = finds (λ k. near (get_or l k no_rect) (get_or l i no_rect)) _ _ _ _ c.find.ensures.ran (λ x b q k. search rules) in
    search (first_apart, f)
