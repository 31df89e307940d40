-- `scan::first_contained` meets its contract; the law that it needs is in FindLaws.
use Rattle.std.proofs.Common.{rules}
use Rattle.geometry.specs.Numbers.{rects_in}
use Rattle.geometry.specs.Refine.{contained}
use Rattle.refinement.proofs.FindLaws.{finds, contained_found}
use Rattle.refinement.proofs.scan.first_contained.Goals as goal

pub returns : goal.returns
returns c =
    let test = contained (rects_in c.args.list.now c.args.n) in
    contained_found _ _ _ _ c.requires.uncontained_before
    (finds test _ _ _ _ c.find.ensures.ran
    (λ x b q k. search rules))
