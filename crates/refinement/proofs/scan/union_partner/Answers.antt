-- `scan::union_partner` meets its contract; the law that it needs is in FindLaws.
use Rattle.std.proofs.Common.{rules}
use Rattle.geometry.specs.Numbers.{rects_in}
use Rattle.refinement.specs.Search.{joins_union}
use Rattle.refinement.proofs.FindLaws.{finds, union_partner_found}
use Rattle.refinement.proofs.scan.union_partner.Goals as goal

pub returns : goal.returns
returns c =
    let test = joins_union (rects_in c.args.list.now c.args.n) c.args.at in
    union_partner_found _ _ _ _
    (finds test _ _ _ _ c.find.ensures.ran
    (λ x b q k. search rules))
