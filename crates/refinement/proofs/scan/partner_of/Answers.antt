-- `scan::partner_of` meets its contract; the law that it needs is in FindLaws.
use Rattle.std.proofs.Common.{rules}
use Rattle.geometry.specs.Numbers.{rect_at}
use Rattle.geometry.specs.Refine.{joinable}
use Rattle.refinement.proofs.FindLaws.{finds, partner_found}
use Rattle.refinement.proofs.scan.partner_of.Goals as goal

pub returns : goal.returns
returns c =
    let r = c.rect_at-r.result in
    let l = c.args.list.now in
    partner_found _ _ _ _ r c.requires.i_lt_n c.rect_at-r.ensures
    (finds (λ k. joinable r (rect_at l k)) _ _ _ _ c.find.ensures.ran
    (λ x b q k. search rules))
