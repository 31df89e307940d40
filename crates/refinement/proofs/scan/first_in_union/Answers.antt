-- `scan::first_in_union` meets its contract; the law that it needs is in FindLaws.
use Rattle.std.proofs.Common.{rules}
use Rattle.std.proofs.lemmas.Iterator.{serves_from_Range}
use Rattle.geometry.specs.Numbers.{rects_in}
use Rattle.refinement.specs.Search.{in_union}
use Rattle.refinement.proofs.FindLaws.{finds, union_inside, union_found}
use Rattle.refinement.proofs.scan.first_in_union.Goals as goal

pub find-requires-clause-callable : goal.find-requires-clause-callable
find-requires-clause-callable c =
    let g = union_inside _ _ _ c.requires.only_container in
    serves_from_Range (λ x q k. search rules) (λ x low high. search rules)

pub returns : goal.returns
returns c =
    let test = in_union (rects_in c.args.list.now c.args.n) c.args.at in
    union_found _ _ _ _ c.requires.only_container
    (finds test _ _ _ _ c.find.ensures.ran
    (λ x b q k. search rules))
