-- `covering::none_remaining` meets its contract: the four pieces of a cut.
use Rattle.std.proofs.Common.{arith, sym, ◌∙◌}
use Rattle.std.proofs.lemmas.Bool.{not-false}
use Rattle.cover.proofs.CoverLaws.{remaining_pieces}
use Rattle.cover.proofs.covering.+none_remaining.Goals as goal

pub returns-then-none_remaining-3 : goal.returns-then-none_remaining-3
returns-then-none_remaining-3 t c =
    let e = remaining_pieces _ _ (not-false _ (sym c.is_empty.ensures ∙ c.if-is_empty.false)) _ _ c.in-Some.ensures in
    grind arith

pub returns-else-none_remaining-3 : goal.returns-else-none_remaining-3
returns-else-none_remaining-3 t c =
    let e = remaining_pieces _ _ (not-false _ (sym c.is_empty.ensures ∙ c.if-is_empty.false)) _ _ c.in-Some.ensures in
    grind arith
