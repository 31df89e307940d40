-- `numbers::all_valid` meets its contract; what the chain answers is in RectsChains.
use Rattle.std.proofs.Common.{rules, ◌∙◌}
use Rattle.geometry.specs.Cells.{valid}
use Rattle.geometry.proofs.RectsLaws.{list_all-valid}
use Rattle.geometry.proofs.RectsChains.{all_rects}
use Rattle.geometry.proofs.numbers.all_valid.Goals as goal

pub returns : goal.returns
returns c = all_rects valid c.args.rects c.all.new.self _ _ c.all.ensures.ran (λ x b q k. search rules) ∙ list_all-valid _
