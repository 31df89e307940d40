-- `part::node_fits` meets its contract.
use mathlib.Core.Path.{sym, ◌∙◌}
use Rattle.layout.proofs.PartLaws.{counted_part}
use Rattle.layout.proofs.part.node_fits.Goals as goal

pub rest_zero-requires-clause-node_part : goal.rest_zero-requires-clause-node_part
rest_zero-requires-clause-node_part c = counted_part _ c.part_at-p.ensures.part (sym c.counts_fit.ensures ∙ c.if-counts_fit.true)
