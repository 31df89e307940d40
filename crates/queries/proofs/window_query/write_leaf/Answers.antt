-- `window_query::write_leaf` meets its contract; its loop is in WindowWrite.
use Rattle.std.proofs.Common.{ap, ◌∙◌}
use Rattle.layout.specs.Entries.{entries_left}
use Rattle.queries.proofs.WindowWrite.{write_start, write_room, write_hit, write_miss, write_end}
use Rattle.queries.proofs.window_query.write_leaf.Goals as goal

pub loop-e-init : goal.loop-e-init
loop-e-init c =
    write_start _ _ _ _ c.requires _
    (ap entries_left c.into_iter-e-iterator.ensures.into_iter_gives ∙ c.entries-e-items.ensures)

pub put_listed-requires : goal.put_listed-requires
put_listed-requires c = search (write_room, c.in-Some.ensures.steps)

pub loop-e-preserved-then-has_cell : goal.loop-e-preserved-then-has_cell
loop-e-preserved-then-has_cell c = search (write_hit, c.in-Some.ensures.steps)

pub loop-e-preserved : goal.loop-e-preserved
loop-e-preserved c = search (write_miss, c.in-Some.ensures.steps)

pub returns : goal.returns
returns c = search (write_end, c.in-None.ensures.steps)
