-- `window_query::window_in_tree` meets its contract; its returns are in WindowReturns.
use Rattle.walks.proofs.TreeWalk.{tree_walkable, tree_polygon}
use Rattle.queries.proofs.WindowReturns.{window_outside, window_short, window_room, window_written_lem}
use Rattle.queries.proofs.window_query.window_in_tree.Goals as goal

pub polygon_meets-requires : goal.polygon_meets-requires
polygon_meets-requires c = search tree_polygon

pub returns-then-not-polygon_meets : goal.returns-then-not-polygon_meets
returns-then-not-polygon_meets c = search window_outside

pub count_below-found-requires : goal.count_below-found-requires
count_below-found-requires c = search tree_walkable

pub returns-then-list-matches : goal.returns-then-list-matches
returns-then-list-matches c = search window_short

pub write_below-requires : goal.write_below-requires
write_below-requires c = search window_room

pub returns : goal.returns
returns c = search window_written_lem
