-- `window_query::window_known` meets its contract; its returns are in WindowReturns.
use Rattle.soundness.proofs.OpenLaws.{length_tested}
use Rattle.soundness.proofs.Opened.{opened_empty}
use Rattle.queries.proofs.WindowReturns.{window_tested, window_empty}
use Rattle.queries.proofs.window_query.window_known.Goals as goal

pub returns-in-None : goal.returns-in-None
returns-in-None c = search (window_tested, length_tested, window_empty, opened_empty, c.in_ok-open_known.ensures)
