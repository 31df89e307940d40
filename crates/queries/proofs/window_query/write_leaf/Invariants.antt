-- `window_query::write_leaf` meets its contract; its loop is in WindowWrite.
use Rattle.layout.specs.Entries.{entries_left}
use Rattle.queries.proofs.WindowWrite.{WriteLeaf}
use Rattle.queries.proofs.window_query.write_leaf.Given as goal

abbrev pub invariant-loop-e : goal.invariant-loop-e
invariant-loop-e l = WriteLeaf l.w l.p l.initial.list l.at (entries_left l.e-iterator) l.list l.next
