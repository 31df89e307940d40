-- `siblings::cut_by_parts` meets its contract; its loop is in SiblingLoop.
use Rattle.choose_branch.proofs.SiblingLoop.{CuttingBy}
use Rattle.choose_branch.proofs.siblings.cut_by_parts.Given as goal

abbrev pub invariant-loop-part : goal.invariant-loop-part
invariant-loop-part l = CuttingBy l.m l.parts l.initial.list l.n l.initial.spare l.list l.spare l.remaining l.part-index
