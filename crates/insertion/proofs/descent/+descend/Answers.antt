-- `descent::descend` meets its contract; the laws that it needs are in DescentLaws and DescentReturns.
use native.Mathlib.Omega.{arith}
use Rattle.insertion.proofs.DescentLaws.{at_leaf, at_leaf_removed}
use Rattle.insertion.proofs.DescentReturns.{removed_room, removed_on, descend_routing, descend_stop, place_cast, place_few, descend_child, descend_on}
use Rattle.insertion.proofs.descent.+descend.Goals as goal

pub returns-then-level-eq0-clause-descended : goal.returns-then-level-eq0-clause-descended
returns-then-level-eq0-clause-descended t c = search at_leaf

pub returns-then-level-eq0-clause-removed_below : goal.returns-then-level-eq0-clause-removed_below
returns-then-level-eq0-clause-removed_below t c = search at_leaf_removed

pub choose-requires-clause-routing : goal.choose-requires-clause-routing
choose-requires-clause-routing t c = search descend_routing

pub returns-in_err-choice-clause-descended : goal.returns-in_err-choice-clause-descended
returns-in_err-choice-clause-descended t c = search (descend_stop, c.in_err-choice.ensures.choice_is)

pub overflow_cast-path : goal.overflow_cast-path
overflow_cast-path t c = search (place_cast, c.in_ok-choice.ensures.choice_is)

pub child_at-requires-clause-i_bound : goal.child_at-requires-clause-i_bound
child_at-requires-clause-i_bound t c = search (place_few, c.in_ok-choice.ensures.choice_is)

pub descend-requires : goal.descend-requires
descend-requires t c = (
  omega arith,
  (
    descend_child _ _ _ _ c.requires.descending c.if-level-eq0.false _ _ _ c.in_ok-choice.choice c.in_ok-choice.ensures.choice_is
        _ _ c.child_at.ensures _ c.of.ensures,
    removed_room _ _ _ _ c.in_ok-choice.choice c.in_ok-choice.ensures.removed_at c.if-level-eq0.false _ c.requires.level_bound,
  ),
)

pub returns-clause-descended : goal.returns-clause-descended
returns-clause-descended t c =
    descend_on _ _ _ _ c.requires.descending c.if-level-eq0.false _ _ _ c.in_ok-choice.choice c.in_ok-choice.ensures.choice_is
    _ _ c.child_at.ensures _ c.of.ensures _ c.descend.result c.descend.ensures.descended

pub returns-clause-removed_below : goal.returns-clause-removed_below
returns-clause-removed_below t c =
    removed_on _ _ _ _ c.requires.descending c.if-level-eq0.false _ _ _ c.in_ok-choice.choice c.in_ok-choice.ensures.choice_is
    _ _ c.child_at.ensures _ c.of.ensures c.in_ok-choice.ensures.removed_at _ c.descend.result c.descend.ensures.removed_below
