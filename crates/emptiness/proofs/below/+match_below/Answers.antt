-- `below::match_below` meets its contract, with the level as its measure.
use native.Mathlib.Omega.{arith}
use borrow.Author.Rules.{rules}
use Rattle.walks.proofs.WalkRows.{node_part_lem}
use Rattle.walks.proofs.WalkLoop.{child_walkable, child_polygon, child_fits}
use Rattle.walks.proofs.WalkChildren.{children_here, child_here}
use Rattle.emptiness.proofs.MatchLeaf.{match_leaf}
use Rattle.emptiness.proofs.MatchLoop.{match_start, match_end, match_miss, match_room, match_stop, match_on}
use Rattle.emptiness.proofs.below.+match_below.Goals as goal
use Rattle.emptiness.proofs.below.+match_below.Goals.{then-polygon_meets+else-not-below, else-polygon_meets}

pub match_in_leaf-requires : goal.match_in_leaf-requires
match_in_leaf-requires t c = search node_part_lem

pub returns-then-level-eq0 : goal.returns-then-level-eq0
returns-then-level-eq0 t c = search match_leaf

pub loop-part-init : goal.loop-part-init
loop-part-init t c = search (match_start, children_here)

pub polygon_meets-requires : goal.polygon_meets-requires
polygon_meets-requires t c = search (child_polygon, child_here)

pub match_below-below-requires : goal.match_below-below-requires
match_below-below-requires t c = (omega arith, (search (child_walkable, child_here), search (match_room, child_here)))

pub returns-then-not-below : goal.returns-then-not-below
returns-then-not-below t c =
    match_stop _ _ _ _ _ _ _ _ _ _
    c.loop-part.invariant
    (search rules)
    _
    (search child_here)
    _
    c.polygon_meets.ensures
    c.if-polygon_meets.true
    _
    c.match_below-below.ensures
    c.if-not-below.true

pub overflow_add-low : goal.overflow_add-low
overflow_add-low t c = search (child_fits, child_here)

pub loop-part-preserved : goal.loop-part-preserved
loop-part-preserved t c =
    let inv = c.loop-part.invariant in
    elim c.if-polygon_meets.branch [
      | then-polygon_meets+else-not-below x ↦
          match_on _ _ _ _ _ _ _ _ _ _ inv (search rules) _ (search child_here)
          _ c.polygon_meets.ensures x.if-polygon_meets.true _ x.match_below-below.ensures _ x.if-not-below.false x.so_far-is
      | else-polygon_meets x ↦
          match_miss _ _ _ _ _ _ _ _ _ _ inv (search rules) _ (search child_here)
          _ c.polygon_meets.ensures _ x.if-polygon_meets.false x.so_far-is
    ]

pub returns : goal.returns
returns t c = search match_end
