-- `nearest_below` meets its contract, with the level as its measure.
use mathlib.Core.Path.{◌∙◌}
use native.Mathlib.Omega.{arith}
use borrow.Author.Rules.{rules}
use Rattle.walks.proofs.WalkRows.{node_part_lem}
use Rattle.walks.proofs.WalkLoop.{child_fits}
use Rattle.walks.proofs.WalkChildren.{children_here, child_here}
use Rattle.nearest.proofs.NearLoop.{enter_room, near_leaf, near_start, near_end, near_child, near_polygon, near_room, near_good, near_miss, near_hit}
use Rattle.nearest.proofs.NearSound.{leaf_on_grid}
use Rattle.nearest.proofs.below.+nearest_below.Goals as goal
use Rattle.nearest.proofs.below.+nearest_below.Goals.{else-enters, then-enters}

pub entered-entered-requires : goal.entered-entered-requires
entered-entered-requires t c = search enter_room

pub nearest_in_leaf-requires-clause-node_part : goal.nearest_in_leaf-requires-clause-node_part
nearest_in_leaf-requires-clause-node_part t c = search node_part_lem

pub nearest_in_leaf-requires-clause-all : goal.nearest_in_leaf-requires-clause-all
nearest_in_leaf-requires-clause-all t c = search leaf_on_grid

pub returns-then-level-eq0 : goal.returns-then-level-eq0
returns-then-level-eq0 t c = search near_leaf

pub loop-part-init : goal.loop-part-init
loop-part-init t c = search (near_start, children_here)

pub polygon_distance-requires-clause-good_polygon_part : goal.polygon_distance-requires-clause-good_polygon_part
polygon_distance-requires-clause-good_polygon_part t c = search (near_polygon, child_here)

pub nearest_below-best-requires : goal.nearest_below-best-requires
nearest_below-best-requires t c =
    let inv = c.loop-part.invariant in (
      omega arith,
      (
        search (near_child, child_here),
        (
          search rules,
          (
            search near_good,
            near_room _ _ _ _ _ _ _ _ _ _ inv (search rules) _ (search child_here) c.args.met (search rules)
                c.entered-entered.ensures (search rules),
          ),
        ),
      ),
    )

pub overflow_add-low : goal.overflow_add-low
overflow_add-low t c = search (child_fits, child_here)

pub loop-part-preserved : goal.loop-part-preserved
loop-part-preserved t c =
    let inv = c.loop-part.invariant in
    elim c.if-enters.branch [
      | then-enters x ↦
          near_hit _ _ _ _ _ _ _ _ _ _ inv (search rules) _ (search child_here)
          _ c.polygon_distance.ensures _ c.enters.ensures _ x.if-enters.true (x.best-is ∙ x.nearest_below-best.ensures)
      | else-enters x ↦
          near_miss _ _ _ _ _ _ _ _ _ _ inv (search rules) _ (search child_here)
          _ c.polygon_distance.ensures _ c.enters.ensures _ x.if-enters.false x.best-is
    ]

pub returns : goal.returns
returns t c = search near_end
