-- The returns of the point query.
use Prim.Native.Nat.{ℕ}
use mathlib.Core.Path.{◌≡◌, sym, ◌∙◌}
use mathlib.Core.Bool.{Bool, true, false, not}
use mathlib.Core.List.{List}
use borrow.Author.Tests.{not-true, not-false}
use Rattle.geometry.specs.declared.rect.Cell.{Cell}
use Rattle.plane.specs.Fanout.{fanout}
use Rattle.memory.specs.Layout.{part, polygon_in}
use Rattle.memory.specs.Reading.{reading}
use Rattle.memory.specs.TreeIn.{TreeIn}
use Rattle.std.specs.Prelude.{None, Ok, Err}
use Rattle.soundness.specs.Open.{NoTree, OpenedAs}
use Rattle.answers.specs.declared.answer.Refusal.{Refusal}
use Rattle.tree.specs.Lists.{keep}
use Rattle.answers.specs.declared.answer.PointFound.{PointFound}
use Rattle.answers.specs.Answers.{point_end, point_read}
use Rattle.walks.specs.Walks.{has_test, visits_below, held_below}
use Rattle.walks.proofs.TreeWalk.{tree_visits, tree_entry_lem}
use Rattle.queries.specs.Point.{found}

module _ (m : List ℕ) (level root : ℕ) (c : Cell) (v : TreeIn m level root) (b : Bool) (e : b ≡ has_test c (polygon_in (part m root))) where
  -- the root's polygon does not have the cell
  pub point_outside : not b ≡ true → Ok (record { tag = None; visits = 0 }) ≡ point_read c (reading fanout m)
  unfolding point_read point_end
  point_outside f =
      let g : has_test c (polygon_in (part m root)) ≡ false = sym e ∙ not-true b f in
      rw (v.reads, ← (tree_entry_lem m level root v c), ← (tree_visits m level root v c), g)

  pub point_walked : (d : PointFound) → not b ≡ false → d ≡ found (held_below c level m 0 root) (visits_below (has_test c) level m 0 root) → Ok d ≡ point_read c (reading fanout m)
  unfolding point_read found
  point_walked d f g =
      let h : has_test c (polygon_in (part m root)) ≡ true = sym e ∙ not-false b f in
      rw (g, v.reads, ← (tree_entry_lem m level root v c), ← (tree_visits m level root v c), h)

-- what is answered where the memory reads as no tree, or as the empty index
module _ (m : List ℕ) (c : Cell) where
  pub point_no_tree : (r : Refusal) → NoTree m r → Err r ≡ point_read c (reading fanout m)
  unfolding point_read
  point_no_tree r p = rw (p.reason, p.reads)

  pub point_empty : OpenedAs m (Ok None) → Ok (record { tag = None; visits = 0 }) ≡ point_read c (reading fanout m)
  unfolding point_read point_end keep
  point_empty p = rw p

pub ruleset without_tree = (point_no_tree, point_empty)
