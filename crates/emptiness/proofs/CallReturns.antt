-- The returns of the call.
use Prim.Native.Nat.{ℕ, ◌+◌, ◌≤◌}
use mathlib.Core.Path.{◌≡◌, sym, ap, ◌∙◌}
use mathlib.Core.Bool.{Bool, true, false, cond}
use mathlib.Core.List.{List}
use mathlib.Core.Option.{some}
use Rattle.std.specs.Prelude.{Ok}
use native.Mathlib.Omega.{arith}
use Rattle.geometry.specs.declared.rect.Rect.{Rect}
use Rattle.tree.specs.Emptiness.{ToMatch, at_start, walk_to_match}
use Rattle.plane.specs.Fanout.{fanout, index_space, index_window}
use Rattle.memory.specs.Layout.{part, polygon_in}
use Rattle.memory.specs.Reading.{reading}
use Rattle.memory.specs.TreeIn.{TreeIn}
use Rattle.memory.proofs.ReadingLaws.{read_as}
use Rattle.answers.specs.declared.answer.EmptyFound.{EmptyFound}
use Rattle.answers.specs.Answers.{empty_read}
use Rattle.walks.specs.Walks.{meets_test, inside_test, visits_below}
use Rattle.walks.proofs.TreeWalk.{tree_walkable, root_polygon}
use Rattle.walks.proofs.WalkRows.{visits_few}
use Rattle.emptiness.specs.Below.{to_match_from, to_match_below, found_of}

module _ (m : List ℕ) (level root : ℕ) (w : Rect) (x : TreeIn m level root) where
  pub tree_room : 0 + visits_below (meets_test w) level m 0 root ≤ 256
  tree_room =
      let f = visits_few (meets_test w) (inside_test w) level m 0 root (tree_walkable m level root x) in
      omega arith

  -- the walk in the memory is the walk of the tree
  whole_walk : cond (meets_test w (polygon_in (part m root))) (to_match_below w level m 0 root 0) at_start
      ≡ walk_to_match index_space index_window w (some x.tree)
  unfolding to_match_below to_match_from meets_test
  whole_walk =
      let r = (read_as fanout m x.tree x.reads).root_node in
      rw (root_polygon m level root x, ← x.level_is, ← x.root_is, r)

  -- the answer by how far the walk came
  answer_by : (u : ToMatch) → u ≡ walk_to_match index_space index_window w (some x.tree)
      → Ok (found_of u) ≡ empty_read w (reading fanout m)
  unfolding empty_read
  answer_by u e = rw x.reads (ap (λ (y : ToMatch). Ok (found_of y)) e)

  module _ (b : Bool) (e : b ≡ meets_test w (polygon_in (part m root))) where
    -- the root's polygon shares no cell with the window
    pub tree_outside : b ≡ false → Ok (record { empty = true; visits = 0 }) ≡ empty_read w (reading fanout m)
    tree_outside f =
        let g : meets_test w (polygon_in (part m root)) ≡ false = sym e ∙ f in
        answer_by at_start (rw g at whole_walk)

    -- it shares one
    pub tree_inside : b ≡ true → (r : EmptyFound) → r ≡ found_of (to_match_below w level m 0 root 0)
        → Ok r ≡ empty_read w (reading fanout m)
    tree_inside f r is =
        let g : meets_test w (polygon_in (part m root)) ≡ true = sym e ∙ f in
        ap (λ (y : EmptyFound). Ok y) is ∙ answer_by (to_match_below w level m 0 root 0) (rw g at whole_walk)
