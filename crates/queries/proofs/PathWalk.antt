-- The path of the point query's walk: a step down to the child that has the cell, the end where none has it, the loop
-- over the levels.
use Prim.Native.Nat.{ℕ, suc, ◌+◌, ◌-◌, ◌≤◌, ◌<◌}
use mathlib.Core.Path.{◌≡◌, sym, ◌∙◌}
use mathlib.Core.Bool.{true, false}
use mathlib.Core.List.{List, []}
use native.Mathlib.Omega.{arith}
use lib.ListN.{get_or}
use Rattle.geometry.specs.declared.rect.Cell.{Cell}
use Rattle.tree.specs.Lists.{All}
use Rattle.tree.proofs.Lists.{all_of}
use Rattle.tree.proofs.OneBranch.{visits_one, entries_one, visits_none, entries_none}
use Rattle.plane.specs.Fanout.{index_space}
use Rattle.memory.specs.Layout.{part, children_in}
use Rattle.layout.specs.Nodes.{count_at, NodePart}
use Rattle.walks.specs.declared.child.Child.{Child}
use Rattle.walks.specs.Walks.{has_test, cell_test, visits_from, visits_below, entries_from, entries_below, held_below, leaf_entries, Walkable, SoundWalk}
use Rattle.walks.specs.Children.{Children, NoneBefore, FirstChild, ChildIs}
use Rattle.walks.proofs.ChildLaws.{blank, branch_count, in_branches, child_is, child_reads, child_polygon, child_sound_walk, children_of}
use Rattle.walks.proofs.WalkRows.{leaf_visits, leaf_entries_lem, node_part_lem, visits_few}
use Rattle.std.specs.Prelude.{Option, Some, None}
use Rattle.answers.specs.declared.answer.PointFound.{PointFound}
use Rattle.answers.specs.Answers.{point_end}
use Rattle.queries.specs.Point.{found}

-- from a sound node
module _ (c : Cell) (n : ℕ) (m : List ℕ) (lo k : ℕ) (v : SoundWalk (suc n) m lo k) where
  -- to its child that has the cell
  module _ (i low j : ℕ) (q : FirstChild m lo k c i low j) where
    part_is : j ≡ get_or (children_in (part m k)) i 0
    part_is = q.part_is ∙ sym (child_is n m lo k v i q.place.inside)

    child_has : has_test c (get_or v.walk.node.child i (blank n m lo k v)).poly ≡ true
    child_has = rw (child_polygon n m lo k v i q.place.inside) q.place.has

    step_walk : SoundWalk n m low j
    step_walk = rw (q.low_is, part_is) (child_sound_walk n m lo k v i q.place.inside)

    step_visits : visits_below (has_test c) (suc n) m lo k ≡ 1 + visits_below (has_test c) n m low j
    unfolding visits_below visits_from has_test
    step_visits = rw (q.low_is, part_is, v.walk.reads, child_reads n m lo k v i q.place.inside)
        (visits_one index_space c (cell_test c) n v.around v.walk.node v.sound i (blank n m lo k v)
        (in_branches n m lo k v i q.place.inside) child_has)

    step_entries : held_below c (suc n) m lo k ≡ held_below c n m low j
    unfolding entries_below entries_from has_test
    step_entries = rw (q.low_is, part_is, v.walk.reads, child_reads n m lo k v i q.place.inside)
        (entries_one index_space c (cell_test c) n v.around v.walk.node v.sound i (blank n m lo k v)
        (in_branches n m lo k v i q.place.inside) child_has)

  -- where no child has the cell
  module _ (q : NoneBefore m k c (count_at m k)) where
    none_has : All (λ b. has_test c b.poly ≡ false) v.walk.node.child
    none_has = all_of (λ b. has_test c b.poly ≡ false) v.walk.node.child (blank n m lo k v) λ i h.
        let s : i < count_at m k = (let e = branch_count n m lo k v in omega arith) in
        rw (child_polygon n m lo k v i s) (q i s)

    end_visits : visits_below (has_test c) (suc n) m lo k ≡ 1
    unfolding visits_below visits_from
    end_visits = rw v.walk.reads
        (visits_none index_space (has_test c) (cell_test c) n v.walk.node.child none_has)

    end_entries : held_below c (suc n) m lo k ≡ []
    unfolding entries_below entries_from
    end_entries = rw v.walk.reads
        (entries_none index_space (has_test c) (cell_test c) n v.walk.node.child none_has)

-- The walk from part k came to part p, so many levels below it: as many nodes were entered before p.
pub record OnPath (c : Cell) (level : ℕ) (m : List ℕ) (lo k depth from p : ℕ) : Type 0 where
  pub inside : depth ≤ level
  pub walk : SoundWalk (level - depth) m from p
  pub visits_are : depth + visits_below (has_test c) (level - depth) m from p ≡ visits_below (has_test c) level m lo k
  pub entries_are : held_below c (level - depth) m from p ≡ held_below c level m lo k
  pub few : visits_below (has_test c) level m lo k ≤ 256

module _ (c : Cell) (level : ℕ) (m : List ℕ) (lo k : ℕ) where
  pub path_start : SoundWalk level m lo k → OnPath c level m lo k 0 lo k
  path_start v =
      let z : level - 0 ≡ level = omega arith in
      let a : 0 + visits_below (has_test c) level m lo k ≡ visits_below (has_test c) level m lo k = omega arith in
      record {
        inside = omega arith;
        walk = rw z v;
        visits_are = rw z a;
        entries_are = rw z;
        few = visits_few (has_test c) (cell_test c) level m lo k v.walk;
      }

  module _ (depth from p : ℕ) (x : OnPath c level m lo k depth from p) where
    -- above the leaves
    module _ (h : depth < level) where
      abbrev left : ℕ
      left = level - (depth + 1)

      one_less : level - depth ≡ suc left
      one_less = omega arith

      here : SoundWalk (suc left) m from p
      here = rw one_less at x.walk

      visits_here : depth + visits_below (has_test c) (suc left) m from p ≡ visits_below (has_test c) level m lo k
      visits_here = rw one_less at x.visits_are

      entries_here : held_below c (suc left) m from p ≡ held_below c level m lo k
      entries_here = rw one_less at x.entries_are

      pub path_children : Children m p
      path_children = children_of left m from p here

      pub path_next : (r : Option Child) → ChildIs m from p c r → (b : Child) → r ≡ Some b
          → OnPath c level m lo k (depth + 1) b.low b.part
      path_next r w d e =
          let i = d.at in
          let low = d.low in
          let j = d.part in
          let q : FirstChild m from p c i low j = rw e at w in
          let a = visits_here in
          let b = step_visits c left m from p here i low j q in
          record {
            inside = omega arith;
            walk = step_walk c left m from p here i low j q;
            visits_are = omega arith;
            entries_are = sym (step_entries c left m from p here i low j q) ∙ entries_here;
            few = x.few;
          }

      pub path_none : (r : Option Child) → ChildIs m from p c r → r ≡ None
          → record { tag = None; visits = depth + 1 }
          ≡ found (held_below c level m lo k) (visits_below (has_test c) level m lo k)
      unfolding found point_end
      path_none r w e =
          let q : NoneBefore m p c (count_at m p) = rw e at w in
          let a = visits_here in
          let b = end_visits c left m from p here q in
          let s : depth + 1 ≡ visits_below (has_test c) level m lo k = omega arith in
          rw (← entries_here, end_entries c left m from p here q, ← s)

    -- the last node of the path is a leaf
    module _ (z : level ≤ depth) where
      at_end : level - depth ≡ 0
      at_end = omega arith

      at_leaf : Walkable 0 m from p
      at_leaf = let w : SoundWalk 0 m from p = rw at_end at x.walk in w.walk

      all_visits : level + 1 ≡ visits_below (has_test c) level m lo k
      all_visits =
          let a : depth + visits_below (has_test c) 0 m from p ≡ visits_below (has_test c) level m lo k = rw at_end at x.visits_are in
          let b = leaf_visits (has_test c) (cell_test c) m from p at_leaf in
          let i = x.inside in
          omega arith

      module _ (l : List ℕ) (l_is : l ≡ part m p) where
        pub path_part : NodePart l
        path_part = node_part_lem 0 m from p at_leaf l l_is

        pub path_leaf : (r : PointFound) → r ≡ found (leaf_entries (cell_test c) l) (level + 1)
            → r ≡ found (held_below c level m lo k) (visits_below (has_test c) level m lo k)
        path_leaf r e =
            let d : held_below c 0 m from p ≡ held_below c level m lo k = rw at_end at x.entries_are in
            e ∙ rw (← d, leaf_entries_lem (has_test c) (cell_test c) m from p at_leaf, ← l_is, all_visits)
