-- The branches before and behind the place of the path, and the node on top of them: what their writing needs and leaves.
use Prim.Native.Nat.{ℕ, ◌+◌, ◌-◌, ◌≤◌}
use mathlib.Core.Path.{◌≡◌}
use mathlib.Core.List.{List}
use native.Mathlib.Omega.{arith}
use Rattle.path.specs.declared.level.Level.{Level}
use Rattle.geometry.specs.declared.rect.Side.{Side}
use Rattle.layout.specs.Loaded.{node_of}
use Rattle.layout.specs.Nodes.{count_at}
use Rattle.path.specs.Path.{part_on, place_on, polygon_on}
use Rattle.tree_after.specs.declared.node.Branches.{Branches}
use Rattle.tree_after.specs.Writes.{Room}
use Rattle.tree_after.specs.Rows.{PathStep, NodeRoom, NodeWritten, no_branches, Grows, range_under, before_on, behind_on, RestWritten, RestRoom}

module _ (level : ℕ) (path : List Level) (m : List ℕ) (x : PathStep level path m) where
  pub step_place : place_on path level ≤ count_at m (part_on path level)
  step_place = let p = x.place in omega arith

  pub step_behind : (to : ℕ) → to ≡ count_at m (part_on path level) → place_on path level + 1 ≤ to
  step_behind to to_is = let p = x.place in omega arith

  -- the branches before the place, from none on
  module _ (t : Branches) (next : ℕ) (q : t ≡ no_branches next) where
    pub before_few : t.node.count + place_on path level ≤ 9
    unfolding node_of
    before_few = let p = x.place in let f = x.walk.few in rw q (omega arith)

    pub before_fits : (ss : List Side) (w : List ℕ) → Room (level - 1) w next (before_on level path m ss) → Room (level - 1) w t.next (before_on level path m ss)
    before_fits ss w r = rw q r

    pub before_done : (ss : List Side) (w w₁ : List ℕ) (t₁ : Branches) → Grows (level - 1) w t (before_on level path m ss) w₁ t₁
        → Grows (level - 1) w (no_branches next) (before_on level path m ss) w₁ t₁
    before_done ss w w₁ t₁ g = rw q at g

  -- those behind it, up to the last of all
  module _ (to : ℕ) (to_is : to ≡ count_at m (part_on path level)) (t : Branches) where
    pub behind_few : t.node.count ≤ place_on path level + 2 → t.node.count + to ≤ 9 + (place_on path level + 1)
    behind_few c = let f = x.walk.few in omega arith

    pub behind_fits : (ss : List Side) (w : List ℕ) → RestRoom (level - 1) ss (behind_on level path m ss) w t
        → Room (level - 1) w t.next (range_under (level - 1) m (part_on path level) (place_on path level + 1) to ss)
    behind_fits ss w r = let f = r.fits in rw to_is (record { fits = omega arith; small = r.small })

    module _ (ss : List Side) (w w₁ : List ℕ) (all : Branches) (g : Grows (level - 1) w t (range_under (level - 1) m (part_on path level) (place_on path level + 1) to ss) w₁ all) where
      behind : Grows (level - 1) w t (behind_on level path m ss) w₁ all
      behind = rw to_is at g

      pub rest_top_room : RestRoom (level - 1) ss (behind_on level path m ss) w t → NodeRoom ss all.node w₁ all.next
      rest_top_room r =
          let d = behind.count_is in
          let e = behind.writes.next_is in
          let l = behind.writes.same_length in
          let f = r.fits in
          let s = r.small in
          record { fits = rw d (omega arith); small = omega arith }

      pub rest_written : (w₂ : List ℕ) (r : ℕ) → NodeWritten (polygon_on path level) all.node ss w₁ all.next w₂ r
          → RestWritten (level - 1) (polygon_on path level) ss (behind_on level path m ss) w t w₂ r
      rest_written w₂ r y = record { mid = w₁; all = all; branches = behind; top = y }
