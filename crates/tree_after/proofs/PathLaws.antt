-- What the code knows of a path: its levels, one by one.
use Prim.Native.Nat.{ℕ, zero, suc, ◌-◌, ◌≤◌, ◌<◌}
use mathlib.Core.Path.{◌≡◌}
use mathlib.Core.List.{List}
use native.Mathlib.Omega.{arith}
use lib.ListN.{get_or}
use Rattle.std.proofs.lemmas.List.{get_or_default}
use Rattle.std.specs.Prelude.{Some, None}
use Rattle.path.specs.declared.level.Level.{Level}
use Rattle.layout.specs.Nodes.{count_at}
use Rattle.walks.specs.Walks.{Walkable}
use Rattle.geometry.specs.declared.rect.Line.{Line}
use Rattle.path.specs.Path.{no_level, level_on, part_on, place_on, line_on, HasLevel}
use Rattle.tree_after.specs.Path.{PathNode, PathFrom}
use Rattle.tree_after.specs.Rows.{PathStep}

-- a level as the code reads it, whatever stands where the path has none
module _ (path : List Level) (n : ℕ) (d : Level) (h : HasLevel n path) where
  pub read_is : get_or path n d ≡ level_on path n
  read_is = get_or_default path n d no_level h

  pub read_unsplit : (get_or path n d).line ≡ None → line_on path n ≡ None
  read_unsplit e = rw read_is at e

  pub read_line : (l : Line) → (get_or path n d).line ≡ Some l → line_on path n ≡ Some l
  read_line l e = rw read_is at e

-- a path taken apart
module _ (path : List Level) (m : List ℕ) where
  pub path_node : (n : ℕ) → PathFrom n path m → PathNode n path m
  unfolding PathFrom
  path_node zero x = x
  path_node (suc n) x = x.0

  pub path_has : (n : ℕ) → PathFrom n path m → HasLevel n path
  path_has n x = (path_node n x).room

  -- the leaf
  pub path_leaf : (level : ℕ) → level ≡ 0 → PathFrom level path m → PathNode 0 path m
  path_leaf level z x = path_node 0 (rw z at x)

  path_below : (level : ℕ) → 1 ≤ level → PathFrom level path m → PathFrom (level - 1) path m
  unfolding PathFrom
  path_below zero h x = absurd (omega arith)
  path_below (suc n) h x = let e : suc n - 1 ≡ n = omega arith in rw e x.2

  pub path_place : (level : ℕ) → 1 ≤ level → PathFrom level path m → place_on path level < count_at m (part_on path level)
  unfolding PathFrom
  path_place zero h x = absurd (omega arith)
  path_place (suc n) h x = x.1

  -- the node reads, whose branches are one level lower
  pub path_walk : (level : ℕ) → 1 ≤ level → PathFrom level path m → Walkable (suc (level - 1)) m 0 (part_on path level)
  path_walk level h x =
      let e : suc (level - 1) ≡ level = omega arith in
      rw e (path_node level x).walk

  pub path_step : (level : ℕ) → (level ≡ 0 → ⊥) → PathFrom level path m → PathStep level path m
  path_step level ne x =
      let h : 1 ≤ level = omega arith in
      let v = path_node level x in
      record { some = h; walk = path_walk level h x; room = v.room; few = v.few; place = path_place level h x }

  pub path_down : (level : ℕ) → (level ≡ 0 → ⊥) → PathFrom level path m → PathFrom (level - 1) path m
  path_down level ne x = path_below level (omega arith) x

  -- the numbers of the level below
  pub path_room : (level : ℕ) → (level ≡ 0 → ⊥) → PathFrom level path m → HasLevel (level - 1) path
  path_room level ne x = path_has (level - 1) (path_down level ne x)
