-- The descent as the code takes it, by the number of its level.
use Prim.Native.Nat.{ℕ, suc, ◌+◌, ◌*◌, ◌-◌, ◌<◌}
use mathlib.Core.Path.{◌≡◌, sym, ap, ◌∙◌, subst}
use mathlib.Core.List.{List}
use native.Mathlib.Omega.{arith}
use mir.Syntax.{w32}
use mir.Val.{Fits}
use lib.ListN.{get_or, set}
use Rattle.std.proofs.Common.{Result, Ok, Err, IsErr, IfOk}
use Rattle.std.proofs.lemmas.Result.{IfOk-weaker}
use Rattle.path.specs.declared.level.Level.{Level}
use Rattle.geometry.specs.declared.rect.Cell.{Cell}
use Rattle.geometry.specs.Numbers.{rects_of}
use Rattle.tree.specs.Removed.{removed_at}
use Rattle.plane.specs.Fanout.{index_space}
use Rattle.layout.specs.Nodes.{count_at, child_at}
use Rattle.choose_branch.specs.declared.choosing.Choice.{Choice}
use Rattle.geometry.specs.declared.cut.TooMany.{TooMany}
use Rattle.choose_branch.specs.Choose.{Routing, ChosenAt, NoneChosen}
use Rattle.choose_branch.specs.Removed.{RemovedAt}
use Rattle.path.specs.Path.{level_on, part_on, polygon_on}
use Rattle.path.specs.Level.{level_of}
use Rattle.path.proofs.PutLaws.{LevelPut, PlacePut, place_put, level_put_is}
use Rattle.path.proofs.PutLaws.{level_below, level_kept}
use Rattle.tree_after.proofs.PathLaws.{read_is}
use Rattle.insertion.specs.Descent.{items_at, Descending, Descended}
use Rattle.insertion.specs.Removed.{RemovedBelow}
use Rattle.insertion.proofs.DescentLaws.{routing_b, stopped_b, place_below, child_descending, removed_here_lem, went}

-- the cells removed so far, and at this level
module _ (level : ℕ) (m : List ℕ) (k : ℕ) (c : Cell) (r : Choice) (a : RemovedAt m k c r.removed) (ne : level ≡ 0 → ⊥)
    (above : ℕ)
    (h : above + level * 4294967296 < 18446744073709551616) where
  pub removed_room : above + r.removed + (level - 1) * 4294967296 < 18446744073709551616
  removed_room = let x = a.small in omega arith

module _ (level : ℕ) (path : List Level) (m : List ℕ) (c : Cell) (d : Descending level path m c) (ne : level ≡ 0 → ⊥) where
  up : suc (level - 1) ≡ level
  up = omega arith

  d' : Descending (suc (level - 1)) path m c
  d' = subst (λ (i : ℕ). Descending i path m c) (sym up) d

  -- the level as the code reads it
  read : (x : Level) → get_or path level x ≡ level_on path level
  read x = read_is path level x d.room

  pub descend_routing : (x : Level) → Routing m (get_or path level x).part
  descend_routing x = rw (read x) (subst (λ (i : ℕ). Routing m (part_on path i)) up (routing_b (level - 1) path m c d'))

  pub descend_stop : (x y : Level) → NoneChosen m (get_or path level x).part (rects_of (get_or path level y).polygon) c
      → (r : Result ℕ TooMany) → IsErr r → Descended level path m c path r
  descend_stop x y o (Ok z) e = absurd cc
  descend_stop x y o (Err z) e =
      let o' : NoneChosen m (part_on path (suc (level - 1))) (polygon_on path (suc (level - 1))) c =
      subst (λ (i : ℕ). NoneChosen m (part_on path i) (polygon_on path i) c) (sym up) (rw (read x, read y) at o) in
      subst (λ (i : ℕ). Descended i path m c path (Err z)) up (stopped_b (level - 1) path m c d' z o')

  module _ (x y : Level) (place : ℕ) (r : Choice)
      (v : ChosenAt m (get_or path level x).part (rects_of (get_or path level y).polygon) c place r.polygon) where
    chosen : ChosenAt m (part_on path (suc (level - 1))) (polygon_on path (suc (level - 1))) c place r.polygon
    chosen = subst (λ (i : ℕ). ChosenAt m (part_on path i) (polygon_on path i) c place r.polygon) (sym up) (rw (read x, read y) at v)

    descend_place : place < count_at m (part_on path level)
    descend_place = subst (λ (i : ℕ). place < count_at m (part_on path i)) up (place_below (level - 1) path m c d' place r.polygon chosen)

    pub place_cast : Fits w32 place
    place_cast = let a = descend_place in let b = d.walk.few in omega arith

    pub place_few : place < 8
    place_few = let a = descend_place in let b = d.walk.few in omega arith

    -- the place, and then the child's level were written
    module _ (z : Level) (child : ℕ) (child_is : child ≡ child_at m (get_or path level x).part place) (l : Level) (l_is : l ≡ level_of child r.polygon) where
      abbrev path₁ : List Level
      path₁ = let u = get_or path level z in
          set path level (record { part = u.part; place = place; line = u.line; polygon = u.polygon })

      put₁ : PlacePut path level place path₁
      put₁ = subst (λ (u : Level). PlacePut path level place (set path level (record { part = u.part; place = place; line = u.line; polygon = u.polygon })))
          (sym (read z)) (place_put path level d.room place)

      abbrev path₂ : List Level
      path₂ = set path₁ (level - 1) l

      put₂ : LevelPut path₁ (level - 1) child (rects_of r.polygon) path₂
      put₂ = level_put_is path₁ (level - 1) (level_kept path path₁ (level - 1) put₁.same_length (level_below path level (level - 1) d.room (omega arith)))
          child r.polygon l l_is chosen.few

      put_place : PlacePut path (suc (level - 1)) place path₁
      put_place = subst (λ (i : ℕ). PlacePut path i place path₁) (sym up) put₁

      put : LevelPut path₁ (level - 1) (child_at m (part_on path (suc (level - 1))) place) (rects_of r.polygon) path₂
      put = subst (λ (i : ℕ). LevelPut path₁ (level - 1) i (rects_of r.polygon) path₂) (child_is ∙ ap (λ (u : Level). child_at m u.part place) (read x) ∙ ap (λ (i : ℕ). child_at m (part_on path i) place) (sym up)) put₂

      pub descend_child : Descending (level - 1) path₂ m c
      descend_child = child_descending (level - 1) path m c d' place r.polygon chosen path₁ path₂ put₁.same_length put

      -- the cells removed, from this level on
      pub removed_on : RemovedAt m (get_or path level x).part c r.removed → (above : ℕ) (b : Result ℕ TooMany)
          → IfOk b (λ u. RemovedBelow (level - 1) path₂ m c (above + r.removed) u) → IfOk b (λ u. RemovedBelow level path m c above u)
      removed_on a above b = IfOk-weaker b _ _ on
        where
          on : (u : ℕ) → RemovedBelow (level - 1) path₂ m c (above + r.removed) u → RemovedBelow level path m c above u
          on u w = record {
            is =
                let z : RemovedAt m (part_on path (suc (level - 1))) c r.removed = subst (λ (i : ℕ). RemovedAt m (part_on path i) c r.removed) (sym up) (rw (read x) at a) in
                subst (λ (i : ℕ). u ≡ above + removed_at index_space i (polygon_on path i)
                (items_at i m (part_on path i)) c) up
                (removed_here_lem (level - 1) path m c d' place r.polygon chosen
                path₁ path₂ put
                above r.removed u (z.is (level - 1) 0 d'.walk.node d'.walk.reads)
                w.is);
          }

      pub descend_on : (path₃ : List Level) (b : Result ℕ TooMany) → Descended (level - 1) path₂ m c path₃ b → Descended level path m c path₃ b
      descend_on path₃ b z = subst (λ (i : ℕ). Descended i path m c path₃ b) up (went (level - 1) path m c d' place r.polygon chosen path₁ path₂ path₃ put_place put z.kept b z)
