-- The cells that a polygon removes from a list, rectangle by rectangle of the polygon; both may overlap themselves.
use mathlib.Core.Path.{◌≡◌, refl}
use mathlib.Core.Bool.{Bool, true, false, ◌&&◌, ◌||◌, not, and-false}
use mathlib.Core.List.{List, [], ◌∷◌, ◌++◌}
use Prim.Native.Nat.{◌+◌, ◌≤◌}
use native.Mathlib.Omega.{arith}
use Rattle.polygons.specs.Lists.{any}
use Rattle.polygons.proofs.Booleans.{neither_of}
use Rattle.geometry.specs.declared.rect.Rect.{Rect}
use Rattle.geometry.specs.Cells.{has_cell, any_has}
use Rattle.geometry.proofs.CellLaws.{has_append}
use Rattle.area.specs.CellCount.{cell_count}
use Rattle.area.specs.Lacked.{lacked}
use Rattle.area.specs.Removed.{removed}
use Rattle.area.proofs.LackLaws.{count_same, count_none, count_split}

-- a polygon of no rectangle removes no cell
pub removed_none : (l : List Rect) → removed l [] ≡ 0
unfolding removed any any_has
removed_none l = count_none _ (λ c. and-false (any_has l c))

-- a cell of the list l, of the polygon p and of one more rectangle s of the polygon
old : (a b d : Bool) → a && (d || b) && b ≡ a && b
old true true true = refl
old true true false = refl
old true false true = refl
old true false false = refl
old false b d = refl

new : (a b d : Bool) → a && (d || b) && not b ≡ d && not b && a
new true true true = refl
new true true false = refl
new true false true = refl
new true false false = refl
new false true true = refl
new false true false = refl
new false false true = refl
new false false false = refl

module _ (l p : List Rect) (s : Rect) where
  -- the cells of s that p lacks: those that l has, and those that l lacks too
  lacked_split : lacked p s ≡ cell_count (λ c. has_cell s c && not (any_has p c) && any_has l c) + lacked (p ++ l) s
  unfolding lacked any_has
  lacked_split =
      let a = count_split (λ c. has_cell s c && not (any_has p c)) (any_has l) in
      let b = count_same (λ c. has_cell s c && not (any_has p c) && not (any_has l c))
      (λ c. has_cell s c && not (any_has (p ++ l) c))
      (λ c. rw (has_append p l c) (neither_of (has_cell s c) (any_has p c) (any_has l c))) in
      omega arith

  -- more rectangles lack no more cells
  pub lacked_fewer : lacked (p ++ l) s ≤ lacked p s
  lacked_fewer = let a = lacked_split in omega arith

  -- one more rectangle of the polygon removes the cells of it that the others lack, but for those that the list
  -- lacks too
  pub removed_more : removed l (s ∷ p) + lacked (p ++ l) s ≡ removed l p + lacked p s
  unfolding removed any_has any
  removed_more =
      let a = count_split (λ c. any_has l c && any_has (s ∷ p) c) (any_has p) in
      let b = count_same (λ c. any_has l c && any_has (s ∷ p) c && any_has p c) (λ c. any_has l c && any_has p c)
      (λ c. old (any_has l c) (any_has p c) (has_cell s c)) in
      let d = count_same (λ c. any_has l c && any_has (s ∷ p) c && not (any_has p c))
      (λ c. has_cell s c && not (any_has p c) && any_has l c)
      (λ c. new (any_has l c) (any_has p c) (has_cell s c)) in
      let e = lacked_split in
      omega arith
