-- The number that the scan starts from: some rectangle's extra area does not exceed it.
use Prim.Native.Nat.{ℕ, ◌+◌, ◌≤◌, ◌<◌, min}
use mathlib.Core.Path.{◌≡◌}
use mathlib.Core.Bool.{true}
use mathlib.Core.List.{List, [], ◌∷◌}
use native.Mathlib.Omega.{arith}
use native.Mathlib.Decide.{dec_lt}
use Rattle.polygons.specs.Lists.{any}
use Rattle.polygons.proofs.Booleans.{or_left, or_right}
use Rattle.geometry.specs.declared.rect.Cell.{Cell}
use Rattle.geometry.specs.declared.rect.Rect.{Rect}
use Rattle.geometry.specs.Cells.{has_cell, any_has}
use Rattle.area.specs.Lacked.{extra_area}
use Rattle.area.proofs.LackLaws.{extra_bound}
use Rattle.area.proofs.ExtraLaws.{extra_alone}
use Rattle.tree.specs.Lists.{All}
use Rattle.tree.proofs.Lists.{all_map}
use Rattle.choose_branch.specs.Least.{extra_in, alone_in, alone_from, all_cells}

-- the rectangles of a part of a polygon have cells of the polygon
own_cells : (q l : List Rect) → ((d : Cell) → any_has l d ≡ true → any_has q d ≡ true)
    → All (λ r. (d : Cell) → has_cell r d ≡ true → any_has q d ≡ true) l
unfolding All any_has any
own_cells q [] h = tt
own_cells q (r ∷ l) h = (λ d t. h d (or_left _ _ t), own_cells q l (λ d t. h d (or_right (has_cell r d) _ t)))

module _ (c : Cell) where
  -- where every extra area is more than x, so is every one alone
  more_in : (x t : ℕ) (q l : List Rect) → x < t → All (λ r. (d : Cell) → has_cell r d ≡ true → any_has q d ≡ true) l
      → All (λ r. x < extra_in q c r) l → x < alone_in c t l
  unfolding alone_in All
  more_in x t q [] h o a = h
  more_in x t q (r ∷ l) h o a =
      let e = extra_alone q r c o.0 in
      let k = a.0 in
      more_in x (min t (extra_area (r ∷ []) r c)) q l (omega arith) o.1 a.1

  more_from : (x t : ℕ) (ps : List (List Rect)) → x < t → All (λ q. All (λ r. x < extra_in q c r) q) ps → x < alone_from c t ps
  unfolding alone_from All
  more_from x t [] h a = h
  more_from x t (q ∷ ps) h a = more_from x (alone_in c t q) ps (more_in x t q q h (own_cells q q (λ d e. e)) a.0) a.1

  -- it is at most what it starts from
  alone_most : (t : ℕ) (l : List Rect) → alone_in c t l ≤ t
  unfolding alone_in
  alone_most t [] = omega arith
  alone_most t (r ∷ l) = let h = alone_most (min t (extra_area (r ∷ []) r c)) l in omega arith

  pub from_most : (t : ℕ) (ps : List (List Rect)) → alone_from c t ps ≤ t
  unfolding alone_from
  from_most t [] = omega arith
  from_most t (q ∷ ps) = let h = from_most (alone_in c t q) ps in let k = alone_most t q in omega arith

  -- not every extra area is more than it
  pub alone_reached : (r : Rect) (l : List Rect) (ps : List (List Rect))
      → All (λ q. All (λ s. alone_from c all_cells ((r ∷ l) ∷ ps) + 1 ≤ extra_in q c s) q) ((r ∷ l) ∷ ps) → ⊥
  unfolding All
  alone_reached r l ps a = go (alone_from c all_cells ((r ∷ l) ∷ ps)) (dec_lt _ all_cells) (more_from _ all_cells ((r ∷ l) ∷ ps)) a
    where
      go : (x : ℕ) → Dec (x < all_cells)
          → (x < all_cells → All (λ q. All (λ s. x < extra_in q c s) q) ((r ∷ l) ∷ ps) → x < x)
          → All (λ q. All (λ s. x + 1 ≤ extra_in q c s) q) ((r ∷ l) ∷ ps) → ⊥
      go x (yes h) f a =
          let k = f h (all_map (λ q. All (λ s. x + 1 ≤ extra_in q c s) q) _ ((r ∷ l) ∷ ps)
          (λ q b. all_map (λ s. x + 1 ≤ extra_in q c s) _ q (λ s d. omega arith) b) a) in
          omega arith
      go x (no h) f a =
          let k = a.0.0 in
          let b = extra_bound (r ∷ l) r c in
          omega arith
