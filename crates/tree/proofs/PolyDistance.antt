-- The least distance to a polygon: no cell of it is nearer, and one of a good polygon is that near.
use Prim.Native.Nat.{◌≤◌, min}
use mathlib.Core.Bool.{Bool, true, false, ◌||◌}
use mathlib.Core.Path.{◌≡◌, refl, sym, ◌∙◌}
use mathlib.Core.List.{[], ◌∷◌}
use lib.ListN.{length}
use native.Mathlib.Omega.{arith}
use native.Mathlib.Decide.{dec_le}
use Rattle.polygons.specs.Lists.{any, least}
use Rattle.polygons.proofs.LeastLaws.{least_first, least_rest}
use Rattle.polygons.proofs.Booleans.{not_both, or_right}
use Rattle.tree.specs.Lists.{All}
use Rattle.tree.specs.Boxes.{Boxes, Poly, any_has, poly_distance}
use Rattle.tree.proofs.BoxLaws.{BoxLaws}

module _ (B : Boxes) (W : BoxLaws B) where
  -- no cell of the polygon is nearer
  pub poly_low : (p : Poly B) (c d : B.Cell) → any_has B p d ≡ true → poly_distance B c p ≤ B.distance c d
  unfolding any_has any
  poly_low [] c d h = absurd (not_both false h refl)
  poly_low (r ∷ []) c d h = go (B.has r d) refl h
    where
      go : (t : Bool) → B.has r d ≡ t → t || false ≡ true → poly_distance B c (r ∷ []) ≤ B.distance c d
      go true e k = let x = W.distance_low r c d e in let y = least_first (B.min_distance c) r [] in omega arith
      go false e k = absurd (not_both false k refl)
  poly_low (r ∷ s ∷ l) c d h = go (poly_low (s ∷ l) c d) (B.has r d) refl h
    where
      go : (any (λ q. B.has q d) (s ∷ l) ≡ true → poly_distance B c (s ∷ l) ≤ B.distance c d) → (t : Bool) → B.has r d ≡ t
          → t || any (λ q. B.has q d) (s ∷ l) ≡ true → poly_distance B c (r ∷ s ∷ l) ≤ B.distance c d
      go i true e k = let x = W.distance_low r c d e in let y = least_first (B.min_distance c) r (s ∷ l) in omega arith
      go i false e k = let x = i k in let y = least_rest (B.min_distance c) r s l in omega arith

  -- a cell of the polygon at its least distance
  abbrev Meets : Poly B → B.Cell → Type 0
  Meets p c = (d : B.Cell) × (any_has B p d ≡ true) × (B.distance c d ≡ poly_distance B c p)

  in_first : (r : B.Box) (l : Poly B) (c : B.Cell) → B.valid r ≡ true → poly_distance B c (r ∷ l) ≡ B.min_distance c r → Meets (r ∷ l) c
  unfolding any_has any
  in_first r l c v e = let m = W.distance_met r c v in (m.0, rw m.1, m.2 ∙ sym e)

  in_rest : (r s : B.Box) (l : Poly B) (c : B.Cell) → Meets (s ∷ l) c → poly_distance B c (r ∷ s ∷ l) ≡ poly_distance B c (s ∷ l) → Meets (r ∷ s ∷ l) c
  unfolding any_has any
  in_rest r s l c m e = (m.0, or_right (B.has r m.0) _ m.1, m.2 ∙ sym e)

  pub poly_met : (p : Poly B) (c : B.Cell) → 1 ≤ length p → All (λ r. B.valid r ≡ true) p → Meets p c
  unfolding All least
  poly_met [] c h v = absurd (omega arith)
  poly_met (r ∷ []) c h v = in_first r [] c v.0 refl
  poly_met (r ∷ s ∷ l) c h v = go (poly_met (s ∷ l) c (omega arith) v.1) (dec_le (B.min_distance c r) (least (B.min_distance c) (s ∷ l)))
    where
      go : Meets (s ∷ l) c → Dec (B.min_distance c r ≤ least (B.min_distance c) (s ∷ l)) → Meets (r ∷ s ∷ l) c
      go m (yes k) = in_first r (s ∷ l) c v.0 (let z : min (B.min_distance c r) (least (B.min_distance c) (s ∷ l)) ≡ B.min_distance c r = omega arith in z)
      go m (no k) = in_rest r s l c m (let z : min (B.min_distance c r) (least (B.min_distance c) (s ∷ l)) ≡ least (B.min_distance c) (s ∷ l) = omega arith in z)
