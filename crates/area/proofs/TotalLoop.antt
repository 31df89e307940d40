-- The loop that adds the areas of a list up.
use mathlib.Core.Path.{◌≡◌, ap}
use mathlib.Core.Bool.{true, ◌&&◌}
use mathlib.Core.List.{List, [], ◌∷◌}
use Prim.Native.Nat.{ℕ, ◌+◌, ◌*◌, ◌≤◌, ◌<◌}
use native.Mathlib.Omega.{arith}
use lib.ListN.{length}
use Rattle.polygons.proofs.Booleans.{split_and}
use Rattle.geometry.specs.declared.rect.Rect.{Rect}
use Rattle.geometry.specs.declared.rects.Rects.{Rects}
use Rattle.geometry.specs.Cells.{valid, all_valid, area}
use Rattle.geometry.specs.Rects.{rects_left}
use Rattle.geometry.proofs.CellLaws.{valid_of}
use Rattle.geometry.proofs.GrowLaws.{area_bound}
use Rattle.area.specs.Removed.{total_area}

-- The areas of all but the rest are added.
pub record Totaling (all rest : List Rect) (sum : ℕ) : Type 0 where
  pub total : sum + total_area rest ≡ total_area all
  pub small : sum + length rest * 4294967296 ≤ 256 * 4294967296
  pub good : all_valid rest ≡ true

pub total_start : (rects it : Rects) → it ≡ rects → length (rects_left rects) ≤ 256 → all_valid (rects_left rects) ≡ true → Totaling (rects_left rects) (rects_left it) 0
total_start rects it q h e = rw q (record { total = omega arith; small = omega arith; good = e })

module _ (all rest : List Rect) (sum : ℕ) (v : Totaling all rest sum) where
  pub total_end : rest ≡ [] → sum ≡ total_area all
  unfolding total_area
  total_end e = let t = rw e at v.total in omega arith

  module _ (r : Rect) (rest' : List Rect) (e : rest ≡ r ∷ rest') where
    both_valid : valid r && all_valid rest' ≡ true
    unfolding all_valid
    both_valid = rw e at v.good

    here_valid : valid r ≡ true
    here_valid = (split_and _ _ both_valid).0

    pub total_wide : r.llx ≤ r.urx
    total_wide = let f = valid_of r here_valid in omega arith

    pub total_high : r.lly ≤ r.ury
    total_high = let f = valid_of r here_valid in omega arith

    pub total_fits : (a : ℕ) → a ≡ area r → sum + a < 18446744073709551616
    total_fits a f = let b = area_bound r here_valid in let s = v.small in let l = ap length e in omega arith

    pub total_on : (a : ℕ) → a ≡ area r → Totaling all rest' (sum + a)
    unfolding total_area
    total_on a f =
        let b = area_bound r here_valid in
        let s = v.small in
        let l = ap length e in
        let t = rw e at v.total in
        record { total = omega arith; small = omega arith; good = (split_and (valid r) _ both_valid).1 }
