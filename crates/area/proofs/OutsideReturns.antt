-- The cells of a rectangle outside another, as the code counts them.
use mathlib.Core.Path.{◌≡◌, ◌∙◌}
use mathlib.Core.Bool.{true}
use mathlib.Core.List.{[], ◌∷◌}
use Rattle.std.proofs.Common.{Option, Some, None}
use Prim.Native.Nat.{ℕ, ◌-◌, ◌≤◌}
use native.Mathlib.Omega.{arith}
use Rattle.geometry.specs.declared.rect.Rect.{Rect}
use Rattle.geometry.specs.Cells.{valid, area}
use Rattle.geometry.specs.Common.{overlap, common_part}
use Rattle.geometry.proofs.CellLaws.{valid_of, Some as Sides, some_of}
use Rattle.geometry.proofs.CommonLaws.{has_common, no_common}
use Rattle.area.specs.Lacked.{lacked}
use Rattle.area.proofs.BoundLaws.{lacked_one, lacked_all_lem}

-- the common part k of g and b; a is the area of g
module _ (g b : Rect) (k : Option Rect) (e : k ≡ common_part g b) where
  module _ (u : Rect) (f : k ≡ Some u) where
    part_some : Sides u
    part_some = let p = has_common g b k e u f in rw p.1 (some_of (overlap g b) p.0)

    pub part_wide : u.llx ≤ u.urx
    part_wide = let p = part_some in omega arith

    pub part_high : u.lly ≤ u.ury
    part_high = let p = part_some in omega arith

  module _ (v : valid g ≡ true) (a : ℕ) (ea : a ≡ area g) where
    module _ (u : Rect) (f : k ≡ Some u) (d : ℕ) (ed : d ≡ area u) where
      pub part_less : d ≤ a
      part_less =
          let s = lacked_one g b (valid_of g v) in
          let z : d ≡ area (overlap g b) = ed ∙ rw (has_common g b k e u f).1 in
          omega arith

      pub outside_part : a - d ≡ lacked (b ∷ []) g
      outside_part =
          let s = lacked_one g b (valid_of g v) in
          let z : d ≡ area (overlap g b) = ed ∙ rw (has_common g b k e u f).1 in
          omega arith

    pub outside_all : k ≡ None → a ≡ lacked (b ∷ []) g
    outside_all f = ea ∙ lacked_all_lem g b (valid_of g v) (no_common g b k e f)
