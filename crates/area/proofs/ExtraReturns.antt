-- The returns of the code of extra area.
use mathlib.Core.Path.{◌≡◌, refl, ◌∙◌}
use mathlib.Core.Bool.{true}
use mathlib.Core.List.{List, [], ◌∷◌}
use Prim.Native.Nat.{ℕ, ◌≤◌, ◌<◌, min}
use native.Mathlib.Omega.{arith}
use Rattle.geometry.specs.declared.rect.Cell.{Cell}
use Rattle.geometry.specs.declared.rect.Rect.{Rect}
use Rattle.geometry.specs.Cells.{on_grid, valid}
use Rattle.geometry.specs.Grow.{grown}
use Rattle.geometry.specs.Numbers.{rect_at, rects_in}
use Rattle.geometry.proofs.CellLaws.{Valid, valid_of}
use Rattle.geometry.proofs.GrowLaws.{grow_valid}
use Rattle.area.specs.Bounds.{bounds_of}
use Rattle.area.specs.Lacked.{lacked, extra_area}
use Rattle.area.proofs.BoundLaws.{lacked_outside}

one_rect : (m : List ℕ) → rects_in m 1 ≡ rect_at m 0 ∷ []
unfolding rects_in
one_rect m = refl

module _ (m : List ℕ) (i : ℕ) (r : Rect) (e : r ≡ rect_at m i) where
  pub read_valid : valid (rect_at m i) ≡ true → valid r ≡ true
  read_valid v = rw e v

  -- a polygon of one rectangle
  module _ (c : Cell) (n l x : ℕ) (h : i < n) (k : n ≡ 1) (f : x ≡ extra_area (r ∷ []) r c) where
    single : x ≡ extra_area (rects_in m n) (rect_at m i) c
    single =
        let z : i ≡ 0 = omega arith in
        f ∙ rw (e, k, z, one_rect)

    pub extra_of_single : (y : ℕ) → y ≡ min l x → y ≡ min l (extra_area (rects_in m n) (rect_at m i) c)
    extra_of_single y u = let d = single in omega arith

  -- a polygon of more
  module _ (c : Cell) (g : Rect) (f : g ≡ grown r c) where
    pub new_valid : valid (rect_at m i) ≡ true → on_grid c ≡ true → valid g ≡ true
    new_valid v o = rw f (grow_valid r c (rw e v) o)

    pub new_ends : valid (rect_at m i) ≡ true → on_grid c ≡ true → Valid g
    new_ends v o = valid_of g (new_valid v o)

    -- the limit is reached outside the bounds
    pub extra_outside : (n l x : ℕ) (b : Rect) → b ≡ bounds_of (rects_in m n) → x ≡ lacked (b ∷ []) g → l ≤ x
        → l ≡ min l (extra_area (rects_in m n) (rect_at m i) c)
    unfolding lacked extra_area
    extra_outside n l x b d k h =
        let a = lacked_outside (rects_in m n) g in
        let y : x ≡ lacked (bounds_of (rects_in m n) ∷ []) g = k ∙ rw d in
        let z : extra_area (rects_in m n) (rect_at m i) c ≡ lacked (rects_in m n) g = rw (f, e) in
        omega arith

    pub extra_counted : (n l x : ℕ) → x ≡ min l (lacked (rects_in m n) g) → x ≡ min l (extra_area (rects_in m n) (rect_at m i) c)
    unfolding lacked extra_area
    extra_counted n l x u = u ∙ rw (f, e)
