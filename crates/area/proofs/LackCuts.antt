-- What the code's scan and cuts say of the number of cells that a list of rectangles lacks.
use mathlib.Core.Path.{◌≡◌, sym, ◌∙◌, ap}
use mathlib.Core.Bool.{true, not}
use mathlib.Core.List.{List, [], ◌∷◌}
use Prim.Native.Nat.{ℕ, ◌+◌, ◌-◌, ◌≤◌, ◌<◌, min}
use native.Mathlib.Omega.{arith}
use Rattle.geometry.specs.declared.rect.Rect.{Rect}
use Rattle.geometry.specs.Cells.{non_empty, area}
use Rattle.geometry.specs.Common.{overlap, shares_with}
use Rattle.geometry.specs.Cut.{cut, pieces, x_ceiling, x_floor, y_ceiling, y_floor}
use Rattle.geometry.proofs.CellLaws.{some_of}
use Rattle.std.proofs.lemmas.Bool.{not-true}
use Rattle.cover.specs.Tests.{from_shared}
use Rattle.cover.proofs.SkipLaws.{shared_first, shared_same, fewer_behind}
use Rattle.area.specs.Lacked.{lacked}
use Rattle.area.proofs.LackLaws.{lacked_append, lacked_unless_empty, lacked_empty, lacked_none, lacked_cons, lacked_apart}

-- counting up to a limit: what is counted of the first, then of the second up to what the limit leaves
up_to : (l A B a b : ℕ) → a ≡ min l A → b ≡ min (l - a) B → a + b ≡ min l (A + B)
up_to l A B a b e f = omega arith

-- what is counted up to a limit of 64 bits has 64 bits
pub up_fits : (l A a : ℕ) → a ≡ min l A → l < 18446744073709551616 → a < 18446744073709551616
up_fits l A a e h = omega arith

-- nothing up to 0
pub lack_zero : (l A : ℕ) → l ≡ 0 → 0 ≡ min l A
lack_zero l A e = omega arith

-- nothing of an empty rectangle
pub lack_empty : (p : List Rect) (r : Rect) (l : ℕ) → not (non_empty r) ≡ true → 0 ≡ min l (lacked p r)
lack_empty p r l h = let e = lacked_empty p r (not-true _ h) in omega arith

-- a rectangle ends within the grid
pub record Ends (r : Rect) : Type 0 where
  pub x_most : r.urx ≤ 65536
  pub y_most : r.ury ≤ 65536

-- where no rectangle shares a cell with r, all its cells are lacked
pub lack_end : (p : List Rect) (r : Rect) (l : ℕ) → from_shared p r ≡ [] → r.urx ≤ 65536 → r.ury ≤ 65536 → min l (area r) ≡ min l (lacked p r)
lack_end p r l e x y = ap (min l) (sym (shared_same r (λ q. lacked q r) (λ s q. lacked_apart s q r) p ∙ ap (λ q. lacked q r) e ∙ lacked_none r x y))

-- the first that shares a cell cuts r
module _ (p : List Rect) (r s : Rect) (rest : List Rect) (e : from_shared p r ≡ s ∷ rest) where
  shared : non_empty (overlap r s) ≡ true
  unfolding shares_with
  shared = shared_first r p s rest e

  -- the pieces of the cut end within the grid where r does
  module _ (x : r.urx ≤ 65536) (y : r.ury ≤ 65536) (q : Rect) where
    pub x_ceiling_ends : q ≡ x_ceiling r s → Ends q
    unfolding x_ceiling
    x_ceiling_ends f = rw f (record { x_most = x; y_most = y })

    pub x_floor_ends : q ≡ x_floor r s → Ends q
    unfolding x_floor overlap
    x_floor_ends f = let o = some_of (overlap r s) shared in let w = o.wide in rw f (record { x_most = omega arith; y_most = y })

    pub y_ceiling_ends : q ≡ y_ceiling r s → Ends q
    unfolding y_ceiling overlap
    y_ceiling_ends f = rw f (record { x_most = omega arith; y_most = y })

    pub y_floor_ends : q ≡ y_floor r s → Ends q
    unfolding y_floor overlap
    y_floor_ends f = let o = some_of (overlap r s) shared in let w = o.high in rw f (record { x_most = omega arith; y_most = omega arith })

  -- the cells that the later rectangles lack of the four pieces, added
  lack_pieces : lacked p r ≡ lacked rest (x_ceiling r s) + lacked rest (x_floor r s) + lacked rest (y_ceiling r s) + lacked rest (y_floor r s)
  unfolding cut pieces
  lack_pieces =
      shared_same r (λ q. lacked q r) (λ t q. lacked_apart t q r) p ∙ ap (λ q. lacked q r) e
      ∙ lacked_cons s rest r ∙ rw shared (simp (lacked_append, lacked_unless_empty))

  pub lack_four : (l : ℕ) (p₁ p₂ p₃ p₄ : Rect) → p₁ ≡ x_ceiling r s → p₂ ≡ x_floor r s → p₃ ≡ y_ceiling r s → p₄ ≡ y_floor r s
      → (a b c d : ℕ)
      → a ≡ min l (lacked rest p₁)
      → b ≡ min (l - a) (lacked rest p₂)
      → c ≡ min (l - (a + b)) (lacked rest p₃)
      → d ≡ min (l - (a + b + c)) (lacked rest p₄)
      → a + b + c + d ≡ min l (lacked p r)
  lack_four l p₁ p₂ p₃ p₄ e₁ e₂ e₃ e₄ a b c d ea eb ec ed =
      up_to l _ _ (a + b + c) d (up_to l _ _ (a + b) c (up_to l _ _ a b ea eb) ec) ed
      ∙ rw (e₁, e₂, e₃, e₄) (ap (λ k. min l k) (sym lack_pieces))

pub ruleset counting = (lack_zero, lack_empty, lack_end, fewer_behind)
