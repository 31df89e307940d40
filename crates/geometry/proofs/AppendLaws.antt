-- Writing rectangles behind a list of numbers: the ways out of the functions that do it.
use mathlib.Core.Path.{◌≡◌, refl, sym, ◌∙◌, ap}
use mathlib.Core.Bool.{Bool, true, false, not}
use mathlib.Core.List.{List, [], ◌∷◌, ◌++◌, append-nil, append_assoc}
use Rattle.std.proofs.Common.{Option, Some, None}
use Rattle.std.proofs.lemmas.Bool.{not-true, not-false}
use Prim.Native.Nat.{ℕ, ◌+◌, ◌*◌, ◌≤◌}
use native.Mathlib.Omega.{arith}
use lib.ListN.{length, length-append}
use Rattle.geometry.specs.declared.rect.Rect.{Rect}
use Rattle.geometry.specs.Cells.{non_empty}
use Rattle.geometry.specs.Common.{common_part, unless_empty, common, shares_with}
use Rattle.geometry.specs.Cut.{x_ceiling, x_floor, y_ceiling, y_floor, pieces, cut}
use Rattle.geometry.specs.Numbers.{rects_in, put_at, Appended}
use Rattle.geometry.proofs.NumberLaws.{put_behind, length_put, length_rects}
use Rattle.geometry.proofs.CommonLaws.{has_common, no_common}

module _ (m : List ℕ) (n : ℕ) where
  -- nothing is written
  pub append_none : (k : ℕ) → Appended m n [] k m n
  append_none k = record { list = sym (append-nil _); few = omega arith; same_length = refl }

  -- one rectangle is written
  pub append_one : (r : Rect) (k : ℕ) → 1 ≤ k → 4 * n + 4 ≤ length m → (m' : List ℕ) → m' ≡ put_at m n r → Appended m n (r ∷ []) k m' (n + 1)
  append_one r k g h m' e = rw e (record { list = put_behind m n r h; few = omega arith; same_length = length_put m n r })

  -- some are written, and then more
  pub append_more : (a b : List Rect) (j k : ℕ) (m₁ m₂ : List ℕ) (n₁ n₂ : ℕ) → Appended m n a j m₁ n₁ → Appended m₁ n₁ b k m₂ n₂ → Appended m n (a ++ b) (j + k) m₂ n₂
  append_more a b j k m₁ m₂ n₁ n₂ v w = record {
    list = w.list ∙ rw (v.list, append_assoc);
    few = omega (arith, v.few, w.few);
    same_length = w.same_length ∙ v.same_length;
  }

-- how many there are then
pub append_count : (m : List ℕ) (n : ℕ) (new : List Rect) (k : ℕ) (m' : List ℕ) (n' : ℕ) → Appended m n new k m' n' → n' ≡ n + length new
append_count m n new k m' n' v =
    sym (length_rects m' n') ∙ ap length v.list ∙ length-append (rects_in m n) new ∙ rw (length_rects m n)

module _ (m : List ℕ) (n : ℕ) (r : Rect) where
  module _ (b : Bool) (p : b ≡ not (non_empty r)) where
    pub put_empty : b ≡ true → Appended m n (unless_empty r) 1 m n
    unfolding unless_empty
    put_empty e = rw (not-true _ (sym p ∙ e)) (append_none m n 1)

    pub put_filled : b ≡ false → 4 * n + 4 ≤ length m → (m' : List ℕ) → m' ≡ put_at m n r → Appended m n (unless_empty r) 1 m' (n + 1)
    unfolding unless_empty
    put_filled e h m' f = rw (not-false _ (sym p ∙ e)) (append_one m n r 1 (omega arith) h m' f)

module _ (m : List ℕ) (n : ℕ) (r s : Rect) where
  -- the four pieces of a cut, one after another
  pub four_pieces : (p q t u : Rect) (m₁ m₂ m₃ m₄ : List ℕ) (n₁ n₂ n₃ n₄ : ℕ)
      → p ≡ x_ceiling r s → q ≡ x_floor r s → t ≡ y_ceiling r s → u ≡ y_floor r s
      → Appended m n (unless_empty p) 1 m₁ n₁
      → Appended m₁ n₁ (unless_empty q) 1 m₂ n₂
      → Appended m₂ n₂ (unless_empty t) 1 m₃ n₃
      → Appended m₃ n₃ (unless_empty u) 1 m₄ n₄
      → Appended m n (pieces r s) 4 m₄ n₄
  unfolding pieces
  four_pieces p q t u m₁ m₂ m₃ m₄ n₁ n₂ n₃ n₄ e f g h a b c d =
      rw (← e, ← f, ← g, ← h)
      (append_more m n _ _ 3 1 m₃ m₄ n₃ n₄ (append_more m n _ _ 2 1 m₂ m₃ n₂ n₃ (append_more m n _ _ 1 1 m₁ m₂ n₁ n₂ a b) c) d)

  module _ (k : Bool) (e : k ≡ shares_with s r) where
    -- the cut where the two share cells, and where not
    pub cut_shared : (m' : List ℕ) (n' : ℕ) → k ≡ true → Appended m n (pieces r s) 4 m' n' → Appended m n (cut r s) 4 m' n'
    unfolding cut shares_with
    cut_shared m' n' f v = rw (sym e ∙ f) v

    pub cut_apart : k ≡ false → 4 * n + 16 ≤ length m → (m' : List ℕ) → m' ≡ put_at m n r → Appended m n (cut r s) 4 m' (n + 1)
    unfolding cut shares_with
    cut_apart f h m' g = rw (sym e ∙ f) (append_one m n r 4 (omega arith) (omega arith) m' g)

module _ (m : List ℕ) (n : ℕ) (r s : Rect) (k : Option Rect) (e : k ≡ common_part r s) where
  -- the common part, and none
  pub put_part : (u : Rect) → k ≡ Some u → 4 * n + 4 ≤ length m → (m' : List ℕ) → m' ≡ put_at m n u → Appended m n (common r s) 1 m' (n + 1)
  unfolding common unless_empty
  put_part u f h m' g = rw ((has_common r s k e u f).0, ← (has_common r s k e u f).1) (append_one m n u 1 (omega arith) h m' g)

  pub put_none : k ≡ None → Appended m n (common r s) 1 m n
  unfolding common unless_empty
  put_none f = rw (no_common r s k e f) (append_none m n 1)
