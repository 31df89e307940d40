-- The spread n × Σv² − (Σv)² of numbers, and the line behind their mean (laws 13 and the duty of unsigned numbers).
use Prim.Native.Nat.{ℕ, suc, ◌+◌, ◌*◌, ◌-◌, ◌/◌, ◌<◌, ◌≤◌}
use mathlib.Core.Bool.{Bool, true, false, not, cond}
use mathlib.Core.Path.{◌≡◌, refl, sym, ap, ◌∙◌, subst}
use mathlib.Core.List.{List, [], ◌∷◌}
use mathlib.Core.Logic.{◌≢◌}
use lib.ListN.{length}
use lib.Dec.{ltb}
use native.Mathlib.Omega.{arith}
use native.Mathlib.Decide.{dec_le, dec_lt}
use native.Mathlib.Nat.{div-add-mod', mod-lt, mul-le-mul_right, mul-le-mul_left, mul_assoc}
use borrow.Author.Tests.{ltb-true, ltb-false}
use Rattle.tree.specs.Lists.{All, keep, total}

-- (a − b)² is not negative, and positive where a and b differ
square : (a b : ℕ) → 2 * (a * b) ≤ a * a + b * b
square a b = go (dec_le a b)
  where
    up : (a d : ℕ) → 2 * (a * (a + d)) ≤ a * a + (a + d) * (a + d)
    up a d = omega arith

    go : Dec (a ≤ b) → 2 * (a * b) ≤ a * a + b * b
    go (yes h) = let e : b ≡ a + (b - a) = omega arith in subst (λ (x : ℕ). 2 * (a * x) ≤ a * a + x * x) (sym e) (up a (b - a))
    go (no h) = let e : a ≡ b + (a - b) = omega arith in subst (λ (x : ℕ). 2 * (x * b) ≤ x * x + b * b) (sym e) (let k = up b (a - b) in omega arith)

square_more : (a b : ℕ) → a ≢ b → 2 * (a * b) < a * a + b * b
square_more a b n = go (dec_lt a b)
  where
    up : (a d : ℕ) → 2 * (a * (a + suc d)) < a * a + (a + suc d) * (a + suc d)
    up a d = omega arith

    go : Dec (a < b) → 2 * (a * b) < a * a + b * b
    go (yes h) = let e : b ≡ a + suc (b - suc a) = omega arith in subst (λ (x : ℕ). 2 * (a * x) < a * a + x * x) (sym e) (up a (b - suc a))
    go (no h) = let e : a ≡ b + suc (a - suc b) = omega arith in subst (λ (x : ℕ). 2 * (x * b) < x * x + b * b) (sym e) (let k = up b (a - suc b) in omega arith)

module _ {A : Type 0} (v : A → ℕ) where
  -- one number against a list
  against : (a : ℕ) (l : List A) → 2 * (a * total v l) ≤ length l * (a * a) + total (λ e. v e * v e) l
  unfolding total
  against a [] = omega arith
  against a (e ∷ l) = let i = against a l in let k = square a (v e) in omega arith

  -- (Σv)² ≤ n × Σv²: the spread is never negative
  pub spread_least : (l : List A) → total v l * total v l ≤ length l * total (λ e. v e * v e) l
  unfolding total
  spread_least [] = omega arith
  spread_least (e ∷ l) = let i = spread_least l in let k = against (v e) l in omega arith

  -- and less where two of them differ
  pub spread_more : (a b : A) (l : List A) → v a ≢ v b → total v (a ∷ b ∷ l) * total v (a ∷ b ∷ l) < length (a ∷ b ∷ l) * total (λ e. v e * v e) (a ∷ b ∷ l)
  unfolding total
  spread_more a b l n = let i = spread_least (b ∷ l) in let k = against (v a) l in let j = square_more (v a) (v b) n in omega arith

  -- where no element is below k, the sum is at least n × k
  none_below : (k : ℕ) (l : List A) → length (keep (λ e. ltb (v e) k) l) ≡ 0 → length l * k ≤ total v l
  unfolding keep total
  none_below k [] h = omega arith
  none_below k (e ∷ l) h = go (ltb (v e) k) refl h (none_below k l)
    where
      go : (b : Bool) → ltb (v e) k ≡ b → length (cond b (e ∷ keep (λ x. ltb (v x) k) l) (keep (λ x. ltb (v x) k) l)) ≡ 0 → (length (keep (λ x. ltb (v x) k) l) ≡ 0 → length l * k ≤ total v l) → suc (length l) * k ≤ v e + total v l
      go true t h f = absurd (omega arith)
      go false t h f = let i = f h in let j = ltb-false (v e) k t in omega arith

  -- where no element is over k, each is at most k
  none_above : (k : ℕ) (l : List A) → length (keep (λ e. not (ltb (v e) (k + 1))) l) ≡ 0 → All (λ e. v e ≤ k) l
  unfolding keep All
  none_above k [] h = tt
  none_above k (e ∷ l) h = go (ltb (v e) (k + 1)) refl h (none_above k l)
    where
      go : (b : Bool) → ltb (v e) (k + 1) ≡ b → length (cond (not b) (e ∷ keep (λ x. not (ltb (v x) (k + 1))) l) (keep (λ x. not (ltb (v x) (k + 1))) l)) ≡ 0 → (length (keep (λ x. not (ltb (v x) (k + 1))) l) ≡ 0 → All (λ x. v x ≤ k) l) → (v e ≤ k) × All (λ x. v x ≤ k) l
      go true t h f = let j = ltb-true (v e) (k + 1) t in (omega arith, f h)
      go false t h f = absurd (omega arith)

  -- where each element is at most k, so is their mean
  pub sum_most : (k : ℕ) (l : List A) → All (λ e. v e ≤ k) l → total v l ≤ length l * k
  unfolding total All
  sum_most k [] h = omega arith
  sum_most k (e ∷ l) h = let i = sum_most k l h.1 in let j = h.0 in omega arith

  -- and the sum of squares is at most k × Σv
  pub squares_most : (k : ℕ) (l : List A) → All (λ e. v e ≤ k) l → total (λ e. v e * v e) l ≤ k * total v l
  unfolding total All
  squares_most k [] h = omega arith
  squares_most k (e ∷ l) h = let i = squares_most k l h.1 in let j = mul-le-mul_right (v e) h.0 in omega arith

  -- some element is before the line behind the mean
  pub mean_left : (l : List A) → 1 ≤ length l → 1 ≤ length (keep (λ e. ltb (v e) (total v l / length l + 1)) l)
  mean_left l n = go (dec_le 1 (length (keep (λ e. ltb (v e) (total v l / length l + 1)) l)))
    where
      go : Dec (1 ≤ length (keep (λ e. ltb (v e) (total v l / length l + 1)) l)) → 1 ≤ length (keep (λ e. ltb (v e) (total v l / length l + 1)) l)
      go (yes h) = h
      go (no h) =
          let a = none_below (total v l / length l + 1) l (omega arith) in
          let b = div-add-mod' (total v l) (length l) in let c = mod-lt (total v l) {m = length l} n in
          absurd (omega arith)

  -- and, where the spread is positive, some element is not
  pub mean_right : (l : List A) → 1 ≤ length l → total v l * total v l < length l * total (λ e. v e * v e) l → 1 ≤ length (keep (λ e. not (ltb (v e) (total v l / length l + 1))) l)
  mean_right l n s = go (dec_le 1 (length (keep (λ e. not (ltb (v e) (total v l / length l + 1))) l)))
    where
      go : Dec (1 ≤ length (keep (λ e. not (ltb (v e) (total v l / length l + 1))) l)) → 1 ≤ length (keep (λ e. not (ltb (v e) (total v l / length l + 1))) l)
      go (yes h) = h
      go (no h) =
          let k = total v l / length l in
          let a = none_above k l (omega arith) in
          let b = sum_most k l a in
          let c = squares_most k l a in
          let d = div-add-mod' (total v l) (length l) in
          let e : total v l ≡ length l * k = omega arith in
          let f = mul-le-mul_left (length l) c in
          let g : length l * (k * total v l) ≡ total v l * total v l = sym (mul_assoc (length l) k (total v l)) ∙ ap (λ (x : ℕ). x * total v l) (sym e) in
          absurd (omega arith)

  -- with each element at most k: n × Σv² ≤ (n × k)², a bound for the numbers of the code
  pub squares_bound : (k : ℕ) (l : List A) → All (λ e. v e ≤ k) l → length l * total (λ e. v e * v e) l ≤ (length l * k) * (length l * k)
  squares_bound k l h =
      let a = squares_most k l h in
      let b = mul-le-mul_left k (sum_most k l h) in
      let c : total (λ e. v e * v e) l ≤ k * (length l * k) = omega arith in
      let d = mul-le-mul_left (length l) c in
      omega arith
