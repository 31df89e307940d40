-- The rectangles of numbers, four each: one step of reading them, and the first n of a longer list.
use Rattle.std.proofs.Common.{arith, Bool, ◌≡◌, ℕ, zero, suc, ◌+◌, ◌-◌, ◌*◌, ◌/◌, ◌<◌, ◌≤◌, List, [], ◌∷◌, length, slice_index_or, take, drop, refl, ap}
use Rattle.std.proofs.Math.Seq.{take-length}
use Rattle.std.proofs.lemmas.List.{drop-take}
use Rattle.geometry.specs.declared.rect.Rect.{Rect}
use Rattle.std.specs.List.{list_any, list_all}
use Rattle.polygons.specs.Lists.{any}
use Rattle.geometry.specs.Cells.{rect_of, valid, all_valid}
use Rattle.geometry.specs.Numbers.{rects_in, numbers_of}
use Rattle.geometry.specs.Rects.{rects_of_numbers}
use Rattle.geometry.proofs.NumberLaws.{numbers_take}

-- fewer than four numbers are no rectangle
pub few_none : (l : List ℕ) → length l < 4 → rects_of_numbers l ≡ []
unfolding rects_of_numbers
few_none [] h = refl
few_none (a ∷ []) h = refl
few_none (a ∷ b ∷ []) h = refl
few_none (a ∷ b ∷ c ∷ []) h = refl
few_none (a ∷ b ∷ c ∷ d ∷ l) h = absurd (omega arith)

-- four numbers are the first rectangle, and the others are of the numbers behind them
pub first_rect : (l : List ℕ) → 4 ≤ length l
    → rects_of_numbers l ≡ rect_of (slice_index_or l 0 0) (slice_index_or l 1 0) (slice_index_or l 2 0) (slice_index_or l 3 0) ∷ rects_of_numbers (take (length l - 4) (drop 4 l))
unfolding rects_of_numbers
first_rect (a ∷ b ∷ c ∷ d ∷ l) h = let e : length (a ∷ b ∷ c ∷ d ∷ l) - 4 ≡ length l = omega arith in rw (e, take-length)
first_rect [] h = absurd (omega arith)
first_rect (a ∷ []) h = absurd (omega arith)
first_rect (a ∷ b ∷ []) h = absurd (omega arith)
first_rect (a ∷ b ∷ c ∷ []) h = absurd (omega arith)

-- so fewer are left
pub fewer_left : (l : List ℕ) → 4 ≤ length l → length (rects_of_numbers (take (length l - 4) (drop 4 l))) < length (rects_of_numbers l)
fewer_left l h = let e = ap length (first_rect l h) in omega arith

pub ruleset one_step = (few_none, first_rect, fewer_left)

-- reading the numbers of rectangles gives the rectangles
pub of_numbers : (l : List Rect) → rects_of_numbers (numbers_of l) ≡ l
unfolding rects_of_numbers numbers_of
of_numbers [] = refl
of_numbers (r ∷ l) = ap (λ (k : List Rect). r ∷ k) (of_numbers l)

-- the rectangles of the first 4 * n numbers are the first n
pub rects_first : (m : List ℕ) (n : ℕ) → 4 * n ≤ length m → rects_of_numbers (take (4 * n) m) ≡ rects_in m n
rects_first m n h = rw (← numbers_take m n h) (of_numbers (rects_in m n))

-- four numbers a rectangle
pub length_of_numbers : (l : List ℕ) → length (rects_of_numbers l) ≡ length l / 4
unfolding rects_of_numbers
length_of_numbers (a ∷ b ∷ c ∷ d ∷ l) = let ih = length_of_numbers l in omega arith
length_of_numbers [] = refl
length_of_numbers (a ∷ []) = refl
length_of_numbers (a ∷ b ∷ []) = refl
length_of_numbers (a ∷ b ∷ c ∷ []) = refl

-- the library's word for `any`
pub list_any-any : {A : Type 0} (t : A → Bool) (l : List A) → list_any t l ≡ any t l
unfolding any
list_any-any t [] = refl
list_any-any t (a ∷ l) = rw (list_any-any t l)

-- its word for `all_valid`
pub list_all-valid : (l : List Rect) → list_all valid l ≡ all_valid l
unfolding all_valid
list_all-valid [] = refl
list_all-valid (r ∷ l) = rw (list_all-valid l)

-- leaving out the first 4 * k numbers leaves out k rectangles
rects_skip : (k : ℕ) (l : List ℕ) → rects_of_numbers (drop (4 * k) l) ≡ drop k (rects_of_numbers l)
unfolding rects_of_numbers
rects_skip zero l = refl
rects_skip (suc k) (a ∷ b ∷ c ∷ d ∷ l) =
    let e : 4 * suc k ≡ suc (suc (suc (suc (4 * k)))) = omega arith in
    rw (e, rects_skip k l)
rects_skip (suc k) [] = let e : 4 * suc k ≡ suc (suc (suc (suc (4 * k)))) = omega arith in rw e
rects_skip (suc k) (a ∷ []) = let e : 4 * suc k ≡ suc (suc (suc (suc (4 * k)))) = omega arith in rw e
rects_skip (suc k) (a ∷ b ∷ []) = let e : 4 * suc k ≡ suc (suc (suc (suc (4 * k)))) = omega arith in rw e
rects_skip (suc k) (a ∷ b ∷ c ∷ []) = let e : 4 * suc k ≡ suc (suc (suc (suc (4 * k)))) = omega arith in rw e

-- the rectangles from one place of the list up to before another
pub rects_between : (m : List ℕ) (from e : ℕ) → from ≤ e → 4 * e ≤ length m → rects_of_numbers (take (4 * e - 4 * from) (drop (4 * from) m)) ≡ drop from (rects_in m e)
rects_between m from e h k =
    let s : 4 * from + (4 * e - 4 * from) ≡ 4 * e = omega arith in
    rw (← drop-take (4 * from) (4 * e - 4 * from) m, s, rects_skip) (ap (drop from) (rects_first m e k))
