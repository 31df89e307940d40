-- Laws of lists of rectangles as numbers: reading, writing at a place, and behind the list.
use mathlib.Core.Path.{◌≡◌, refl, sym, ◌∙◌, ap}
use mathlib.Core.List.{List, [], ◌∷◌, ◌++◌}
use Prim.Native.Nat.{ℕ, zero, suc, ◌+◌, ◌*◌, ◌≤◌, ◌<◌}
use native.Mathlib.Omega.{arith}
use native.Mathlib.Numerals.{add-one}
use native.Mathlib.Decide.{dec_le, dec_lt}
use lib.ListN.{length, take, drop, get_or, set, length-append, length-set, drop_of_length-le, get_or-append}
use lib.Seq.{drop-cons, get_or-take, get_or_at, get_or-set_same, get_or-set_other, ext_get_or, length-take-le, take-add, drop-set-lt}
use Rattle.geometry.specs.declared.rect.Rect.{Rect}
use Rattle.geometry.specs.Cells.{no_rect}
use Rattle.geometry.specs.Numbers.{rect_at, rects_in, put_at, numbers_of}
use Rattle.geometry.proofs.CellLaws.{rect_is}

pub length_rects : (m : List ℕ) (n : ℕ) → length (rects_in m n) ≡ n
unfolding rects_in
length_rects m zero = refl
length_rects m (suc n) = let ih = length_rects m n in rw length-append (omega arith)

-- the i-th of the first n
pub rects_at : (m : List ℕ) (n i : ℕ) → i < n → get_or (rects_in m n) i no_rect ≡ rect_at m i
unfolding rects_in
rects_at m zero i h = absurd (omega arith)
rects_at m (suc n) i h = go (dec_lt i n) (rects_at m n i)
  where
    go : Dec (i < n) → (i < n → get_or (rects_in m n) i no_rect ≡ rect_at m i) → get_or (rects_in m n ++ (rect_at m n ∷ [])) i no_rect ≡ rect_at m i
    go (yes k) ih = get_or-append (rects_in m n) _ no_rect i (let l = length_rects m n in omega arith) ∙ ih k
    go (no k) ih =
        let e : n ≡ i = omega arith in
        rw (← e) (get_or_at (rects_in m n) (rect_at m n) [] no_rect n (length_rects m n))

-- the first j of the first n
pub rects_take : (m : List ℕ) (n j : ℕ) → j ≤ n → take j (rects_in m n) ≡ rects_in m j
rects_take m n j h =
    let a = length_rects m n in
    let b = length_rects m j in
    let k : length (take j (rects_in m n)) ≡ j = length-take-le j (rects_in m n) (omega arith) in
    ext_get_or no_rect (take j (rects_in m n)) (rects_in m j) (k ∙ sym b) λ i g.
    let g' : i < j = omega arith in
    get_or-take j (rects_in m n) i no_rect g' ∙ rects_at m n i (omega arith) ∙ sym (rects_at m j i g')

-- what is left from the i-th on
pub rects_next : (m : List ℕ) (n i : ℕ) → i < n → drop i (rects_in m n) ≡ rect_at m i ∷ drop (i + 1) (rects_in m n)
rects_next m n i h =
    let a = length_rects m n in
    let k : i < length (rects_in m n) = omega arith in
    rw (add-one, drop-cons (rects_in m n) i no_rect k, rects_at m n i h)

pub rects_end : (m : List ℕ) (n i : ℕ) → n ≤ i → drop i (rects_in m n) ≡ []
rects_end m n i h =
    let a = length_rects m n in
    let k : length (rects_in m n) ≤ i = omega arith in
    drop_of_length-le (rects_in m n) k

pub rects_suc : (m : List ℕ) (n : ℕ) → rects_in m (n + 1) ≡ rects_in m n ++ (rect_at m n ∷ [])
unfolding rects_in
rects_suc m n = rw add-one

-- numbers that have the same rectangles, place by place
pub rects_same : (m m' : List ℕ) (n : ℕ) → ((i : ℕ) → i < n → rect_at m' i ≡ rect_at m i) → rects_in m' n ≡ rects_in m n
unfolding rects_in
rects_same m m' zero f = refl
rects_same m m' (suc n) f =
    let ih = rects_same m m' n (λ i h. f i (omega arith)) in
    rw (ih, f n (omega arith))

-- numbers with the same first 4 * n
pub rects_prefix : (m m' : List ℕ) (n : ℕ) → take (4 * n) m' ≡ take (4 * n) m → rects_in m' n ≡ rects_in m n
unfolding rect_at
rects_prefix m m' n e = rects_same m m' n λ i h.
    let at : (k : ℕ) → k < 4 * n → get_or m' k 0 ≡ get_or m k 0 =
    λ k g. sym (get_or-take (4 * n) m' k 0 g) ∙ ap (λ (l : List ℕ). get_or l k 0) e ∙ get_or-take (4 * n) m k 0 g in
    rect_is _ _ (at (4 * i) (omega arith)) (at (4 * i + 1) (omega arith)) (at (4 * i + 2) (omega arith)) (at (4 * i + 3) (omega arith))

pub length_put : (m : List ℕ) (i : ℕ) (r : Rect) → length (put_at m i r) ≡ length m
unfolding put_at
length_put m i r = simp length-set

-- the place that was written
pub put_same : (m : List ℕ) (i : ℕ) (r : Rect) → 4 * i + 4 ≤ length m → rect_at (put_at m i r) i ≡ r
unfolding rect_at put_at
put_same m i r h =
    let a = set m (4 * i) r.llx in
    let b = set a (4 * i + 1) r.lly in
    let c = set b (4 * i + 2) r.urx in
    let la : length a ≡ length m = length-set m _ _ in
    let lb : length b ≡ length m = length-set a _ _ ∙ la in
    let lc : length c ≡ length m = length-set b _ _ ∙ lb in
    rect_is _ _
    (get_or-set_other c _ _ _ 0 (λ e. omega arith) ∙ get_or-set_other b _ _ _ 0 (λ e. omega arith) ∙ get_or-set_other a _ _ _ 0 (λ e. omega arith) ∙ get_or-set_same m _ _ 0 (omega arith))
    (get_or-set_other c _ _ _ 0 (λ e. omega arith) ∙ get_or-set_other b _ _ _ 0 (λ e. omega arith) ∙ get_or-set_same a _ _ 0 (omega arith))
    (get_or-set_other c _ _ _ 0 (λ e. omega arith) ∙ get_or-set_same b _ _ 0 (omega arith))
    (get_or-set_same c _ _ 0 (omega arith))

-- another place
pub put_other : (m : List ℕ) (i j : ℕ) (r : Rect) → (j ≡ i → ⊥) → rect_at (put_at m i r) j ≡ rect_at m j
unfolding rect_at put_at
put_other m i j r h =
    let a = set m (4 * i) r.llx in
    let b = set a (4 * i + 1) r.lly in
    let c = set b (4 * i + 2) r.urx in
    let at : (k : ℕ) → (k ≡ 4 * i → ⊥) → (k ≡ 4 * i + 1 → ⊥) → (k ≡ 4 * i + 2 → ⊥) → (k ≡ 4 * i + 3 → ⊥) → get_or (set c (4 * i + 3) r.ury) k 0 ≡ get_or m k 0 =
    λ k p q s t. get_or-set_other c _ _ _ 0 t ∙ get_or-set_other b _ _ _ 0 s ∙ get_or-set_other a _ _ _ 0 q ∙ get_or-set_other m _ _ _ 0 p in
    rect_is _ _
    (at (4 * j) (λ e. h (omega arith)) (λ e. omega arith) (λ e. omega arith) (λ e. omega arith))
    (at (4 * j + 1) (λ e. omega arith) (λ e. h (omega arith)) (λ e. omega arith) (λ e. omega arith))
    (at (4 * j + 2) (λ e. omega arith) (λ e. omega arith) (λ e. h (omega arith)) (λ e. omega arith))
    (at (4 * j + 3) (λ e. omega arith) (λ e. omega arith) (λ e. omega arith) (λ e. h (omega arith)))

-- writing at a later place leaves the first n
pub put_before : (m : List ℕ) (n i : ℕ) (r : Rect) → n ≤ i → rects_in (put_at m i r) n ≡ rects_in m n
put_before m n i r h = rects_same m (put_at m i r) n λ j g. put_other m i j r (λ e. omega arith)

-- writing behind the first n
pub put_behind : (m : List ℕ) (n : ℕ) (r : Rect) → 4 * n + 4 ≤ length m → rects_in (put_at m n r) (n + 1) ≡ rects_in m n ++ (r ∷ [])
put_behind m n r h = rw (rects_suc, put_before m n n r (omega arith), put_same m n r h)

-- writing at a place leaves the numbers behind it
pub put_rest : (m : List ℕ) (i : ℕ) (r : Rect) → drop (4 * i + 4) (put_at m i r) ≡ drop (4 * i + 4) m
unfolding put_at
put_rest m i r =
    drop-set-lt (4 * i + 4) _ _ _ (omega arith) ∙ drop-set-lt (4 * i + 4) _ _ _ (omega arith) ∙ drop-set-lt (4 * i + 4) _ _ _ (omega arith)
    ∙ drop-set-lt (4 * i + 4) _ _ _ (omega arith)

-- writing at one of the first n
pub put_inside : (m : List ℕ) (n i : ℕ) (r : Rect) → i < n → 4 * n ≤ length m → rects_in (put_at m i r) n ≡ set (rects_in m n) i r
put_inside m n i r h k =
    let a = length_rects (put_at m i r) n in
    let b : length (set (rects_in m n) i r) ≡ n = length-set (rects_in m n) i r ∙ length_rects m n in
    let l = length_rects m n in
    ext_get_or no_rect (rects_in (put_at m i r) n) (set (rects_in m n) i r) (a ∙ sym b) λ j g.
    let g' : j < n = omega arith in
    rects_at (put_at m i r) n j g' ∙ go j g' l (dec_le j i) (dec_le i j)
  where
    elsewhere : (j : ℕ) → j < n → (j ≡ i → ⊥) → rect_at (put_at m i r) j ≡ get_or (set (rects_in m n) i r) j no_rect
    elsewhere j g d = put_other m i j r d ∙ sym (get_or-set_other (rects_in m n) i j r no_rect d ∙ rects_at m n j g)

    go : (j : ℕ) → j < n → length (rects_in m n) ≡ n → Dec (j ≤ i) → Dec (i ≤ j) → rect_at (put_at m i r) j ≡ get_or (set (rects_in m n) i r) j no_rect
    go j g l (yes p) (yes q) =
        let e : j ≡ i = omega arith in
        let s : i < length (rects_in m n) = omega arith in
        rw (e, put_same m i r (omega arith), get_or-set_same (rects_in m n) i r no_rect s)
    go j g l (no p) (yes q) = elsewhere j g (λ e. omega arith)
    go j g l (yes p) (no q) = elsewhere j g (λ e. omega arith)
    go j g l (no p) (no q) = elsewhere j g (λ e. omega arith)

numbers_append : (l k : List Rect) → numbers_of (l ++ k) ≡ numbers_of l ++ numbers_of k
unfolding numbers_of
numbers_append [] k = refl
numbers_append (r ∷ l) k = ap (λ (t : List ℕ). r.llx ∷ r.lly ∷ r.urx ∷ r.ury ∷ t) (numbers_append l k)

pub length_numbers : (l : List Rect) → length (numbers_of l) ≡ 4 * length l
unfolding numbers_of
length_numbers [] = refl
length_numbers (r ∷ l) = let ih = length_numbers l in omega arith

-- the numbers at one place
four_at : (m : List ℕ) (k : ℕ) → k + 4 ≤ length m → take 4 (drop k m) ≡ get_or m k 0 ∷ get_or m (k + 1) 0 ∷ get_or m (k + 2) 0 ∷ get_or m (k + 3) 0 ∷ []
four_at m k h =
    let a : drop k m ≡ get_or m k 0 ∷ drop (k + 1) m = rw (add-one, drop-cons m k 0 (omega arith)) in
    let b : drop (k + 1) m ≡ get_or m (k + 1) 0 ∷ drop (k + 2) m = let e : k + 2 ≡ suc (k + 1) = omega arith in rw (e, drop-cons m (k + 1) 0 (omega arith)) in
    let c : drop (k + 2) m ≡ get_or m (k + 2) 0 ∷ drop (k + 3) m = let e : k + 3 ≡ suc (k + 2) = omega arith in rw (e, drop-cons m (k + 2) 0 (omega arith)) in
    let d : drop (k + 3) m ≡ get_or m (k + 3) 0 ∷ drop (k + 4) m = let e : k + 4 ≡ suc (k + 3) = omega arith in rw (e, drop-cons m (k + 3) 0 (omega arith)) in
    rw (a, b, c, d)

-- the numbers of the first n rectangles
pub numbers_take : (m : List ℕ) (n : ℕ) → 4 * n ≤ length m → numbers_of (rects_in m n) ≡ take (4 * n) m
unfolding rects_in numbers_of rect_at
numbers_take m zero h = refl
numbers_take m (suc n) h =
    let ih = numbers_take m n (omega arith) in
    let e : 4 * suc n ≡ 4 * n + 4 = omega arith in
    numbers_append (rects_in m n) (rect_at m n ∷ []) ∙ rw (ih, e, take-add (4 * n) 4 m, four_at m (4 * n) (omega arith))
