-- Contained rectangles can be dropped in any order: refine gives the same list.
use mathlib.Core.Path.{◌≡◌, refl, sym, ◌∙◌, ap}
use mathlib.Core.Bool.{Bool, true, false, ◌||◌}
use mathlib.Core.List.{List, [], ◌∷◌, ◌++◌}
use mathlib.Core.Logic.{◌⊎◌, inl, inr, ⊎_elim}
use Prim.Native.Nat.{ℕ, zero, suc, ◌+◌, ◌-◌, ◌≤◌, ◌<◌}
use native.Mathlib.Omega.{arith}
use native.Mathlib.Numerals.{add-one}
use native.Mathlib.Decide.{dec_lt}
use borrow.Author.Tests.{leb-true, le-leb, lt-ltb}
use lib.Dec.{ltb}
use lib.ListN.{length, take, drop, get_or, length-drop, get_or-append}
use lib.Seq.{split_at, ext_get_or, get_or-take, get_or-drop, get_or-append-add, length-take-le, take-append-le, drop-append-le, take-take}
use Rattle.polygons.specs.Lists.{any}
use Rattle.polygons.proofs.Booleans.{is_false, not_both, either, neither, split_and, all4}
use Rattle.polygons.proofs.ListLaws.{any_append}
use Rattle.geometry.specs.declared.rect.Rect.{Rect}
use Rattle.geometry.specs.Cells.{no_rect}
use Rattle.geometry.specs.Refine.{within, strictly_within, contained, first_contained, dropped, refine_step, refine_steps, refine}
use Rattle.geometry.proofs.RefineLaws.{length_dropped, contained_found, shorter}
use Rattle.refinement.specs.Search.{place_without}
use Rattle.refinement.proofs.FirstLaws.{first_before, first_is, in_earlier, in_later}

any_without : (p : Rect → Bool) (l m : List Rect) (r : Rect) → any p (l ++ (r ∷ m)) ≡ false → any p (l ++ m) ≡ false
unfolding any
any_without p l m r e =
    let f = neither (any p l) (p r || any p m) (sym (any_append p l (r ∷ m)) ∙ e) in
    any_append p l m ∙ rw (f.0, (neither (p r) (any p m) f.1).1)

-- dropping one cannot make an earlier one contained
pub contained_dropped : (l : List Rect) (i k : ℕ) → k < i → i < length l → contained l k ≡ false
    → contained (dropped l i) k ≡ false
unfolding contained
contained_dropped l i k g h e =
    let n : length (take i l) ≡ i = length-take-le i l (omega arith) in
    let a : k < length (take i l) = omega arith in
    let b : k ≤ length (take i l) = omega arith in
    let c : k + 1 ≤ length (take i l) = omega arith in
    let d : k ≤ i = omega arith in
    let q : drop (k + 1) l ≡ drop (k + 1) (take i l) ++ (get_or l i no_rect ∷ drop (i + 1) l) =
    rw (add-one i) (ap (drop (k + 1)) (split_at l i no_rect h) ∙ drop-append-le (k + 1) (take i l) _ c) in
    let r = get_or l k no_rect in
    let f = neither (any (within r) (take k l)) (any (strictly_within r) (drop (k + 1) l)) e in
    rw (
      get_or-append (take i l) (drop (i + 1) l) no_rect k a,
      get_or-take i l k no_rect g,
      take-append-le k (take i l) (drop (i + 1) l) b,
      take-take k i l d,
      drop-append-le (k + 1) (take i l) (drop (i + 1) l) c,
      f.0,
    )
    (any_without (strictly_within (get_or l k no_rect)) (drop (k + 1) (take i l)) (drop (i + 1) l) (get_or l i no_rect)
    (sym (ap (any (strictly_within (get_or l k no_rect))) q) ∙ f.1))

-- a step does not change what refine gives
pub refine_of_step : (l : List Rect) → refine (refine_step l) ≡ refine l
unfolding refine refine_steps
refine_of_step l = ⊎_elim
    (λ e. ap refine e)
    (λ e. let f : length l ≡ suc (length (refine_step l)) = omega arith in
    sym (ap (λ (n : ℕ). refine_steps n l) f))
    (shorter l)

-- A place of the list that passes.
record Passes (p : Rect → Bool) (l : List Rect) : Type 0 where
  place : ℕ
  inside : place < length l
  passes : p (get_or l place no_rect) ≡ true

any_place : (p : Rect → Bool) (l : List Rect) → any p l ≡ true → Passes p l
unfolding any
any_place p [] e = absurd (not_both _ e refl)
any_place p (s ∷ l) e =
    let ih = any_place p l in
    ⊎_elim
    (λ f. record { place = 0; inside = omega arith; passes = f })
    (λ f. let v = ih f in record { place = suc v.place; inside = omega (arith, v.inside); passes = v.passes })
    (either (p s) (any p l) e)

within_trans : (r s t : Rect) → within r s ≡ true → within s t ≡ true → within r t ≡ true
unfolding within
within_trans r s t e f =
    let x = all4 _ _ _ _ e in
    let y = all4 _ _ _ _ f in
    let a : t.llx ≤ r.llx = through (leb-true _ _ y.0) (leb-true _ _ x.0) in
    let b : r.urx ≤ t.urx = through (leb-true _ _ x.1) (leb-true _ _ y.1) in
    let c : t.lly ≤ r.lly = through (leb-true _ _ y.2) (leb-true _ _ x.2) in
    let d : r.ury ≤ t.ury = through (leb-true _ _ x.3) (leb-true _ _ y.3) in
    simp (le-leb _ _ a, le-leb _ _ b, le-leb _ _ c, le-leb _ _ d)
  where
    through : {x y z : ℕ} → x ≤ y → y ≤ z → x ≤ z
    through h k = omega arith

-- The m-th contains the k-th, and is the earlier one if they are equal.
record Contains (l : List Rect) (m k : ℕ) : Type 0 where
  inside : m < length l
  holds : within (get_or l k no_rect) (get_or l m no_rect) ≡ true
  earlier : within (get_or l m no_rect) (get_or l k no_rect) ≡ true → m < k

none_itself : (l : List Rect) (k : ℕ) → Contains l k k → ⊥
none_itself l k v = let h = v.earlier v.holds in omega arith

contains_trans : (l : List Rect) (i j k : ℕ) → Contains l i j → Contains l j k → Contains l i k
contains_trans l i j k v w = record {
  inside = v.inside;
  holds = within_trans _ _ _ w.holds v.holds;
  earlier = λ e.
      let a = v.earlier (within_trans _ _ _ e w.holds) in
      let b = w.earlier (within_trans _ _ _ v.holds e) in
      omega arith;
}

-- A rectangle that contains the k-th.
record Container (l : List Rect) (k : ℕ) : Type 0 where
  place : ℕ
  contains : Contains l place k

module _ (l : List Rect) (k : ℕ) (g : k < length l) where
  container : contained l k ≡ true → Container l k
  unfolding contained strictly_within
  container e = ⊎_elim before after (either (any (within (get_or l k no_rect)) (take k l)) _ e)
    where
      before : any (within (get_or l k no_rect)) (take k l) ≡ true → Container l k
      before f =
          let v = any_place (within (get_or l k no_rect)) (take k l) f in
          let a : length (take k l) ≡ k = length-take-le k l (omega arith) in
          let h : v.place < k = omega (arith, v.inside) in
          let t = rw (get_or-take k l v.place no_rect h) at v.passes in
          record { place = v.place; contains = record { inside = omega arith; holds = t; earlier = λ z. h } }

      after : any (strictly_within (get_or l k no_rect)) (drop (k + 1) l) ≡ true → Container l k
      after f =
          let v = any_place (strictly_within (get_or l k no_rect)) (drop (k + 1) l) f in
          let a : length (drop (k + 1) l) ≡ length l - (k + 1) = length-drop (k + 1) l in
          let h : k + 1 + v.place < length l = omega (arith, v.inside) in
          let s = split_and _ _ (rw (get_or-drop (k + 1) l v.place no_rect) at v.passes) in
          record {
            place = k + 1 + v.place;
            contains = record {
              inside = h;
              holds = s.0;
              earlier = λ z. absurd (not_both _ s.1 (rw z));
            };
          }

  contained_in : (m : ℕ) → Contains l m k → contained l k ≡ true
  contained_in m v = go (dec_lt m k) (dec_lt k m)
    where
      go : Dec (m < k) → Dec (k < m) → contained l k ≡ true
      go (yes a) b = in_earlier l k g m a v.holds
      go (no a) (yes b) =
          in_later l k g m b v.inside v.holds (is_false _ (λ e. let h = v.earlier e in omega arith))
      go (no a) (no b) = let z : m ≡ k = omega arith in absurd (none_itself l k (rw z at v))

-- the j-th of a list without its i-th
pub dropped_low : (l : List Rect) (i j : ℕ) → i < length l → j < i → get_or (dropped l i) j no_rect ≡ get_or l j no_rect
dropped_low l i j h g =
    let a : length (take i l) ≡ i = length-take-le i l (omega arith) in
    let b : j < length (take i l) = omega arith in
    get_or-append (take i l) (drop (i + 1) l) no_rect j b ∙ get_or-take i l j no_rect g

pub dropped_high : (l : List Rect) (i j : ℕ) → i < length l → i ≤ j
    → get_or (dropped l i) j no_rect ≡ get_or l (j + 1) no_rect
dropped_high l i j h g =
    let a : length (take i l) ≡ i = length-take-le i l (omega arith) in
    let e : j ≡ length (take i l) + (j - i) = omega arith in
    let f : i + 1 + (j - i) ≡ j + 1 = omega arith in
    ap (λ (k : ℕ). get_or (dropped l i) k no_rect) e
    ∙ get_or-append-add (take i l) (drop (i + 1) l) (j - i) no_rect
    ∙ get_or-drop (i + 1) l (j - i) no_rect
    ∙ ap (λ (k : ℕ). get_or l k no_rect) f

-- where the k-th stands when the i-th, another one, is dropped
module _ (k i : ℕ) where
  placed_low : k < i → place_without k i ≡ k
  placed_low h = omega arith

  placed_high : i < k → place_without k i ≡ k - 1
  placed_high h = omega arith

  -- another one is earlier or later
  pub side : (k ≡ i → ⊥) → (k < i) ⊎ (i < k)
  side d = go (dec_lt k i) (dec_lt i k)
    where
      go : Dec (k < i) → Dec (i < k) → (k < i) ⊎ (i < k)
      go (yes a) b = inl a
      go (no a) (yes b) = inr b
      go (no a) (no b) = absurd (d (omega arith))

module _ (l : List Rect) (c : ℕ) (g : c < length l) where
  others : (k : ℕ) → (k ≡ c → ⊥) → get_or (dropped l c) (place_without k c) no_rect ≡ get_or l k no_rect
  others k d = ⊎_elim
      (λ h. rw (placed_low k c h) (dropped_low l c k g h))
      (λ h.
      let m : c ≤ k - 1 = omega arith in
      let e : k - 1 + 1 ≡ k = omega arith in
      rw (placed_high k c h, dropped_high l c (k - 1) g m, e))
      (side k c d)

  others_inside : (k : ℕ) → (k ≡ c → ⊥) → k < length l → place_without k c < length (dropped l c)
  others_inside k d h =
      let n = length_dropped l c g in
      ⊎_elim (λ a. rw (placed_low k c a) (omega arith)) (λ a. rw (placed_high k c a) (omega arith)) (side k c d)

  others_order : (m k : ℕ) → (m ≡ c → ⊥) → (k ≡ c → ⊥) → m < k → place_without m c < place_without k c
  others_order m k d e h = ⊎_elim
      (λ a. ⊎_elim
      (λ b. rw (placed_low m c a, placed_low k c b) h)
      (λ b. rw (placed_low m c a, placed_high k c b) (omega arith))
      (side k c e))
      (λ a. ⊎_elim
      (λ b. absurd (omega arith))
      (λ b. rw (placed_high m c a, placed_high k c b) (omega arith))
      (side k c e))
      (side m c d)

  -- what contains another one does so when a third is dropped
  contains_still : (m k : ℕ) → (m ≡ c → ⊥) → (k ≡ c → ⊥) → Contains l m k
      → Contains (dropped l c) (place_without m c) (place_without k c)
  contains_still m k d e v = record {
    inside = others_inside m d v.inside;
    holds = rw (others m d, others k e) v.holds;
    earlier = λ f. others_order m k d e (v.earlier (rw (others m d, others k e) at f));
  }

  -- a contained rectangle is so when another contained one is dropped
  contained_still : (k : ℕ) → k < length l → (k ≡ c → ⊥) → contained l k ≡ true → contained l c ≡ true
      → contained (dropped l c) (place_without k c) ≡ true
  contained_still k h d e f =
      let v = container l k h e in
      let w = container l c g f in
      go v.place v.contains w.place w.contains (dec_lt v.place c) (dec_lt c v.place)
    where
      by : (m : ℕ) → (m ≡ c → ⊥) → Contains l m k → contained (dropped l c) (place_without k c) ≡ true
      by m z v =
          let x = others_inside k d h in
          contained_in (dropped l c) (place_without k c) x (place_without m c) (contains_still m k z d v)

      go : (m : ℕ) → Contains l m k → (o : ℕ) → Contains l o c → Dec (m < c) → Dec (c < m)
          → contained (dropped l c) (place_without k c) ≡ true
      go m v o w (yes a) b = by m (λ z. omega arith) v
      go m v o w (no a) (yes b) = by m (λ z. omega arith) v
      go m v o w (no a) (no b) =
          let z : m ≡ c = omega arith in
          by o (λ y. none_itself l c (rw y at w)) (contains_trans l o c k w (rw z at v))

-- two that are dropped, in either order
drop_both : (l : List Rect) (f c : ℕ) → f < c → c < length l → dropped (dropped l c) f ≡ dropped (dropped l f) (c - 1)
drop_both l f c g h =
    let k : f < length l = omega arith in
    let a = length_dropped l c h in
    let b = length_dropped l f k in
    let m : f < length (dropped l c) = omega arith in
    let n : c - 1 < length (dropped l f) = omega arith in
    let d = length_dropped (dropped l c) f m in
    let e = length_dropped (dropped l f) (c - 1) n in
    ext_get_or no_rect (dropped (dropped l c) f) (dropped (dropped l f) (c - 1)) (omega arith)
    (λ y _. go k m n y (dec_lt y f) (dec_lt (y + 1) c))
  where
    go : f < length l → f < length (dropped l c) → c - 1 < length (dropped l f) → (y : ℕ) → Dec (y < f)
        → Dec (y + 1 < c)
        → get_or (dropped (dropped l c) f) y no_rect ≡ get_or (dropped (dropped l f) (c - 1)) y no_rect
    go k m n y (yes a) b = rw (
      dropped_low (dropped l c) f y m a,
      dropped_low l c y h (omega arith),
      dropped_low (dropped l f) (c - 1) y n (omega arith),
      dropped_low l f y k a,
    )
    go k m n y (no a) (yes b) = rw (
      dropped_high (dropped l c) f y m (omega arith),
      dropped_low l c (y + 1) h b,
      dropped_low (dropped l f) (c - 1) y n (omega arith),
      dropped_high l f y k (omega arith),
    )
    go k m n y (no a) (no b) = rw (
      dropped_high (dropped l c) f y m (omega arith),
      dropped_high l c (y + 1) h (omega arith),
      dropped_high (dropped l f) (c - 1) y n (omega arith),
      dropped_high l f (y + 1) k (omega arith),
    )

-- the definition's step drops the first contained one
first_drop : (l : List Rect) (c : ℕ) → first_contained l ≡ c → c < length l → refine (dropped l c) ≡ refine l
unfolding refine_step
first_drop l c e h =
    let k : ltb (first_contained l) (length l) ≡ true = rw e (lt-ltb c (length l) h) in
    let s : refine_step l ≡ dropped l c = rw (k, e) in
    ap refine (sym s) ∙ refine_of_step l

-- the law for lists of at most n rectangles
abbrev AnyDrop : ℕ → Type 0
AnyDrop n =
    (l : List Rect) (c : ℕ) → length l ≤ n → c < length l → contained l c ≡ true → refine (dropped l c) ≡ refine l

-- another one is the first: it and this one can be dropped in either order
later_drop : (n : ℕ) → AnyDrop n → (l : List Rect) (c f : ℕ) → length l ≤ n + 1 → c < length l → contained l c ≡ true
    → first_contained l ≡ f → f < c → refine (dropped l c) ≡ refine l
unfolding first_contained
later_drop n ih l c f g h e q a =
    let k : f < length l = omega arith in
    let m = length_dropped l c h in
    let o = length_dropped l f k in
    let t : contained l f ≡ true = rw q at (contained_found l (omega arith)) in
    let u = rw (placed_low f c a) at (contained_still l c h f k (λ z. omega arith) t e) in
    let w = rw (placed_high c f a) at (contained_still l f k c h (λ z. omega arith) e t) in
    let v : first_contained (dropped l c) ≡ f =
    first_is (contained (dropped l c)) 0 (length (dropped l c)) f (omega arith) (omega arith) u
    (λ i _ j. contained_dropped l c i (omega arith) h
    (first_before (contained l) 0 (length l) i (omega arith) (rw q j))) in
    sym (first_drop (dropped l c) f v (omega arith))
    ∙ ap refine (drop_both l f c a h)
    ∙ ih (dropped l f) (c - 1) (omega arith) (omega arith) w
    ∙ first_drop l f q k

any_drop : (n : ℕ) → AnyDrop n
unfolding first_contained
any_drop zero l c g h e = absurd (omega arith)
any_drop (suc n) l c g h e =
    let ih = any_drop n in
    go ih (dec_lt (first_contained l) c) (dec_lt c (first_contained l))
  where
    go : AnyDrop n → Dec (first_contained l < c) → Dec (c < first_contained l) → refine (dropped l c) ≡ refine l
    go ih (yes a) b = later_drop n ih l c (first_contained l) (omega arith) h e refl a
    go ih (no a) (yes b) = absurd (not_both _ e (first_before (contained l) 0 (length l) c (omega arith) b))
    go ih (no a) (no b) = first_drop l c (omega arith) h

-- a contained rectangle can be dropped, whether it is the first or not
pub refine_dropped : (l : List Rect) (c : ℕ) → c < length l → contained l c ≡ true → refine (dropped l c) ≡ refine l
refine_dropped l c h e = any_drop (length l) l c (omega arith) h e
