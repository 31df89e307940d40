-- A line moved down to the next candidate has the same branches on its sides.
use Prim.Native.Nat.{ℕ, ◌+◌, ◌<◌, ◌≤◌, max}
use mathlib.Core.Bool.{Bool, true, false, cond, ◌&&◌}
use mathlib.Core.Path.{◌≡◌, refl, sym, ◌∙◌, subst}
use mathlib.Core.List.{List, [], ◌∷◌, flat_map}
use lib.ListN.{length}
use lib.Dec.{leb, ltb}
use native.Mathlib.Omega.{arith}
use native.Mathlib.Decide.{dec_le, dec_lt}
use borrow.Author.Tests.{le-leb, lt-leb, lt-ltb, le-ltb, leb-true, leb-false, ltb-true}
use Rattle.geometry.specs.declared.rect.Line.{Line}
use Rattle.geometry.specs.declared.rect.Line.TheVariants.{AtX, AtY}
use Rattle.tree.specs.Lists.{All, keep}
use Rattle.tree.specs.Space.{left, right}
use Rattle.tree.proofs.Lists.{all_map, all_any}
use Rattle.plane.specs.Lines.{fits, on_both}
use Rattle.plane.specs.Candidates.{Extent, extent_on, line_number, candidates}
use Rattle.plane.proofs.Kept.{keep_one, keep_agree}

-- the greatest of the numbers that are at most l; 0 where none is
unfoldable pub lower : ℕ → List ℕ → ℕ
lower l [] = 0
lower l (a ∷ ks) = cond (leb a l) (max a (lower l ks)) (lower l ks)

lower_le : (l : ℕ) (ks : List ℕ) → lower l ks ≤ l
unfolding lower
lower_le l [] = omega arith
lower_le l (a ∷ ks) = go (leb a l) refl (lower_le l ks)
  where
    go : (b : Bool) → leb a l ≡ b → lower l ks ≤ l → cond b (max a (lower l ks)) (lower l ks) ≤ l
    go true e h = let k = leb-true a l e in omega arith
    go false e h = h

lower_most : (l : ℕ) (ks : List ℕ) → All (λ a. a ≤ l → a ≤ lower l ks) ks
unfolding lower All
lower_most l [] = tt
lower_most l (a ∷ ks) = go (leb a l) refl (lower_most l ks)
  where
    go : (b : Bool) → leb a l ≡ b → All (λ x. x ≤ l → x ≤ lower l ks) ks → (a ≤ l → a ≤ cond b (max a (lower l ks)) (lower l ks)) × All (λ x. x ≤ l → x ≤ cond b (max a (lower l ks)) (lower l ks)) ks
    go true e h = (λ k. omega arith, all_map (λ x. x ≤ l → x ≤ lower l ks) (λ x. x ≤ l → x ≤ max a (lower l ks)) ks (λ x f k. let j = f k in omega arith) h)
    go false e h = (λ k. let j = leb-false a l e in absurd (omega arith), h)

lower_in : (P : ℕ → Type 0) (l : ℕ) (ks : List ℕ) → All P ks → 1 ≤ lower l ks → P (lower l ks)
unfolding lower All
lower_in P l [] h n = absurd (omega arith)
lower_in P l (a ∷ ks) h n = go (leb a l) n (lower_in P l ks h.1)
  where
    go : (b : Bool) → 1 ≤ cond b (max a (lower l ks)) (lower l ks) → (1 ≤ lower l ks → P (lower l ks)) → P (cond b (max a (lower l ks)) (lower l ks))
    go false n f = f n
    go true n f = side (dec_le (lower l ks) a)
      where
        side : Dec (lower l ks ≤ a) → P (max a (lower l ks))
        side (yes k) = let e : a ≡ max a (lower l ks) = omega arith in subst P e h.0
        side (no k) = let e : lower l ks ≡ max a (lower l ks) = omega arith in subst P e (f (omega arith))

-- one dimension, with the least and the greatest coordinate
module _ (lo hi : Extent → ℕ) where
  -- the coordinates just behind
  unfoldable pub behind : List Extent → List ℕ
  behind [] = []
  behind (e ∷ es) = (lo e + 1) ∷ (hi e + 1) ∷ behind es

  behind_each : (P : ℕ → Type 0) (es : List Extent) → All P (behind es) → All (λ e. P (lo e + 1) × P (hi e + 1)) es
  unfolding behind All
  behind_each P [] h = tt
  behind_each P (e ∷ es) h = ((h.0, h.1.0), behind_each P es h.1.1)

  each_behind : (P : ℕ → Type 0) (es : List Extent) → All (λ e. P (lo e + 1) × P (hi e + 1)) es → All P (behind es)
  unfolding behind All
  each_behind P [] h = tt
  each_behind P (e ∷ es) h = (h.0.0, (h.0.1, each_behind P es h.1))

  -- the tests of both sides agree at a line and at the candidate below it
  agree : (l : ℕ) (es : List Extent) → All (λ e. (ltb (lo e) (lower l (behind es)) ≡ ltb (lo e) l) × (leb (lower l (behind es)) (hi e) ≡ leb l (hi e))) es
  agree l es = all_map (λ e. (lo e + 1 ≤ l → lo e + 1 ≤ lower l (behind es)) × (hi e + 1 ≤ l → hi e + 1 ≤ lower l (behind es))) (λ e. (ltb (lo e) (lower l (behind es)) ≡ ltb (lo e) l) × (leb (lower l (behind es)) (hi e) ≡ leb l (hi e))) es
      (λ e h. (low (lo e) h.0, high (hi e) h.1)) (behind_each (λ a. a ≤ l → a ≤ lower l (behind es)) es (lower_most l (behind es)))
    where
      low : (v : ℕ) → (v + 1 ≤ l → v + 1 ≤ lower l (behind es)) → ltb v (lower l (behind es)) ≡ ltb v l
      low v f = go (dec_lt v l)
        where
          go : Dec (v < l) → ltb v (lower l (behind es)) ≡ ltb v l
          go (yes d) = let j = f (omega arith) in lt-ltb v _ (omega arith) ∙ sym (lt-ltb v l d)
          go (no d) = let j = lower_le l (behind es) in le-ltb v _ (omega arith) ∙ sym (le-ltb v l (omega arith))

      high : (v : ℕ) → (v + 1 ≤ l → v + 1 ≤ lower l (behind es)) → leb (lower l (behind es)) v ≡ leb l v
      high v f = go (dec_le l v)
        where
          go : Dec (l ≤ v) → leb (lower l (behind es)) v ≡ leb l v
          go (yes d) = let j = lower_le l (behind es) in le-leb _ v (omega arith) ∙ sym (le-leb l v d)
          go (no d) = let j = f (omega arith) in lt-leb _ v (omega arith) ∙ sym (lt-leb l v (omega arith))

-- the line moved down to the next candidate
unfoldable pub lowered : List Extent → Line → Line
lowered es (AtX l) = AtX (lower l (behind (λ e. e.min_x) (λ e. e.max_x) es))
lowered es (AtY l) = AtY (lower l (behind (λ e. e.min_y) (λ e. e.max_y) es))

pub lowered_number : (es : List Extent) (l : Line) → line_number (lowered es l) ≤ line_number l
unfolding lowered
lowered_number es (AtX l) = lower_le l (behind (λ e. e.min_x) (λ e. e.max_x) es)
lowered_number es (AtY l) = let k = lower_le l (behind (λ e. e.min_y) (λ e. e.max_y) es) in omega arith

abbrev Same : Line → Line → Extent → Type 0
Same l m e = (extent_on (left l) e ≡ extent_on (left m) e) × (extent_on (right l) e ≡ extent_on (right m) e)

lowered_same : (es : List Extent) (l : Line) → All (Same (lowered es l) l) es
unfolding lowered
lowered_same es (AtX l) = agree (λ e. e.min_x) (λ e. e.max_x) l es
lowered_same es (AtY l) = agree (λ e. e.min_y) (λ e. e.max_y) l es

module _ (es : List Extent) (l : Line) where
  -- it has ks many branches on each side, and on both
  pub lowered_fits : (fanout : ℕ) → fits extent_on fanout es (lowered es l) ≡ fits extent_on fanout es l
  lowered_fits fanout = rw (
    keep_agree (extent_on (left (lowered es l))) (extent_on (left l)) es (all_map (Same (lowered es l) l) _ es (λ e h. h.0) (lowered_same es l)),
    keep_agree (extent_on (right (lowered es l))) (extent_on (right l)) es (all_map (Same (lowered es l) l) _ es (λ e h. h.1) (lowered_same es l)),
  )

  pub lowered_both : on_both extent_on es (lowered es l) ≡ on_both extent_on es l
  lowered_both = keep_agree _ _ es (all_map (Same (lowered es l) l) (λ e. extent_on (left (lowered es l)) e && extent_on (right (lowered es l)) e ≡ extent_on (left l) e && extent_on (right l) e) es (λ e h. rw (h.0, h.1)) (lowered_same es l))

-- what holds of the candidates holds of each extent's
each_candidate : (P : Line → Type 0) (es : List Extent) → All P (candidates es)
    → All (λ e. (P (AtX (e.min_x + 1)) × P (AtX (e.max_x + 1))) × (P (AtY (e.min_y + 1)) × P (AtY (e.max_y + 1)))) es
unfolding candidates flat_map All
each_candidate P [] h = tt
each_candidate P (e ∷ es) h = (((h.0, h.1.0), (h.1.1.0, h.1.1.1.0)), each_candidate P es h.1.1.1.1)

-- a lowered line with a branch on its left is a candidate
pub lowered_in : (P : Line → Type 0) (es : List Extent) (l : Line) → All P (candidates es) → 1 ≤ length (keep (extent_on (left (lowered es l))) es) → P (lowered es l)
unfolding lowered
lowered_in P es (AtX l) h n =
    let e = keep_one (extent_on (left (lowered es (AtX l)))) (λ e. Unit {0}) es (all_any _ es (λ e. tt)) n in
    let k = ltb-true e.0.min_x (lower l (behind (λ e. e.min_x) (λ e. e.max_x) es)) e.1 in
    lower_in (λ i. P (AtX i)) l (behind (λ e. e.min_x) (λ e. e.max_x) es) (each_behind (λ e. e.min_x) (λ e. e.max_x) (λ i. P (AtX i)) es (all_map _ _ es (λ e h. h.0) (each_candidate P es h))) (omega arith)
lowered_in P es (AtY l) h n =
    let e = keep_one (extent_on (left (lowered es (AtY l)))) (λ e. Unit {0}) es (all_any _ es (λ e. tt)) n in
    let k = ltb-true e.0.min_y (lower l (behind (λ e. e.min_y) (λ e. e.max_y) es)) e.1 in
    lower_in (λ i. P (AtY i)) l (behind (λ e. e.min_y) (λ e. e.max_y) es) (each_behind (λ e. e.min_y) (λ e. e.max_y) (λ i. P (AtY i)) es (all_map _ _ es (λ e h. h.1) (each_candidate P es h))) (omega arith)
