-- Refine: a step keeps the cells and drops one rectangle, or it changes nothing; no step applies to a refined list.
use mathlib.Core.Path.{◌≡◌, refl, sym, ◌∙◌, ap}
use mathlib.Core.Bool.{Bool, true, false, not, ◌||◌, cond, false≢true}
use mathlib.Core.List.{List, [], ◌∷◌}
use mathlib.Core.Logic.{◌⊎◌, inl, inr, ⊎_elim}
use Prim.Native.Nat.{ℕ, zero, suc, ◌+◌, ◌-◌, ◌≤◌, ◌<◌}
use native.Mathlib.Omega.{arith}
use native.Mathlib.Numerals.{add-one}
use native.Mathlib.Decide.{dec_le, dec_lt}
use borrow.Author.Tests.{leb-true, ltb-true, eqb-true}
use lib.Dec.{ltb}
use lib.ListN.{length, take, drop, get_or, set, length-append, length-take, length-drop, length-set}
use lib.Seq.{take-set-lt, drop-set-lt, set_split, get_or-take, length-take-le}
use Rattle.polygons.specs.Lists.{any}
use Rattle.polygons.proofs.Booleans.{same, either, or_left, or_right, both, split_and, all4}
use Rattle.geometry.specs.declared.rect.Cell.{Cell}
use Rattle.geometry.specs.declared.rect.Rect.{Rect}
use Rattle.geometry.specs.Cells.{has_cell, any_has, valid, all_valid, no_rect}
use Rattle.geometry.specs.Refine.{first_from, within, strictly_within, contained, first_contained, dropped, stacked, abreast, joinable, union, joins, partner, has_partner, first_join, joined, refine_step, refine_steps, refine}
use Rattle.geometry.proofs.CellLaws.{In, in_of, of_in, valid_of, of_valid, within_cells, has_cons, has_append, has_split, valid_append, valid_take, valid_drop, valid_at}

module _ (p : ℕ → Bool) where
  -- the first number that passes is not below the start
  pub first_low : (i m : ℕ) → i ≤ first_from p i m
  unfolding first_from
  first_low i zero = omega arith
  first_low i (suc m) = let h = first_low (i + 1) m in go (p i) h
    where
      go : (b : Bool) → i + 1 ≤ first_from p (i + 1) m → i ≤ cond b i (first_from p (i + 1) m)
      go true h = omega arith
      go false h = omega arith

  -- the first number that passes is not over the end
  pub first_high : (i m : ℕ) → first_from p i m ≤ i + m
  unfolding first_from
  first_high i zero = omega arith
  first_high i (suc m) = let h = first_high (i + 1) m in go (p i) h
    where
      go : (b : Bool) → first_from p (i + 1) m ≤ i + 1 + m → cond b i (first_from p (i + 1) m) ≤ i + suc m
      go true h = omega arith
      go false h = omega arith

  -- the first number that passes, if it is before the end, passes
  pub first_passes : (i m : ℕ) → first_from p i m < i + m → p (first_from p i m) ≡ true
  unfolding first_from
  first_passes i zero h = absurd (omega arith)
  first_passes i (suc m) h = let k = first_passes (i + 1) m in go (p i) refl h k
    where
      go : (b : Bool) → p i ≡ b → cond b i (first_from p (i + 1) m) < i + suc m → (first_from p (i + 1) m < i + 1 + m → p (first_from p (i + 1) m) ≡ true)
          → p (cond b i (first_from p (i + 1) m)) ≡ true
      go true e h k = e
      go false e h k = k (omega arith)

-- dropping one shortens the list by one
pub length_dropped : (l : List Rect) (i : ℕ) → i < length l → length (dropped l i) + 1 ≡ length l
length_dropped l i h = rw (length-append, length-take, length-drop) (omega arith)

-- The i-th is joinable with its partner, a later one of the list.
pub record Pair (l : List Rect) (i : ℕ) : Type 0 where
  pub after : i < partner l i
  pub inside : partner l i < length l
  pub fits : joinable (get_or l i no_rect) (get_or l (partner l i) no_rect) ≡ true

pub pair : (l : List Rect) (i : ℕ) → i < length l → partner l i < length l → Pair l i
unfolding partner joins
pair l i h m =
    let p : ℕ → Bool = joins l i in
    let a = first_low p (i + 1) (length l - (i + 1)) in
    let b : first_from p (i + 1) (length l - (i + 1)) < i + 1 + (length l - (i + 1)) = omega arith in
    record { after = omega arith; inside = m; fits = first_passes p (i + 1) (length l - (i + 1)) b }

-- where some rectangle is joinable with a later one, the first such is joinable with its partner
pub join_found : (l : List Rect) → first_join l < length l → Pair l (first_join l)
unfolding first_join has_partner
join_found l h =
    let i = first_from (has_partner l) 0 (length l) in
    let k : i < 0 + length l = omega arith in
    let m : partner l i < length l = ltb-true (partner l i) (length l) (first_passes (has_partner l) 0 (length l) k) in
    pair l i h m

-- where some rectangle is contained in another, the first such is
pub contained_found : (l : List Rect) → first_contained l < length l → contained l (first_contained l) ≡ true
unfolding first_contained
contained_found l h = let k : first_from (contained l) 0 (length l) < 0 + length l = omega arith in first_passes (contained l) 0 (length l) k

-- what holds of each way a step can go holds of the step
pub step_cases : (l : List Rect) (P : List Rect → Type 0) → (first_contained l < length l → P (dropped l (first_contained l)))
    → (first_join l < length l → P (joined l (first_join l) (partner l (first_join l)))) → P l → P (refine_step l)
unfolding refine_step
step_cases l P f g h = go (ltb (first_contained l) (length l)) refl (ltb (first_join l) (length l)) refl
  where
    go : (a : Bool) → ltb (first_contained l) (length l) ≡ a → (b : Bool) → ltb (first_join l) (length l) ≡ b
        → P (cond a (dropped l (first_contained l)) (cond b (joined l (first_join l) (partner l (first_join l))) l))
    go true d b e = f (ltb-true (first_contained l) (length l) d)
    go false d true e = g (ltb-true (first_join l) (length l) e)
    go false d false e = h

-- joining two shortens the list by one
pub length_joined : (l : List Rect) (i j : ℕ) → j < length l → length (joined l i j) + 1 ≡ length l
length_joined l i j h =
    let u = union (get_or l i no_rect) (get_or l j no_rect) in
    let k : j < length (set l i u) = rw length-set h in
    length_dropped (set l i u) j k ∙ length-set l i u

-- a step leaves the list as it is, or shortens it by one
pub shorter : (l : List Rect) → (refine_step l ≡ l) ⊎ (length (refine_step l) + 1 ≡ length l)
shorter l = step_cases l
    (λ k. (k ≡ l) ⊎ (length k + 1 ≡ length l))
    (λ h. inr (length_dropped l (first_contained l) h))
    (λ h. inr (length_joined l (first_join l) (partner l (first_join l)) (join_found l h).inside))
    (inl refl)

-- a list that one step leaves as it is, any number of steps leaves so
pub stays : (n : ℕ) (l : List Rect) → refine_step l ≡ l → refine_steps n l ≡ l
unfolding refine_steps
stays zero l e = refl
stays (suc n) l e = rw e (stays n l e)

-- whatever passes contains r, and some rectangle of the list passes: the list has r's cells
any_cells : (p : Rect → Bool) (r : Rect) (l : List Rect) (c : Cell) → ((s : Rect) → p s ≡ true → within r s ≡ true)
    → any p l ≡ true → has_cell r c ≡ true → any_has l c ≡ true
unfolding any any_has
any_cells p r [] c f e t = absurd (false≢true e)
any_cells p r (s ∷ l) c f e t =
    let ih = any_cells p r l c f in
    ⊎_elim (λ w. or_left _ _ (within_cells r s c (f s w) t)) (λ w. or_right (has_cell s c) _ (ih w t)) (either (p s) (any p l) e)

drop_middle : (a b c : Bool) → (b ≡ true → a || c ≡ true) → a || c ≡ a || (b || c)
drop_middle true b c f = refl
drop_middle false false c f = refl
drop_middle false true c f = f refl

-- dropping a contained rectangle keeps the cells
pub dropped_cells : (l : List Rect) (i : ℕ) (c : Cell) → i < length l → contained l i ≡ true → any_has (dropped l i) c ≡ any_has l c
unfolding contained strictly_within
dropped_cells l i c h e =
    let r = get_or l i no_rect in
    rw (has_append, has_split l i c h)
    (drop_middle (any_has (take i l) c) (has_cell r c) (any_has (drop (i + 1) l) c)
    (λ t. ⊎_elim
    (λ w. or_left _ _ (any_cells (within r) r (take i l) c (λ s k. k) w t))
    (λ w. or_right (any_has (take i l) c) _ (any_cells (strictly_within r) r (drop (i + 1) l) c (λ s k. (split_and (within r s) (not (within s r)) k).0) w t))
    (either (any (within r) (take i l)) (any (strictly_within r) (drop (i + 1) l)) e)))

module _ (r s : Rect) (c : Cell) where
  -- one of the two has the cell where their union has it
  stack : In (union r s) c → r.llx ≡ s.llx → r.urx ≡ s.urx → r.lly ≤ s.ury → s.lly ≤ r.ury → Dec (r.lly ≤ c.y) → Dec (c.y < r.ury)
      → has_cell r c || has_cell s c ≡ true
  unfolding union
  stack i a b d e (yes f) (yes g) = or_left _ _ (of_in r c (omega arith))
  stack i a b d e (yes f) (no g) = or_right (has_cell r c) _ (of_in s c (omega arith))
  stack i a b d e (no f) g = or_right (has_cell r c) _ (of_in s c (omega arith))

  row : In (union r s) c → r.lly ≡ s.lly → r.ury ≡ s.ury → r.llx ≤ s.urx → s.llx ≤ r.urx → Dec (r.llx ≤ c.x) → Dec (c.x < r.urx)
      → has_cell r c || has_cell s c ≡ true
  unfolding union
  row i a b d e (yes f) (yes g) = or_left _ _ (of_in r c (omega arith))
  row i a b d e (yes f) (no g) = or_right (has_cell r c) _ (of_in s c (omega arith))
  row i a b d e (no f) g = or_right (has_cell r c) _ (of_in s c (omega arith))

  part : joinable r s ≡ true → In (union r s) c → has_cell r c || has_cell s c ≡ true
  unfolding joinable stacked abreast
  part e i = ⊎_elim
      (λ w. let f = all4 _ _ _ _ w in stack i (eqb-true _ _ f.0) (eqb-true _ _ f.1) (leb-true _ _ f.2) (leb-true _ _ f.3) (dec_le _ _) (dec_lt _ _))
      (λ w. let f = all4 _ _ _ _ w in row i (eqb-true _ _ f.0) (eqb-true _ _ f.1) (leb-true _ _ f.2) (leb-true _ _ f.3) (dec_le _ _) (dec_lt _ _))
      (either _ _ e)

  whole : has_cell r c || has_cell s c ≡ true → has_cell (union r s) c ≡ true
  unfolding union
  whole t = ⊎_elim
      (λ w. let i = in_of r c w in of_in (union r s) c (omega arith))
      (λ w. let i = in_of s c w in of_in (union r s) c (omega arith))
      (either (has_cell r c) (has_cell s c) t)

  -- the union of two joinable rectangles has the cells of both
  pub join_cells : joinable r s ≡ true → has_cell (union r s) c ≡ has_cell r c || has_cell s c
  join_cells e = same _ _ (λ t. part e (in_of (union r s) c t)) whole

regroup : (p a b m q : Bool) → p || ((a || b) || m) || q ≡ p || (a || m) || (b || q)
regroup true a b m q = refl
regroup false true b m q = refl
regroup false false true true q = refl
regroup false false true false q = refl
regroup false false false m q = refl

-- joining keeps the cells
pub joined_cells : (l : List Rect) (i j : ℕ) (c : Cell) → i < j → j < length l → joinable (get_or l i no_rect) (get_or l j no_rect) ≡ true
    → any_has (joined l i j) c ≡ any_has l c
joined_cells l i j c g h e =
    let u = union (get_or l i no_rect) (get_or l j no_rect) in
    let k : length (take j l) ≡ j = length-take-le j l (omega arith) in
    let m : i < length (take j l) = omega arith in
    let n : i < j + 1 = omega arith in
    let a : get_or (take j l) i no_rect ≡ get_or l i no_rect = get_or-take j l i no_rect g in
    rw (
      take-set-lt j l i u g,
      drop-set-lt (j + 1) l i u n,
      has_append,
      set_split (take j l) i u m,
      has_append,
      has_cons,
      has_split l j c h,
      has_split (take j l) i c m,
      a,
      add-one i,
      join_cells _ _ c e,
    )
    (regroup (any_has (take i (take j l)) c) (has_cell (get_or l i no_rect) c) (has_cell (get_or l j no_rect) c) (any_has (drop (suc i) (take j l)) c) (any_has (drop (j + 1) l) c))

-- a step keeps the cells
pub refine_step_cells : (l : List Rect) (c : Cell) → any_has (refine_step l) c ≡ any_has l c
refine_step_cells l c = step_cases l
    (λ k. any_has k c ≡ any_has l c)
    (λ h. dropped_cells l (first_contained l) c h (contained_found l h))
    (λ h. let p = join_found l h in joined_cells l (first_join l) (partner l (first_join l)) c p.after p.inside p.fits)
    refl

steps_cells : (n : ℕ) (l : List Rect) (c : Cell) → any_has (refine_steps n l) c ≡ any_has l c
unfolding refine_steps
steps_cells zero l c = refl
steps_cells (suc n) l c = steps_cells n (refine_step l) c ∙ refine_step_cells l c

-- refining keeps the cells
pub refine_cells : (l : List Rect) (c : Cell) → any_has (refine l) c ≡ any_has l c
unfolding refine
refine_cells l c = steps_cells (length l) l c

none_stays : refine_step [] ≡ []
unfolding refine_step first_contained first_join first_from
none_stays = refl

enough : (n : ℕ) (l : List Rect) → length l ≤ n → refine_step (refine_steps n l) ≡ refine_steps n l
unfolding refine_steps
enough zero [] h = none_stays
enough zero (r ∷ l) h = absurd (omega arith)
enough (suc n) l h =
    let ih = enough n (refine_step l) in
    ⊎_elim (λ e. let q = stays (suc n) l e in ap refine_step q ∙ e ∙ sym q) (λ e. ih (omega arith)) (shorter l)

-- no step applies to a refined list
pub refine_done : (l : List Rect) → refine_step (refine l) ≡ refine l
unfolding refine
refine_done l = enough (length l) l (omega arith)

-- a step makes no list longer
step_length : (l : List Rect) → length (refine_step l) ≤ length l
step_length l = ⊎_elim (λ e. let f = ap length e in omega arith) (λ e. omega arith) (shorter l)

steps_length : (n : ℕ) (l : List Rect) → length (refine_steps n l) ≤ length l
unfolding refine_steps
steps_length zero l = omega arith
steps_length (suc n) l = omega (arith, steps_length n (refine_step l), step_length l)

-- refining makes no list longer
pub refine_length : (l : List Rect) → length (refine l) ≤ length l
unfolding refine
refine_length l = steps_length (length l) l

one_stays : (r : Rect) → refine_step (r ∷ []) ≡ r ∷ []
unfolding refine_step first_contained first_join first_from has_partner partner contained any
one_stays r = refl

step_some : (l : List Rect) → 1 ≤ length l → 1 ≤ length (refine_step l)
step_some [] h = absurd (omega arith)
step_some (r ∷ []) h = rw (one_stays r) h
step_some (r ∷ s ∷ l) h = ⊎_elim (λ e. rw e h) (λ e. omega arith) (shorter (r ∷ s ∷ l))

steps_some : (n : ℕ) (l : List Rect) → 1 ≤ length l → 1 ≤ length (refine_steps n l)
unfolding refine_steps
steps_some zero l h = h
steps_some (suc n) l h = steps_some n (refine_step l) (step_some l h)

-- refining a list that is not empty leaves one that is not empty
pub refine_some : (l : List Rect) → 1 ≤ length l → 1 ≤ length (refine l)
unfolding refine
refine_some l h = steps_some (length l) l h

-- the union of two valid rectangles is valid
pub union_valid : (r s : Rect) → valid r ≡ true → valid s ≡ true → valid (union r s) ≡ true
unfolding union
union_valid r s e f = let v = valid_of r e in let w = valid_of s f in of_valid (union r s) (omega arith)

-- a valid list without one rectangle is valid
pub dropped_valid : (l : List Rect) (i : ℕ) → all_valid l ≡ true → all_valid (dropped l i) ≡ true
dropped_valid l i e = valid_append (take i l) (drop (i + 1) l) ∙ both _ _ (valid_take l i e) (valid_drop l (i + 1) e)

-- a valid list with one valid rectangle changed is valid
pub set_valid : (l : List Rect) (i : ℕ) (r : Rect) → i < length l → valid r ≡ true → all_valid l ≡ true → all_valid (set l i r) ≡ true
unfolding all_valid
set_valid l i r h v e = rw (set_split l i r h, valid_append, valid_take l i e, v) (valid_drop l (suc i) e)

-- joining two of a valid list leaves it valid
pub joined_valid : (l : List Rect) (i j : ℕ) → i < length l → j < length l → all_valid l ≡ true → all_valid (joined l i j) ≡ true
joined_valid l i j g h v = dropped_valid _ j (set_valid l i _ g (union_valid _ _ (valid_at l i v g) (valid_at l j v h)) v)

-- a step keeps rectangles valid
pub refine_step_valid : (l : List Rect) → all_valid l ≡ true → all_valid (refine_step l) ≡ true
refine_step_valid l v = step_cases l
    (λ k. all_valid k ≡ true)
    (λ h. dropped_valid l (first_contained l) v)
    (λ h. joined_valid l (first_join l) (partner l (first_join l)) h (join_found l h).inside v)
    v

steps_valid : (n : ℕ) (l : List Rect) → all_valid l ≡ true → all_valid (refine_steps n l) ≡ true
unfolding refine_steps
steps_valid zero l v = v
steps_valid (suc n) l v = steps_valid n (refine_step l) (refine_step_valid l v)

-- refining keeps rectangles valid
pub refine_valid : (l : List Rect) → all_valid l ≡ true → all_valid (refine l) ≡ true
unfolding refine
refine_valid l v = steps_valid (length l) l v
