-- Lists of rectangles against each other: what the code's cuts and scans say of the tests.
use mathlib.Core.Path.{◌≡◌, refl, sym, ap, ◌∙◌}
use mathlib.Core.Bool.{Bool, true, false, ◌&&◌, not, cond, and-true, and_assoc, false≢true}
use mathlib.Core.List.{List, [], ◌∷◌, ◌++◌}
use mathlib.Core.Logic.{⊎_elim}
use native.Mathlib.Omega.{arith}
use borrow.Author.Tests.{not-true}
use Rattle.polygons.specs.Lists.{any}
use Rattle.polygons.proofs.Booleans.{is_false, not_both, either, or_left, or_right, both, split_and}
use Rattle.geometry.specs.declared.rect.Cell.{Cell}
use Rattle.geometry.specs.declared.rect.Rect.{Rect}
use Rattle.geometry.specs.Cells.{non_empty, has_cell, any_has}
use Rattle.geometry.specs.Common.{overlap, unless_empty, shares_with}
use Rattle.geometry.specs.Cut.{x_ceiling, x_floor, y_ceiling, y_floor, pieces, cut}
use Rattle.geometry.specs.Refine.{within}
use Rattle.geometry.proofs.CellLaws.{some_of, of_some, corner, corner_in, within_cells}
use Rattle.geometry.proofs.CutLaws.{uncut, cut_cells}
use Rattle.cover.specs.Tests.{all_pass, covered_by, none_remaining, from_shared}
use Rattle.cover.proofs.CoverCells.{covered_none, covered_cons}
use Rattle.cover.proofs.SkipLaws.{fewer_behind, shared_first, shared_same}

pass_append : {A : Type 0} (f : A → Bool) (l k : List A) → all_pass f (l ++ k) ≡ all_pass f l && all_pass f k
unfolding all_pass
pass_append f [] k = refl
pass_append f (a ∷ l) k = ap (λ b. f a && b) (pass_append f l k) ∙ sym (and_assoc (f a) (all_pass f l) (all_pass f k))

module _ (p : List Rect) (r : Rect) where
  -- nothing of an empty rectangle is left
  pub remaining_empty : not (non_empty r) ≡ true → true ≡ none_remaining p r
  unfolding none_remaining unless_empty all_pass
  remaining_empty h = rw (not-true _ h)

  remaining_some : non_empty r ≡ true → none_remaining p r ≡ covered_by p r
  unfolding none_remaining unless_empty all_pass
  remaining_some e = rw e (and-true (covered_by p r))

-- the pieces of a cut are not empty
some_unless_empty : (r : Rect) → all_pass non_empty (unless_empty r) ≡ true
unfolding unless_empty all_pass
some_unless_empty r = go (non_empty r) refl
  where
    go : (b : Bool) → non_empty r ≡ b → all_pass non_empty (cond b (r ∷ []) []) ≡ true
    go true e = rw e
    go false e = refl

cut_some : (r s : Rect) → non_empty r ≡ true → all_pass non_empty (cut r s) ≡ true
unfolding cut pieces all_pass
cut_some r s e = go (non_empty (overlap r s))
  where
    go : (b : Bool) → all_pass non_empty (cond b (pieces r s) (r ∷ [])) ≡ true
    go true = simp (pass_append, some_unless_empty)
    go false = rw e

-- a rectangle that is not empty and whose cells are cells of the polygon is covered, also where it leaves the grid
covered_each : (p l : List Rect) → ((r : Rect) → non_empty r ≡ true → ((c : Cell) → has_cell r c ≡ true → any_has p c ≡ true) → covered_by p r ≡ true)
    → all_pass non_empty l ≡ true → ((c : Cell) → any_has l c ≡ true → any_has p c ≡ true) → all_pass (covered_by p) l ≡ true
unfolding all_pass any_has any
covered_each p [] f e h = refl
covered_each p (r ∷ l) f e h =
    let k = split_and (non_empty r) (all_pass non_empty l) e in
    both _ _ (f r k.0 (λ c t. h c (or_left _ _ t))) (covered_each p l f k.1 (λ c t. h c (or_right (has_cell r c) _ t)))

some_covered : (p : List Rect) (r : Rect) → non_empty r ≡ true → ((c : Cell) → has_cell r c ≡ true → any_has p c ≡ true) → covered_by p r ≡ true
unfolding any_has any
some_covered [] r e h = absurd (false≢true (h (corner r) (corner_in r e)))
some_covered (s ∷ p) r e h =
    covered_cons s p r ∙ covered_each p (cut r s) (some_covered p) (cut_some r s e) λ c t.
    let k = split_and (has_cell r c) (not (has_cell s c)) (sym (cut_cells r s c) ∙ t) in
    rw (not-true (has_cell s c) k.1) at (h c k.0)

any_within_cells : (p : List Rect) (r : Rect) → any (within r) p ≡ true → (c : Cell) → has_cell r c ≡ true → any_has p c ≡ true
unfolding any any_has
any_within_cells [] r e c h = absurd (false≢true e)
any_within_cells (s ∷ p) r e c h = ⊎_elim (λ t. or_left _ _ (within_cells r s c t h)) (λ t. or_right (has_cell s c) _ (any_within_cells p r t c h)) (either _ _ e)

-- a rectangle that is not empty is covered by a polygon with a rectangle that contains it
covered_within : (p : List Rect) (r : Rect) → non_empty r ≡ true → any (within r) p ≡ true → covered_by p r ≡ true
covered_within p r e f = some_covered p r e (any_within_cells p r f)

-- a rectangle that shares no cell with r covers nothing of it
covered_apart : (r s : Rect) (p : List Rect) → shares_with s r ≡ false → covered_by (s ∷ p) r ≡ covered_by p r
unfolding shares_with all_pass
covered_apart r s p e = covered_cons s p r ∙ rw (uncut r s e) (and-true (covered_by p r))

-- what is left of a rectangle that is not empty, from the first that shares a cell with it on
module _ (p : List Rect) (r : Rect) (x : non_empty r ≡ true) where
  remaining_passed : (q : List Rect) → from_shared p r ≡ q → none_remaining p r ≡ covered_by q r
  remaining_passed q e = remaining_some p r x ∙ shared_same r (λ k. covered_by k r) (covered_apart r) p ∙ ap (λ k. covered_by k r) e

  pub remaining_end : from_shared p r ≡ [] → false ≡ none_remaining p r
  remaining_end e = sym (remaining_passed [] e ∙ covered_none r)

  module _ (s : Rect) (rest : List Rect) (e : from_shared p r ≡ s ∷ rest) where
    pub remaining_within : within r s ≡ true → true ≡ none_remaining p r
    unfolding any
    remaining_within f = sym (remaining_passed (s ∷ rest) e ∙ covered_within (s ∷ rest) r x (or_left (within r s) (any (within r) rest) f))

    -- the pieces of the cut are tested one after another
    pub remaining_pieces : none_remaining p r
        ≡ none_remaining rest (x_ceiling r s) && none_remaining rest (x_floor r s) && none_remaining rest (y_ceiling r s) && none_remaining rest (y_floor r s)
    unfolding cut pieces none_remaining shares_with
    remaining_pieces =
        let o : non_empty (overlap r s) ≡ true = shared_first r p s rest e in
        remaining_passed (s ∷ rest) e ∙ covered_cons s rest r ∙ rw o (simp pass_append)

-- an empty rectangle is not covered: no rectangle cuts it
module _ (r : Rect) (e : non_empty r ≡ false) where
  none_shared : (s : Rect) → shares_with s r ≡ false
  unfolding shares_with overlap
  none_shared s = is_false _ λ t.
      let o = some_of (overlap r s) t in
      let a = o.wide in
      let b = o.high in
      not_both _ (of_some r (record { wide = omega arith; high = omega arith })) e

  pub covered_empty : (p : List Rect) → false ≡ covered_by p r
  covered_empty [] = sym (covered_none r)
  covered_empty (s ∷ p) = covered_empty p ∙ sym (covered_apart r s p (none_shared s))

-- a rectangle that is not empty and lies in none of the polygon's is covered where nothing of it remains
module _ (p : List Rect) (r : Rect) where
  pub covered_in : non_empty r ≡ true → any (within r) p ≡ true → true ≡ covered_by p r
  covered_in e f = sym (covered_within p r e f)

  pub covered_whole : non_empty r ≡ true → (b : Bool) → b ≡ none_remaining p r → b ≡ covered_by p r
  covered_whole e b f = f ∙ remaining_some p r e

pub ruleset covering = (covered_empty, covered_in, covered_whole)

pub ruleset remaining = (remaining_empty, remaining_end, remaining_within, fewer_behind)
