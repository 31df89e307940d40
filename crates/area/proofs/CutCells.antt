-- How often the rectangles of a list have a cell, before a cut and after it.
use mathlib.Core.Path.{◌≡◌, refl, sym, ◌∙◌, ap}
use mathlib.Core.Bool.{Bool, true, false, ◌&&◌, ◌||◌, not, cond}
use mathlib.Core.List.{List, [], ◌∷◌, ◌++◌, flat_map}
use Prim.Native.Nat.{ℕ, ◌+◌, ◌≤◌, ◌<◌}
use native.Mathlib.Nat.{zero-add, add-zero}
use native.Mathlib.Omega.{arith}
use native.Mathlib.Decide.{dec_le, dec_lt}
use Rattle.polygons.specs.Lists.{any}
use Rattle.polygons.proofs.Booleans.{is_false, not_both}
use Rattle.geometry.specs.declared.rect.Cell.{Cell}
use Rattle.geometry.specs.declared.rect.Rect.{Rect}
use Rattle.geometry.specs.Cells.{has_cell, non_empty, any_has}
use Rattle.geometry.specs.Common.{overlap, unless_empty}
use Rattle.geometry.specs.Cut.{x_ceiling, x_floor, y_ceiling, y_floor, pieces, cut, cut_list, cut_all}
use Rattle.geometry.proofs.CellLaws.{In, in_of, of_in, Some, some_of, empty_has_none}
use Rattle.geometry.proofs.CommonLaws.{overlap_cells}
use Rattle.geometry.proofs.CutLaws.{cut_list_cons}
use Rattle.area.specs.CellCount.{bit}

-- how many rectangles of a list have a cell
unfoldable pub times : List Rect → Cell → ℕ
times [] c = 0
times (r ∷ l) c = bit (has_cell r c) + times l c

pub times_append : (l m : List Rect) (c : Cell) → times (l ++ m) c ≡ times l c + times m c
unfolding times
times_append [] m c = sym (zero-add (times m c))
times_append (r ∷ l) m c = let ih = times_append l m c in omega arith

times_unless_empty : (r : Rect) (c : Cell) → times (unless_empty r) c ≡ bit (has_cell r c)
unfolding unless_empty times
times_unless_empty r c = go (non_empty r) refl
  where
    go : (b : Bool) → non_empty r ≡ b → times (cond b (r ∷ []) []) c ≡ bit (has_cell r c)
    go true e = add-zero _
    go false e = rw (empty_has_none r c e)

-- a test by facts that omega reads
has : (r : Rect) (c : Cell) → In r c → bit (has_cell r c) ≡ 1
has r c h = rw (of_in r c h)

hasnt : (r : Rect) (c : Cell) → (In r c → ⊥) → bit (has_cell r c) ≡ 0
hasnt r c h = rw (is_false (has_cell r c) (λ t. h (in_of r c t)))

-- A cell of r outside s is in exactly one piece of the cut, any other cell in none: the pieces share no cell, and lose none.
module _ (r s : Rect) (c : Cell) where
  four : ℕ
  four = bit (has_cell (x_ceiling r s) c) + bit (has_cell (x_floor r s) c) + bit (has_cell (y_ceiling r s) c) + bit (has_cell (y_floor r s) c)

  in_one : Some (overlap r s) → In r c → Dec (s.urx ≤ c.x) → Dec (c.x < s.llx) → Dec (s.ury ≤ c.y) → Dec (c.y < s.lly) → four ≡ bit (not (has_cell s c))
  unfolding four x_ceiling x_floor y_ceiling y_floor overlap
  in_one o h (yes a) b d e =
      rw (
        has (x_ceiling r s) c (omega arith),
        hasnt (x_floor r s) c (λ i. omega arith),
        hasnt (y_ceiling r s) c (λ i. omega arith),
        hasnt (y_floor r s) c (λ i. omega arith),
        is_false (has_cell s c) (λ t. let i = in_of s c t in omega arith),
      )
  in_one o h (no a) (yes b) d e =
      rw (
        hasnt (x_ceiling r s) c (λ i. omega arith),
        has (x_floor r s) c (omega arith),
        hasnt (y_ceiling r s) c (λ i. omega arith),
        hasnt (y_floor r s) c (λ i. omega arith),
        is_false (has_cell s c) (λ t. let i = in_of s c t in omega arith),
      )
  in_one o h (no a) (no b) (yes d) e =
      rw (
        hasnt (x_ceiling r s) c (λ i. omega arith),
        hasnt (x_floor r s) c (λ i. omega arith),
        has (y_ceiling r s) c (omega arith),
        hasnt (y_floor r s) c (λ i. omega arith),
        is_false (has_cell s c) (λ t. let i = in_of s c t in omega arith),
      )
  in_one o h (no a) (no b) (no d) (yes e) =
      rw (
        hasnt (x_ceiling r s) c (λ i. omega arith),
        hasnt (x_floor r s) c (λ i. omega arith),
        hasnt (y_ceiling r s) c (λ i. omega arith),
        has (y_floor r s) c (omega arith),
        is_false (has_cell s c) (λ t. let i = in_of s c t in omega arith),
      )
  in_one o h (no a) (no b) (no d) (no e) =
      rw (
        hasnt (x_ceiling r s) c (λ i. omega arith),
        hasnt (x_floor r s) c (λ i. omega arith),
        hasnt (y_ceiling r s) c (λ i. omega arith),
        hasnt (y_floor r s) c (λ i. omega arith),
        of_in s c (omega arith),
      )

  in_none : Some (overlap r s) → (In r c → ⊥) → four ≡ 0
  unfolding four x_ceiling x_floor y_ceiling y_floor overlap
  in_none o h =
      rw (
        hasnt (x_ceiling r s) c (λ i. h (omega arith)),
        hasnt (x_floor r s) c (λ i. h (omega arith)),
        hasnt (y_ceiling r s) c (λ i. h (omega arith)),
        hasnt (y_floor r s) c (λ i. h (omega arith)),
      )

  four_is : Some (overlap r s) → four ≡ bit (has_cell r c && not (has_cell s c))
  four_is o = go (has_cell r c) refl
    where
      go : (b : Bool) → has_cell r c ≡ b → four ≡ bit (b && not (has_cell s c))
      go true e = in_one o (in_of r c e) (dec_le _ _) (dec_lt _ _) (dec_le _ _) (dec_lt _ _)
      go false e = in_none o (λ i. not_both (has_cell r c) (of_in r c i) e)

  uncut_is : non_empty (overlap r s) ≡ false → bit (has_cell r c) + 0 ≡ bit (has_cell r c && not (has_cell s c))
  uncut_is e = go (has_cell r c) (has_cell s c) (sym (overlap_cells r s c) ∙ empty_has_none (overlap r s) c e)
    where
      go : (a b : Bool) → a && b ≡ false → bit a + 0 ≡ bit (a && not b)
      go true b e = rw e
      go false b e = refl

  pub times_cut : times (cut r s) c ≡ bit (has_cell r c && not (has_cell s c))
  unfolding cut pieces times four
  times_cut = go (non_empty (overlap r s)) refl
    where
      go : (b : Bool) → non_empty (overlap r s) ≡ b → times (cond b (pieces r s) (r ∷ [])) c ≡ bit (has_cell r c && not (has_cell s c))
      go true e = simp (times_append, times_unless_empty) (four_is (some_of (overlap r s) e))
      go false e = uncut_is e

none_remaining_lem : (b : Bool) → ◌≡◌ {A = ℕ} 0 (cond b 0 0)
none_remaining_lem true = refl
none_remaining_lem false = refl

-- a list cut by s: as often as before, or never where s has the cell
pub times_cut_list : (l : List Rect) (s : Rect) (c : Cell) → times (cut_list l s) c ≡ cond (has_cell s c) 0 (times l c)
unfolding cut_list flat_map times
times_cut_list [] s c = none_remaining_lem (has_cell s c)
times_cut_list (r ∷ l) s c =
    ap (λ k. times k c) (cut_list_cons r l s)
    ∙ rw (times_append, times_cut r s c, times_cut_list l s c) (go (has_cell r c) (has_cell s c))
  where
    go : (a b : Bool) → bit (a && not b) + cond b 0 (times l c) ≡ cond b 0 (bit a + times l c)
    go true true = refl
    go false true = refl
    go true false = refl
    go false false = refl

-- by a polygon: as often as before, or never where the polygon has the cell
pub times_cut_all : (l p : List Rect) (c : Cell) → times (cut_all l p) c ≡ cond (any_has p c) 0 (times l c)
unfolding cut_all any_has any
times_cut_all l [] c = refl
times_cut_all l (s ∷ p) c = times_cut_all (cut_list l s) p c ∙ rw (times_cut_list l s c) (go (has_cell s c) (any_has p c))
  where
    go : (a b : Bool) → cond b 0 (cond a 0 (times l c)) ≡ cond (a || b) 0 (times l c)
    go true true = refl
    go true false = refl
    go false b = refl
