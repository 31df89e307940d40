-- Numbers of cells: of tests, of a rectangle that a polygon lacks, cut by cut, and the extra area.
use mathlib.Core.Path.{◌≡◌, refl, sym, ◌∙◌, ap}
use mathlib.Core.Bool.{Bool, true, false, ◌&&◌, ◌||◌, not, cond, or-false, and-true}
use mathlib.Core.List.{List, [], ◌∷◌, ◌++◌}
use Prim.Native.Nat.{ℕ, ◌+◌, ◌-◌, ◌≤◌}
use native.Mathlib.Nat.{add-zero, zero-add}
use native.Mathlib.Omega.{arith}
use Rattle.polygons.specs.Lists.{any}
use Rattle.geometry.specs.declared.rect.Cell.{Cell}
use Rattle.geometry.specs.declared.rect.Rect.{Rect}
use Rattle.geometry.specs.Cells.{on_grid, has_cell, non_empty, valid, any_has, area}
use Rattle.geometry.specs.Common.{unless_empty, shares_with}
use Rattle.geometry.specs.Cut.{cut}
use Rattle.geometry.specs.Grow.{grown}
use Rattle.geometry.proofs.CellLaws.{valid_of, grid_of, empty_has_none, within_cells}
use Rattle.geometry.proofs.CutLaws.{uncut}
use Rattle.geometry.proofs.GrowLaws.{grow_has, grow_contains, grow_valid}
use Rattle.area.specs.CellCount.{sum_grid, bit, cell_count}
use Rattle.area.specs.Lacked.{lacked, extra_area}
use Rattle.area.proofs.Sums.{grid_same, grid_add, grid_zero, grid_bound, grid_part}
use Rattle.area.proofs.AreaCells.{area_cells}
use Rattle.area.proofs.CutCells.{times, times_cut}

-- tests that agree on every cell are passed by equally many
pub count_same : (t u : Cell → Bool) → ((c : Cell) → t c ≡ u c) → cell_count t ≡ cell_count u
unfolding cell_count
count_same t u h = grid_same 65536 _ _ (λ c. rw (h c))

-- a test passed by no cell
pub count_none : (t : Cell → Bool) → ((c : Cell) → t c ≡ false) → cell_count t ≡ 0
unfolding cell_count
count_none t h = grid_same 65536 _ _ (λ c. rw (h c)) ∙ grid_zero 65536

-- a test passed by a cell of the grid
pub count_some : (t : Cell → Bool) (c : Cell) → on_grid c ≡ true → t c ≡ true → 1 ≤ cell_count t
unfolding cell_count
count_some t c g e =
    let o = grid_of c g in
    rw e at (grid_part 65536 (λ d. bit (t d)) c (omega arith) (omega arith))

-- the cells of a test, those of another among them first
pub count_split : (t u : Cell → Bool) → cell_count t ≡ cell_count (λ c. t c && u c) + cell_count (λ c. t c && not (u c))
unfolding cell_count
count_split t u = grid_same 65536 _ _ (λ c. go (t c) (u c)) ∙ grid_add 65536 _ _
  where
    go : (a b : Bool) → bit a ≡ bit (a && b) + bit (a && not b)
    go true true = refl
    go true false = refl
    go false b = refl

-- where a test passes wherever another does, both pass where the other does
inner : (a b : Bool) → (b ≡ true → a ≡ true) → a && b ≡ b
inner true b h = refl
inner false true h = h refl
inner false false h = refl

-- a test passed wherever another is has at least as many cells
pub count_le : (t u : Cell → Bool) → ((c : Cell) → t c ≡ true → u c ≡ true) → cell_count t ≤ cell_count u
count_le t u h =
    let s = count_split u t in
    let k = count_same (λ c. u c && t c) t (λ c. inner (u c) (t c) (h c)) in
    omega arith

at_most_one : (b : Bool) → bit b ≤ 1
at_most_one true = omega arith
at_most_one false = omega arith

-- no more cells than the grid has
pub count_bound : (t : Cell → Bool) → cell_count t ≤ 4294967296
unfolding cell_count
count_bound t = grid_bound 65536 _ (λ c. at_most_one (t c))

module _ (p : List Rect) where
  -- a polygon lacks no more cells than the grid has
  pub lacked_bound : (r : Rect) → lacked p r ≤ 4294967296
  unfolding lacked
  lacked_bound r = count_bound _

  -- it lacks none of an empty rectangle
  pub lacked_empty : (r : Rect) → non_empty r ≡ false → lacked p r ≡ 0
  unfolding lacked
  lacked_empty r e = count_none _ (λ c. rw (empty_has_none r c e))

  -- the cells that it lacks of each rectangle of a list, added
  unfoldable pub lacked_all : List Rect → ℕ
  lacked_all [] = 0
  lacked_all (r ∷ l) = lacked p r + lacked_all l

  pub lacked_append : (l m : List Rect) → lacked_all (l ++ m) ≡ lacked_all l + lacked_all m
  unfolding lacked_all
  lacked_append [] m = sym (zero-add (lacked_all m))
  lacked_append (r ∷ l) m = let ih = lacked_append l m in omega arith

  pub lacked_unless_empty : (r : Rect) → lacked_all (unless_empty r) ≡ lacked p r
  unfolding unless_empty lacked_all
  lacked_unless_empty r = go (non_empty r) refl
    where
      go : (b : Bool) → non_empty r ≡ b → lacked_all (cond b (r ∷ []) []) ≡ lacked p r
      go true e = add-zero _
      go false e = sym (lacked_empty r e)

  -- the same by the number of times that the list has a cell
  lacked_times : (l : List Rect) → lacked_all l ≡ sum_grid 65536 (λ c. cond (any_has p c) 0 (times l c))
  unfolding lacked_all times lacked cell_count any_has
  lacked_times [] = sym (grid_same 65536 _ _ (λ c. none (any_has p c)) ∙ grid_zero 65536)
    where
      none : (b : Bool) → ◌≡◌ {A = ℕ} (cond b 0 0) 0
      none true = refl
      none false = refl
  lacked_times (r ∷ l) =
      ap (λ n. lacked p r + n) (lacked_times l)
      ∙ sym (grid_same 65536 _ _ (λ c. go (has_cell r c) (any_has p c) (times l c)) ∙ grid_add 65536 _ _)
    where
      go : (a b : Bool) (n : ℕ) → cond b 0 (bit a + n) ≡ bit (a && not b) + cond b 0 n
      go true true n = refl
      go false true n = refl
      go true false n = refl
      go false false n = refl

-- a polygon of no rectangle lacks all cells
pub lacked_none : (r : Rect) → r.urx ≤ 65536 → r.ury ≤ 65536 → lacked [] r ≡ area r
unfolding lacked any
lacked_none r a b = count_same _ _ (λ c. and-true (has_cell r c)) ∙ area_cells r a b

never : (a : Bool) → ◌≡◌ {A = ℕ} (bit (a && false)) 0
never true = refl
never false = refl

-- What a polygon lacks of r: what its rectangles but the first lack of the pieces of r cut by the first.
pub lacked_cons : (s : Rect) (p : List Rect) (r : Rect) → lacked (s ∷ p) r ≡ lacked_all p (cut r s)
unfolding lacked cell_count any_has any
lacked_cons s p r =
    grid_same 65536 _ _ (λ c. go c (has_cell s c) (any_has p c) (times_cut r s c)) ∙ sym (lacked_times p (cut r s))
  where
    go : (c : Cell) (a b : Bool) → times (cut r s) c ≡ bit (has_cell r c && not a)
        → bit (has_cell r c && not (a || b)) ≡ cond b 0 (times (cut r s) c)
    go c true true e = never (has_cell r c)
    go c true false e = sym e
    go c false true e = never (has_cell r c)
    go c false false e = sym e

-- a rectangle that shares no cell with the first is not cut by it
pub lacked_apart : (s : Rect) (p : List Rect) (r : Rect) → shares_with s r ≡ false → lacked (s ∷ p) r ≡ lacked p r
unfolding shares_with lacked_all
lacked_apart s p r e = lacked_cons s p r ∙ rw (uncut r s e) (add-zero _)

-- of a polygon of one rectangle it is the grown area less the old one, as before A.2
pub extra_single : (r : Rect) (c : Cell) → valid r ≡ true → on_grid c ≡ true → extra_area (r ∷ []) r c ≡ area (grown r c) - area r
unfolding extra_area any
extra_single r c e f =
    let v = valid_of r e in
    let w = valid_of (grown r c) (grow_valid r c e f) in
    let s = count_split (has_cell (grown r c)) (has_cell r) in
    let a = area_cells r v.x_most v.y_most in
    let b = area_cells (grown r c) w.x_most w.y_most in
    let k = count_same (λ d. has_cell (grown r c) d && has_cell r d) (has_cell r)
    (λ d. inner (has_cell (grown r c) d) (has_cell r d) (within_cells r (grown r c) d (grow_contains r c))) in
    let m = count_same (λ d. has_cell (grown r c) d && not (has_cell r d || false)) (λ d. has_cell (grown r c) d && not (has_cell r d))
    (λ d. rw (or-false (has_cell r d))) in
    omega arith

module _ (p : List Rect) (r : Rect) (c : Cell) where
  -- extra area is no more than the cells of the grid
  pub extra_bound : extra_area p r c ≤ 4294967296
  unfolding extra_area
  extra_bound = count_bound _

  -- where the polygon lacks the cell there is some
  pub extra_some : on_grid c ≡ true → any_has p c ≡ false → 1 ≤ extra_area p r c
  unfolding extra_area any_has
  extra_some g e = count_some _ c g (rw (grow_has r c, e))
