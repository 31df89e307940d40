-- Cells of rectangles and of lists of rectangles; valid rectangles.
use mathlib.Core.Path.{◌≡◌, refl, sym, ◌∙◌, ap}
use mathlib.Core.Bool.{Bool, true, false, ◌&&◌, ◌||◌, cond, or_assoc, or-false, or-true, and_assoc, and-or_distrib_right}
use mathlib.Core.List.{List, [], ◌∷◌, ◌++◌, flat_map}
use Prim.Native.Nat.{ℕ, suc, ◌+◌, ◌≤◌, ◌<◌}
use native.Mathlib.Omega.{arith}
use native.Mathlib.Numerals.{add-one}
use borrow.Author.Tests.{le-leb, lt-ltb, leb-true, ltb-true}
use lib.ListN.{length, take, drop, get_or, take-append-drop}
use lib.Seq.{split_at, drop-cons}
use Rattle.polygons.specs.Lists.{any}
use Rattle.polygons.proofs.Booleans.{is_false, not_both, both, split_and, all4}
use Rattle.geometry.specs.declared.rect.Cell.{Cell}
use Rattle.geometry.specs.declared.rect.Rect.{Rect}
use Rattle.geometry.specs.Cells.{on_grid, has_cell, non_empty, valid, all_valid, any_has, no_rect}
use Rattle.geometry.specs.Common.{unless_empty}
use Rattle.geometry.specs.Refine.{within}

-- rectangles with the same corners are equal
pub rect_is : (r s : Rect) → r.llx ≡ s.llx → r.lly ≡ s.lly → r.urx ≡ s.urx → r.ury ≡ s.ury → r ≡ s
rect_is r s a b c d = λ i. record { llx = a i; lly = b i; urx = c i; ury = d i }

-- The rectangle has the cell: `has_cell` as facts that omega reads.
pub record In (r : Rect) (c : Cell) : Type 0 where
  pub x_from : r.llx ≤ c.x
  pub x_to : c.x < r.urx
  pub y_from : r.lly ≤ c.y
  pub y_to : c.y < r.ury

-- a rectangle that has a cell: the test gives the facts
pub in_of : (r : Rect) (c : Cell) → has_cell r c ≡ true → In r c
unfolding has_cell
in_of r c e =
    let f = all4 _ _ _ _ e in
    record { x_from = leb-true _ _ f.0; x_to = ltb-true _ _ f.1; y_from = leb-true _ _ f.2; y_to = ltb-true _ _ f.3 }

-- a rectangle that has a cell: the facts give the test
pub of_in : (r : Rect) (c : Cell) → In r c → has_cell r c ≡ true
unfolding has_cell
of_in r c h = simp (le-leb _ _ h.x_from, lt-ltb _ _ h.x_to, le-leb _ _ h.y_from, lt-ltb _ _ h.y_to)

-- The cell is on the grid: `on_grid` as facts that omega reads.
pub record OnGrid (c : Cell) : Type 0 where
  pub x_most : c.x ≤ 65535
  pub y_most : c.y ≤ 65535

-- a cell on the grid: the test gives the facts
pub grid_of : (c : Cell) → on_grid c ≡ true → OnGrid c
unfolding on_grid
grid_of c e = let f = split_and _ _ e in record { x_most = leb-true _ _ f.0; y_most = leb-true _ _ f.1 }

-- its coordinates are at most 65535
pub grid_x : (c : Cell) → on_grid c ≡ true → c.x ≤ 65535
grid_x c e = (grid_of c e).x_most

pub grid_y : (c : Cell) → on_grid c ≡ true → c.y ≤ 65535
grid_y c e = (grid_of c e).y_most

-- a cell on the grid: the facts give the test
pub of_grid : (c : Cell) → OnGrid c → on_grid c ≡ true
unfolding on_grid
of_grid c h = simp (le-leb _ _ h.x_most, le-leb _ _ h.y_most)

-- A rectangle of the grid: `valid` as facts that omega reads.
pub record Valid (r : Rect) : Type 0 where
  pub wide : r.llx < r.urx
  pub high : r.lly < r.ury
  pub x_most : r.urx ≤ 65536
  pub y_most : r.ury ≤ 65536

-- a valid rectangle: the test gives the facts
pub valid_of : (r : Rect) → valid r ≡ true → Valid r
unfolding valid
valid_of r e =
    let f = all4 _ _ _ _ e in
    record { wide = ltb-true _ _ f.0; high = ltb-true _ _ f.1; x_most = leb-true _ _ f.2; y_most = leb-true _ _ f.3 }

-- its corners are in order
pub valid_wide : (r : Rect) → valid r ≡ true → r.llx ≤ r.urx
valid_wide r e = omega (arith, (valid_of r e).wide)

pub valid_high : (r : Rect) → valid r ≡ true → r.lly ≤ r.ury
valid_high r e = omega (arith, (valid_of r e).high)

-- a valid rectangle: the facts give the test
pub of_valid : (r : Rect) → Valid r → valid r ≡ true
unfolding valid
of_valid r v = simp (lt-ltb _ _ v.wide, lt-ltb _ _ v.high, le-leb _ _ v.x_most, le-leb _ _ v.y_most)

-- A rectangle that is not empty: `non_empty` as facts that omega reads.
pub record Some (r : Rect) : Type 0 where
  pub wide : r.llx < r.urx
  pub high : r.lly < r.ury

-- a rectangle that is not empty: the test gives the facts
pub some_of : (r : Rect) → non_empty r ≡ true → Some r
unfolding non_empty
some_of r e = let f = split_and _ _ e in record { wide = ltb-true _ _ f.0; high = ltb-true _ _ f.1 }

-- a rectangle that is not empty: the facts give the test
pub of_some : (r : Rect) → Some r → non_empty r ≡ true
unfolding non_empty
of_some r h = simp (lt-ltb _ _ h.wide, lt-ltb _ _ h.high)

-- One rectangle is contained in another: `within` as facts that omega reads.
pub record Within (r s : Rect) : Type 0 where
  pub x_from : s.llx ≤ r.llx
  pub x_to : r.urx ≤ s.urx
  pub y_from : s.lly ≤ r.lly
  pub y_to : r.ury ≤ s.ury

-- a rectangle contained in another: the test gives the facts
pub within_of : (r s : Rect) → within r s ≡ true → Within r s
unfolding within
within_of r s e =
    let f = all4 _ _ _ _ e in
    record { x_from = leb-true _ _ f.0; x_to = leb-true _ _ f.1; y_from = leb-true _ _ f.2; y_to = leb-true _ _ f.3 }

-- a rectangle contained in another: the facts give the test
pub of_within : (r s : Rect) → Within r s → within r s ≡ true
unfolding within
of_within r s h = simp (le-leb _ _ h.x_from, le-leb _ _ h.x_to, le-leb _ _ h.y_from, le-leb _ _ h.y_to)

-- an empty rectangle has no cell
pub empty_has_none : (r : Rect) (c : Cell) → non_empty r ≡ false → has_cell r c ≡ false
empty_has_none r c e = is_false (has_cell r c) (λ t. let i = in_of r c t in not_both (non_empty r) (of_some r (omega arith)) e)

-- the cell at a rectangle's corner ll
abbrev pub corner : Rect → Cell
corner r = record { x = r.llx; y = r.lly }

-- a rectangle that is not empty has its corner
pub corner_in : (r : Rect) → non_empty r ≡ true → has_cell r (corner r) ≡ true
corner_in r e = let h = some_of r e in of_in r (corner r) (omega arith)

-- a valid rectangle is not empty
pub valid_some : (r : Rect) → valid r ≡ true → non_empty r ≡ true
valid_some r e = let v = valid_of r e in of_some r (omega arith)

-- a valid rectangle's cells are on the grid
pub valid_grid : (r : Rect) (c : Cell) → valid r ≡ true → has_cell r c ≡ true → on_grid c ≡ true
valid_grid r c e t =
    let v = valid_of r e in
    let i = in_of r c t in
    of_grid c (omega arith)

-- a rectangle's cells are among those of one that contains it
pub within_cells : (r s : Rect) (c : Cell) → within r s ≡ true → has_cell r c ≡ true → has_cell s c ≡ true
within_cells r s c e t = let w = within_of r s e in let i = in_of r c t in of_in s c (omega arith)

-- a list has the cells of its first rectangle and of the others
pub has_cons : (r : Rect) (l : List Rect) (c : Cell) → any_has (r ∷ l) c ≡ has_cell r c || any_has l c
unfolding any_has any
has_cons r l c = refl

-- a list appended to another has the cells of both
pub has_append : (l m : List Rect) (c : Cell) → any_has (l ++ m) c ≡ any_has l c || any_has m c
unfolding any_has any
has_append [] m c = refl
has_append (r ∷ l) m c = rw (has_append l m c, or_assoc)

-- a list appended to another is valid exactly if both are
pub valid_append : (l m : List Rect) → all_valid (l ++ m) ≡ all_valid l && all_valid m
unfolding all_valid
valid_append [] m = refl
valid_append (r ∷ l) m = rw (valid_append l m, and_assoc)

-- leaving a rectangle out where it is empty loses no cell
pub has_unless_empty : (r : Rect) (c : Cell) → any_has (unless_empty r) c ≡ has_cell r c
unfolding unless_empty any_has any
has_unless_empty r c = go (non_empty r) refl
  where
    go : (b : Bool) → non_empty r ≡ b → any_has (cond b (r ∷ []) []) c ≡ has_cell r c
    go true e = or-false (has_cell r c)
    go false e = sym (empty_has_none r c e)

-- a rectangle that does not pass the end of the grid is valid, or left out as empty
pub valid_unless_empty : (r : Rect) → r.urx ≤ 65536 → r.ury ≤ 65536 → all_valid (unless_empty r) ≡ true
unfolding unless_empty all_valid
valid_unless_empty r h k = go (non_empty r) refl
  where
    go : (b : Bool) → non_empty r ≡ b → all_valid (cond b (r ∷ []) []) ≡ true
    go true e = let s = some_of r e in both _ _ (of_valid r (omega arith)) refl
    go false e = refl

-- a rectangle, or none where it is empty: at most one
pub length_unless_empty : (r : Rect) → length (unless_empty r) ≤ 1
unfolding unless_empty
length_unless_empty r = go (non_empty r)
  where
    go : (b : Bool) → length (cond b (r ∷ []) []) ≤ 1
    go true = omega arith
    go false = omega arith

module _ (f : Rect → List Rect) where
  -- where f leaves of each rectangle the cells that pass a test, it leaves those of a list
  pub has_flat : (c : Cell) (b : Bool) → ((r : Rect) → any_has (f r) c ≡ has_cell r c && b) → (l : List Rect) → any_has (flat_map f l) c ≡ any_has l c && b
  unfolding any_has any flat_map
  has_flat c b h [] = refl
  has_flat c b h (r ∷ l) = rw (has_append, h r, has_flat c b h l) (sym (and-or_distrib_right (has_cell r c) (any_has l c) b))

  -- where f makes valid rectangles of each rectangle, it makes a valid list
  pub valid_flat : ((r : Rect) → all_valid (f r) ≡ true) → (l : List Rect) → all_valid (flat_map f l) ≡ true
  unfolding all_valid flat_map
  valid_flat h [] = refl
  valid_flat h (r ∷ l) = rw (valid_append, h r, valid_flat h l)

  -- where f makes valid rectangles of each valid one, it makes a valid list of a valid list
  pub valid_flat_of : ((r : Rect) → valid r ≡ true → all_valid (f r) ≡ true) → (l : List Rect) → all_valid l ≡ true → all_valid (flat_map f l) ≡ true
  unfolding all_valid flat_map
  valid_flat_of h [] e = refl
  valid_flat_of h (r ∷ l) e =
      let k = split_and (valid r) (all_valid l) e in
      rw (valid_append, h r k.0, valid_flat_of h l k.1)

module _ (l : List Rect) (i : ℕ) where
  -- a list has the cells of the rectangles before the i-th, of the i-th and of those after it
  pub has_split : (c : Cell) → i < length l → any_has l c ≡ any_has (take i l) c || (has_cell (get_or l i no_rect) c || any_has (drop (i + 1) l) c)
  unfolding any_has any
  has_split c h = rw (add-one i) (ap (λ k. any_has k c) (split_at l i no_rect h) ∙ has_append (take i l) (get_or l i no_rect ∷ drop (suc i) l) c)

  -- a list has the cells of its i-th rectangle
  pub has_at : (c : Cell) → i < length l → has_cell (get_or l i no_rect) c ≡ true → any_has l c ≡ true
  has_at c h t = has_split c h ∙ rw t (or-true (any_has (take i l) c))

  module _ (e : all_valid l ≡ true) where
    valid_parts : (all_valid (take i l) ≡ true) × (all_valid (drop i l) ≡ true)
    valid_parts = split_and _ _ (sym (valid_append (take i l) (drop i l)) ∙ rw (take-append-drop i l) e)

    -- the first rectangles of a valid list are valid
    pub valid_take : all_valid (take i l) ≡ true
    valid_take = valid_parts.0

    -- the last rectangles of a valid list are valid
    pub valid_drop : all_valid (drop i l) ≡ true
    valid_drop = valid_parts.1

    -- each rectangle of a valid list is valid
    pub valid_at : i < length l → valid (get_or l i no_rect) ≡ true
    unfolding all_valid
    valid_at h = (split_and _ _ (rw (drop-cons l i no_rect h) at valid_drop)).0
