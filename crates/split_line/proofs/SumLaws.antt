-- The sums of a leaf's coordinates, and the line they give.
use Prim.Native.Nat.{ℕ, zero, suc, ◌+◌, ◌*◌, ◌-◌, ◌/◌, ◌≤◌, ◌<◌}
use mathlib.Core.Path.{◌≡◌, refl, sym, ap, ◌∙◌}
use mathlib.Core.Bool.{true}
use mathlib.Core.List.{List, [], ◌∷◌, ◌++◌}
use native.Mathlib.Omega.{arith}
use native.Mathlib.Nat.{mul-le-mul_left, div-le_self}
use native.Mathlib.Numerals.{add-one}
use borrow.Author.Tests.{le-leb, lt-leb}
use mir.Syntax.{w64, w32}
use mir.Val.{Fits}
use lib.ListN.{length, length-append}
use Rattle.geometry.specs.declared.rect.Cell.{Cell}
use Rattle.geometry.specs.declared.rect.Line.TheVariants.{AtX, AtY}
use Rattle.geometry.specs.Cells.{on_grid}
use Rattle.geometry.proofs.CellLaws.{grid_of}
use Rattle.tree.specs.Lists.{All, total}
use Rattle.tree.proofs.Lists.{all_append, all_first, all_second, all_head}
use Rattle.tree.proofs.Counts.{total_append}
use Rattle.plane.specs.Lines.{CellEntry, x_of, y_of, spread, leaf_line, Payload, some_payload, entry_of, OnGrid}
use Rattle.plane.proofs.Bounds.{x_bounds, y_bounds}
use Rattle.memory.specs.Layout.{item_count, entry_in, entries_in}
use Rattle.memory.proofs.ReadingLaws.{entries_length}
use Rattle.split_line.specs.declared.leaf.Sums.{Sums}
use Rattle.split_line.specs.FullLeaf.{entries_of, LeafHere, LeafLineIs, SmallSums, sums_of, added_sums}

total_more : (v : CellEntry → ℕ) (es : List CellEntry) (e : CellEntry) → total v (es ++ (e ∷ [])) ≡ total v es + v e
unfolding total
total_more v es e = let a = total_append v es (e ∷ []) in omega arith

-- the sums of entries with one more
sums_more : (es : List CellEntry) (e : CellEntry) → added_sums (sums_of es) e.cell ≡ sums_of (es ++ (e ∷ []))
unfolding added_sums sums_of
sums_more es e = rw (total_more x_of es e, total_more (λ e. x_of e * x_of e) es e, total_more y_of es e, total_more (λ e. y_of e * y_of e) es e)

-- the sums of at most nine entries on the grid, with one cell more
square : (a : ℕ) → a ≤ 65535 → a * a ≤ 4294836225
square a h = let p = mul-le-mul_left a h in omega arith

small : (es : List CellEntry) (c : Cell) → length es ≤ 9 → OnGrid es → on_grid c ≡ true → SmallSums (sums_of es) c
unfolding sums_of
small es c n g h =
    let a = x_bounds es n g in
    let b = y_bounds es n g in
    let d = grid_of c h in
    record {
      square_x = square c.x d.x_most;
      square_y = square c.y d.y_most;
      sum_x = a.sum;
      sum_y = b.sum;
      squares_x = a.squares;
      squares_y = b.squares;
    }

-- Before the i-th of the n entries of a leaf's part: the sums of the entries before it.
pub record AtSum (p : List ℕ) (c : Cell) (n i : ℕ) (s : Sums) : Type 0 where
  pub count : n ≡ item_count p
  pub i_le : i ≤ n
  pub here : LeafHere p c
  pub so_far : s ≡ sums_of (entries_in p i)

-- the first entries of a leaf are on the grid where more are
grid_less : (p : List ℕ) (k i : ℕ) → OnGrid (entries_in p (k + i)) → OnGrid (entries_in p i)
unfolding entries_in
grid_less p zero i g = let e : zero + i ≡ i = omega arith in rw e at g
grid_less p (suc k) i g =
    let e : suc k + i ≡ suc (k + i) = omega arith in
    grid_less p k i (all_first _ (entries_in p (k + i)) (entry_in p (k + i) ∷ []) (rw e at g))

grid_before : (p : List ℕ) (n i : ℕ) → i ≤ n → OnGrid (entries_in p n) → OnGrid (entries_in p i)
grid_before p n i h g = let e : n - i + i ≡ n = omega arith in grid_less p (n - i) i (rw e g)

entries_next : (p : List ℕ) (i : ℕ) → entries_in p (i + 1) ≡ entries_in p i ++ (entry_in p i ∷ [])
unfolding entries_in
entries_next p i = rw add-one

pub sum_start : (p : List ℕ) (c : Cell) (n : ℕ) → n ≡ item_count p → LeafHere p c → AtSum p c n 0 (record { x = 0; xx = 0; y = 0; yy = 0 })
unfolding sums_of entries_in total
sum_start p c n e h = record { count = e; i_le = omega arith; here = h; so_far = refl }

module _ (p : List ℕ) (c : Cell) (n i : ℕ) (s : Sums) (a : AtSum p c n i s) where
  few : i ≤ 8
  few = let f = a.here.leaf.few_items in let e = a.i_le in let k = a.count in omega arith

  small_with : (d : Cell) → on_grid d ≡ true → SmallSums s d
  small_with d g =
      let l = entries_length p i in
      let f = few in
      let e = a.i_le in
      let k = a.count in
      rw a.so_far (small (entries_in p i) d (omega arith) (grid_before p (item_count p) i (omega arith) a.here.grid) g)

  module _ (h : i < n) (d : Cell) (e : d ≡ (entry_in p i).cell) where
    entry_grid : on_grid d ≡ true
    entry_grid =
        let k = a.count in
        let g = grid_before p (item_count p) (i + 1) (omega arith) a.here.grid in
        rw e (all_head _ (entry_in p i) [] (all_second _ (entries_in p i) (entry_in p i ∷ []) (rw (entries_next p i) at g)))

    pub sum_small : SmallSums s d
    sum_small = small_with d entry_grid

    pub sum_again : (s' : Sums) → s' ≡ added_sums s d → AtSum p c n (i + 1) s'
    sum_again s' f = record {
      count = a.count;
      i_le = omega arith;
      here = a.here;
      so_far = f ∙ ap (added_sums s) e ∙ ap (λ q. added_sums q (entry_in p i).cell) a.so_far ∙ sums_more (entries_in p i) (entry_in p i) ∙ ap sums_of (sym (entries_next p i));
    }

  sums_all : n ≤ i → s ≡ sums_of (entries_of p)
  sums_all h =
      let l = a.i_le in
      let k = a.count in
      let e : i ≡ item_count p = omega arith in
      a.so_far ∙ ap (λ j. sums_of (entries_in p j)) e

  pub sum_last : SmallSums s c
  sum_last = small_with c a.here.cell

  pub sum_end : (r : Sums) → n ≤ i → r ≡ added_sums s c → r ≡ added_sums (sums_of (entries_of p)) c
  sum_end r h e = e ∙ ap (λ q. added_sums q c) (sums_all h)

-- What the code computes with the sums s of n entries fits: no difference is negative.
record Numbers (n : ℕ) (s : Sums) : Type 0 where
  sum_x : s.x ≤ 589815
  sum_y : s.y ≤ 589815
  product_x : n * s.xx ≤ 347881734225
  product_y : n * s.yy ≤ 347881734225
  difference_x : s.x * s.x ≤ n * s.xx
  difference_y : s.y * s.y ≤ n * s.yy

numbers_of_lem : (es : List CellEntry) → length es ≤ 9 → OnGrid es → Numbers (length es) (sums_of es)
unfolding sums_of
numbers_of_lem es n g =
    let a = x_bounds es n g in
    let b = y_bounds es n g in
    record {
      sum_x = a.sum;
      sum_y = b.sum;
      product_x = a.product;
      product_y = b.product;
      difference_x = a.difference;
      difference_y = b.difference;
    }

-- the line of a leaf that is split, by the sums of its entries
module _ (es : List CellEntry) where
  at_x : length es * (sums_of es).yy - (sums_of es).y * (sums_of es).y ≤ length es * (sums_of es).xx - (sums_of es).x * (sums_of es).x → AtX ((sums_of es).x / length es + 1) ≡ leaf_line es
  unfolding sums_of leaf_line
  at_x g = rw (le-leb (spread y_of es) (spread x_of es) g)

  at_y : length es * (sums_of es).xx - (sums_of es).x * (sums_of es).x < length es * (sums_of es).yy - (sums_of es).y * (sums_of es).y → AtY ((sums_of es).y / length es + 1) ≡ leaf_line es
  unfolding sums_of leaf_line
  at_y g = rw (lt-leb (spread y_of es) (spread x_of es) g)

-- the entries of a leaf with the new one
abbrev with_new : List ℕ → Cell → Payload → List CellEntry
with_new p c t = entries_of p ++ (entry_of c t ∷ [])

module _ (p : List ℕ) (c : Cell) (n : ℕ) (s : Sums) (h : LeafHere p c) (k : n ≡ item_count p) (e : s ≡ added_sums (sums_of (entries_of p)) c) where
  count_is : (t : Payload) → n + 1 ≡ length (with_new p c t)
  count_is t = rw length-append (let l = entries_length p (item_count p) in omega arith)

  sums_are : (t : Payload) → s ≡ sums_of (with_new p c t)
  sums_are t = e ∙ sums_more (entries_of p) (entry_of c t)

  numbers : Numbers (n + 1) s
  unfolding All
  numbers =
      let f = h.leaf.few_items in
      let l = count_is some_payload in
      rw (l, sums_are some_payload) (numbers_of_lem (with_new p c some_payload) (omega arith) (all_append _ (entries_of p) (entry_of c some_payload ∷ []) h.grid (h.cell, tt)))

  pub product_x_fits : Fits w64 ((n + 1) * s.xx)
  product_x_fits = let a = numbers.product_x in omega arith

  pub product_y_fits : Fits w64 ((n + 1) * s.yy)
  product_y_fits = let a = numbers.product_y in omega arith

  pub square_x_fits : Fits w64 (s.x * s.x)
  square_x_fits = let a = numbers.product_x in let b = numbers.difference_x in omega arith

  pub square_y_fits : Fits w64 (s.y * s.y)
  square_y_fits = let a = numbers.product_y in let b = numbers.difference_y in omega arith

  pub spread_x_some : s.x * s.x ≤ (n + 1) * s.xx
  spread_x_some = numbers.difference_x

  pub spread_y_some : s.y * s.y ≤ (n + 1) * s.yy
  spread_y_some = numbers.difference_y

  mean_x : s.x / (n + 1) ≤ 589815
  mean_x = let a = numbers.sum_x in let b = div-le_self s.x (n + 1) in omega arith

  mean_y : s.y / (n + 1) ≤ 589815
  mean_y = let a = numbers.sum_y in let b = div-le_self s.y (n + 1) in omega arith

  pub mean_x_fits : Fits w32 (s.x / (n + 1))
  mean_x_fits = let a = mean_x in omega arith

  pub mean_y_fits : Fits w32 (s.y / (n + 1))
  mean_y_fits = let a = mean_y in omega arith

  pub line_x_fits : Fits w32 (s.x / (n + 1) + 1)
  line_x_fits = let a = mean_x in omega arith

  pub line_y_fits : Fits w32 (s.y / (n + 1) + 1)
  line_y_fits = let a = mean_y in omega arith

  pub leaf_at_x : (n + 1) * s.yy - s.y * s.y ≤ (n + 1) * s.xx - s.x * s.x → LeafLineIs p c (AtX (s.x / (n + 1) + 1))
  leaf_at_x g t f = rw (count_is t, sums_are t) (at_x (with_new p c t) (rw (← (count_is t), ← (sums_are t)) g))

  pub leaf_at_y : (n + 1) * s.xx - s.x * s.x < (n + 1) * s.yy - s.y * s.y → LeafLineIs p c (AtY (s.y / (n + 1) + 1))
  leaf_at_y g t f = rw (count_is t, sums_are t) (at_y (with_new p c t) (rw (← (count_is t), ← (sums_are t)) g))
