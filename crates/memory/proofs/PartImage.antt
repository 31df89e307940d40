-- The image of one node, its part, read back.
use mathlib.Core.Path.{◌≡◌, refl, sym, ap, ◌∙◌}
use mathlib.Core.Bool.{true}
use mathlib.Core.List.{List, [], ◌∷◌, ◌++◌, append_assoc, flat_map}
use Prim.Native.Nat.{ℕ, zero, suc, ◌+◌, ◌*◌, ◌-◌, ◌≤◌, ◌<◌}
use native.Mathlib.Omega.{arith}
use borrow.Author.Tests.{le-leb}
use lib.ListN.{length, take, drop, get_or, replicate, length-append, length-replicate}
use lib.Seq.{take_at, drop_at, drop-append-le, take-length, take-suc, get_or-drop, drop-drop}
use Rattle.polygons.proofs.FlatLaws.{flat_length}
use Rattle.geometry.specs.declared.rect.Rect.{Rect}
use Rattle.geometry.specs.Numbers.{rects_in, numbers_of}
use Rattle.geometry.proofs.CellLaws.{rect_is}
use Rattle.geometry.proofs.NumberLaws.{length_numbers, numbers_take}
use Rattle.plane.specs.Lines.{CellEntry}
use Rattle.memory.specs.Layout.{item_count, polygon_in, entry_in, entries_in, children_in, rest_zero, counts_fit}
use Rattle.memory.specs.Image.{padded, entry_numbers, node_part}
use Rattle.memory.proofs.ReadingLaws.{zeros_zero}

-- a list filled up to n numbers has n numbers
pub length_padded : (n : ℕ) (l : List ℕ) → length l ≤ n → length (padded n l) ≡ n
unfolding padded
length_padded n l h = simp (length-append, length-replicate) (omega arith)

-- behind the numbers of a list that was filled up, there are zeros
pub drop_padded : (n k : ℕ) (l : List ℕ) → length l ≡ k → drop k (padded n l) ≡ replicate (n - k) 0
unfolding padded
drop_padded n k l h = drop_at l _ k h ∙ ap (λ (j : ℕ). replicate (n - j) 0) h

-- lists of rectangles with the same numbers are equal
pub numbers_same : (l k : List Rect) → numbers_of l ≡ numbers_of k → l ≡ k
unfolding numbers_of
numbers_same [] [] e = refl
numbers_same [] (s ∷ k) e = let z : ◌≡◌ {A = ℕ} 0 1 = cc in absurd (omega arith)
numbers_same (r ∷ l) [] e = let z : ◌≡◌ {A = ℕ} 0 1 = cc in absurd (omega arith)
numbers_same (r ∷ l) (s ∷ k) e =
    let h : r ≡ s = rect_is r s (cc) (cc) (cc) (cc) in
    let t : l ≡ k = numbers_same l k (cc) in
    cc

-- the numbers of a list of rectangles, read back
pub rects_back : (l : List Rect) (rest : List ℕ) → rects_in (numbers_of l ++ rest) (length l) ≡ l
rects_back l rest =
    let n = length_numbers l in
    numbers_same _ l
    (numbers_take (numbers_of l ++ rest) (length l) (simp length-append (omega arith)) ∙ take_at (numbers_of l) rest (4 * length l) n)

-- the count of items is read back
pub part_count : (p : List Rect) (c : ℕ) (items : List ℕ) → item_count (node_part p c items) ≡ c
unfolding node_part
part_count p c items = refl

module _ (p : List Rect) (c : ℕ) (items : List ℕ) (few : length p ≤ 16) (fit : length items ≤ 62) where
  -- the polygon's numbers, filled up
  polygon_length : length (padded 64 (numbers_of p)) ≡ 64
  polygon_length = length_padded 64 (numbers_of p) (let n = length_numbers p in omega arith)

  -- a part has 128 numbers
  pub part_length : length (node_part p c items) ≡ 128
  unfolding node_part
  part_length =
      let a = polygon_length in
      let b = length_padded 62 items fit in
      let d = length-append (padded 64 (numbers_of p)) (padded 62 items) in
      omega arith

  -- from 66 on stand the items
  pub part_items : drop 66 (node_part p c items) ≡ padded 62 items
  unfolding node_part
  part_items = drop_at (padded 64 (numbers_of p)) (padded 62 items) 64 polygon_length

  -- the polygon is read back
  pub part_polygon : polygon_in (node_part p c items) ≡ p
  unfolding node_part padded
  part_polygon = rw append_assoc (rects_back p _)

  -- the part numbers of the children are read back
  pub part_children : length items ≡ c → children_in (node_part p c items) ≡ items
  unfolding node_part padded
  part_children e = ap (λ (l : List ℕ). take c l) part_items ∙ take_at items _ c e

  -- behind the rectangles and behind the items there are zeros
  rects_rest : take (64 - 4 * length p) (drop (2 + 4 * length p) (node_part p c items)) ≡ replicate (64 - 4 * length p) 0
  unfolding node_part
  rects_rest =
      let n = length_numbers p in
      let l = polygon_length in
      let k : 4 * length p ≤ length (padded 64 (numbers_of p)) = omega arith in
      rw (← (drop-drop (4 * length p) 2 (node_part p c items)), drop-append-le (4 * length p) (padded 64 (numbers_of p)) (padded 62 items), drop_padded 64 (4 * length p) (numbers_of p))
      (take_at (replicate (64 - 4 * length p) 0) (padded 62 items) (64 - 4 * length p) (length-replicate (64 - 4 * length p) 0))

  items_rest : (k : ℕ) → length items ≡ k → drop (66 + k) (node_part p c items) ≡ replicate (62 - k) 0
  items_rest k e = rw (← (drop-drop k 66 (node_part p c items)), part_items) (drop_padded 62 k items e)

  -- the unused numbers are zero
  pub part_rest : (w : ℕ) → length items ≡ w * c → rest_zero w (node_part p c items) ≡ true
  unfolding rest_zero node_part
  part_rest w e = rw (rects_rest, items_rest (w * c) e, zeros_zero (64 - 4 * length p), zeros_zero (62 - w * c))

  -- the counts fit
  pub part_counts : (fanout : ℕ) → 1 ≤ length p → 1 ≤ c → c ≤ fanout → counts_fit fanout (node_part p c items) ≡ true
  unfolding counts_fit node_part
  part_counts fanout h k l = rw (le-leb 1 (length p) h, le-leb (length p) 16 few, le-leb 1 c k, le-leb c fanout l)

-- the entries of a leaf take three numbers each
pub length_entries : (es : List CellEntry) → length (flat_map entry_numbers es) ≡ 3 * length es
unfolding entry_numbers
length_entries = flat_length entry_numbers 3 (λ e. refl)

-- what get_or gives past the end
pub no_entry : CellEntry
no_entry = record { cell = record { x = 0; y = 0 }; tag = 0 }

-- entries with equal numbers are equal
entry_is : (e f : CellEntry) → e.cell.x ≡ f.cell.x → e.cell.y ≡ f.cell.y → e.tag ≡ f.tag → e ≡ f
entry_is e f a b c = λ i. record { cell = record { x = a i; y = b i }; tag = c i }

-- the numbers of the i-th entry
three : (es : List CellEntry) (rest : List ℕ) (i : ℕ) → i < length es →
    (get_or (flat_map entry_numbers es ++ rest) (3 * i) 0 ≡ (get_or es i no_entry).cell.x)
    × (get_or (flat_map entry_numbers es ++ rest) (3 * i + 1) 0 ≡ (get_or es i no_entry).cell.y)
    × (get_or (flat_map entry_numbers es ++ rest) (3 * i + 2) 0 ≡ (get_or es i no_entry).tag)
unfolding flat_map entry_numbers
three [] rest i h = absurd (omega arith)
three (e ∷ es) rest zero h = (refl, refl, refl)
three (e ∷ es) rest (suc i) h =
    let ih = three es rest i (omega arith) in
    let a : 3 * suc i ≡ suc (suc (suc (3 * i))) = omega arith in
    let b : 3 * suc i + 1 ≡ suc (suc (suc (3 * i + 1))) = omega arith in
    let c : 3 * suc i + 2 ≡ suc (suc (suc (3 * i + 2))) = omega arith in
    (rw a ih.0, rw b ih.1, rw c ih.2)

-- the entries of a part that agree with a list are its first n
entries_are : (p : List ℕ) (es : List CellEntry) (n : ℕ) → n ≤ length es → ((i : ℕ) → i < length es → entry_in p i ≡ get_or es i no_entry) → entries_in p n ≡ take n es
unfolding entries_in
entries_are p es zero h f = refl
entries_are p es (suc n) h f =
    let ih = entries_are p es n (omega arith) f in
    let k : n < length es = omega arith in
    rw (ih, f n k, take-suc es n no_entry k)

-- the entries of a leaf are read back
pub part_entries : (p : List Rect) (c : ℕ) (es : List CellEntry) → length p ≤ 16 → 3 * length es ≤ 62 → entries_in (node_part p c (flat_map entry_numbers es)) (length es) ≡ es
unfolding entry_in padded
part_entries p c es few fit =
    let items = flat_map entry_numbers es in
    let m = node_part p c items in
    let l = length_entries es in
    let at : (j : ℕ) → get_or m (66 + j) 0 ≡ get_or (padded 62 items) j 0 =
    λ j. sym (get_or-drop 66 m j 0) ∙ ap (λ (k : List ℕ). get_or k j 0) (part_items p c items few (omega arith)) in
    let each : (i : ℕ) → i < length es → entry_in m i ≡ get_or es i no_entry =
    λ i h.
    let t = three es (replicate (62 - length items) 0) i h in
    let a : 66 + 3 * i + 1 ≡ 66 + (3 * i + 1) = omega arith in
    let b : 66 + 3 * i + 2 ≡ 66 + (3 * i + 2) = omega arith in
    entry_is _ _ (at (3 * i) ∙ t.0) (rw a (at (3 * i + 1) ∙ t.1)) (rw b (at (3 * i + 2) ∙ t.2)) in
    entries_are m es (length es) (omega arith) each ∙ take-length es
