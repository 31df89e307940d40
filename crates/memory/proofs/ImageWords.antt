-- Document 01, 'Memory is a list of 32-bit numbers': so are the numbers of an image.
use mathlib.Core.Path.{◌≡◌}
use mathlib.Core.Bool.{Bool, true, false≢true}
use mathlib.Core.List.{List, [], ◌∷◌, ◌++◌, map, flat_map}
use mathlib.Core.Logic.{◌⊎◌, inl, inr}
use Prim.Native.Nat.{ℕ, zero, suc, ◌+◌, ◌*◌, ◌-◌, ◌^◌, ◌≤◌, ◌<◌, min}
use native.Mathlib.Omega.{arith}
use lib.ListN.{length, replicate, length-append}
use lib.Pow.{pow_pos, pow_mono}
use mathlib.Core.Option.{some}
use Rattle.polygons.specs.Lists.{any}
use Rattle.polygons.proofs.Booleans.{either, split_and}
use Rattle.geometry.specs.declared.rect.Cell.{Cell}
use Rattle.geometry.specs.declared.rect.Rect.{Rect}
use Rattle.geometry.specs.Cells.{has_cell, valid, all_valid, any_has}
use Rattle.geometry.specs.Numbers.{numbers_of}
use Rattle.geometry.proofs.CellLaws.{OnGrid, grid_of, valid_grid, valid_of}
use Rattle.cover.specs.Tests.{all_pass}
use Rattle.tree.specs.Lists.{total, All}
use Rattle.tree.specs.Nodes.{Item, held, nodes}
use Rattle.tree.specs.Tree.{Tree, entries, top}
use Rattle.tree.proofs.Lists.{all_append, all_map, all_flat_map, flat_map_all}
use Rattle.plane.specs.Best.{up_from}
use Rattle.plane.specs.Lines.{CellEntry}
use Rattle.plane.specs.Plane.{plane_space}
use Rattle.memory.specs.SoundTest.{item_test, sound_test}
use Rattle.memory.specs.Image.{padded, entry_numbers, node_part, bits_word, head_numbers, memory_of, write_row, write_node, image}
use Rattle.memory.proofs.NodeImage.{NodeOk, item_ok, length_node, some_parts}
use Rattle.memory.proofs.ImageLaws.{root_ok}

-- a number of 32 bits, and a list of such
abbrev pub Word : ℕ → Type 0
Word a = a < 2 ^ 32

abbrev pub Words : List ℕ → Type 0
Words l = All Word l

-- an entry whose tag has 32 bits
abbrev pub Tagged : CellEntry → Type 0
Tagged e = Word e.tag

-- zeros
pub zero_words : (n : ℕ) → Words (replicate n 0)
unfolding All
zero_words zero = tt
zero_words (suc n) = (omega arith, zero_words n)

-- a list filled up with zeros
padded_words : (n : ℕ) (l : List ℕ) → Words l → Words (padded n l)
unfolding padded
padded_words n l h = all_append Word l _ h (zero_words (n - length l))

-- the numbers of a valid polygon
rect_words : (p : List Rect) → all_valid p ≡ true → Words (numbers_of p)
unfolding All numbers_of all_valid
rect_words [] h = tt
rect_words (r ∷ p) h =
    let t = split_and (valid r) (all_valid p) h in
    let v = valid_of r t.0 in
    (omega arith, (omega arith, (omega arith, (omega arith, rect_words p t.1))))

-- a cell of a valid polygon is on the grid
cell_on : (p : List Rect) (c : Cell) → all_valid p ≡ true → any_has p c ≡ true → OnGrid c
unfolding all_valid any_has any
cell_on [] c v h = absurd (false≢true h)
cell_on (r ∷ p) c v h = go (either (has_cell r c) (any_has p c) h) (split_and (valid r) (all_valid p) v) (cell_on p c)
  where
    go : (has_cell r c ≡ true) ⊎ (any_has p c ≡ true) → (valid r ≡ true) × (all_valid p ≡ true) → (all_valid p ≡ true → any_has p c ≡ true → OnGrid c) → OnGrid c
    go (inl x) t ih = grid_of c (valid_grid r c t.0 x)
    go (inr x) t ih = ih t.1 x

-- the numbers of a leaf's entries
entry_words : (fanout : ℕ) (p : List Rect) (es : List CellEntry) → all_valid p ≡ true → all_pass (item_test fanout zero p) es ≡ true → All Tagged es → Words (flat_map entry_numbers es)
unfolding All flat_map entry_numbers all_pass item_test
entry_words fanout p [] v h g = tt
entry_words fanout p (e ∷ es) v h g =
    let t = split_and (any_has p e.cell) (all_pass (item_test fanout zero p) es) h in
    let o = cell_on p e.cell v t.0 in
    (omega arith, (omega arith, (g.0, entry_words fanout p es v t.1 g.1)))

-- the numbers of a part
part_words : (p : List Rect) (c : ℕ) (items : List ℕ) → length p ≤ 16 → c ≤ 20 → all_valid p ≡ true → Words items → Words (node_part p c items)
unfolding All node_part
part_words p c items h k v w =
    (omega arith, (omega arith, all_append Word (padded 64 (numbers_of p)) _ (padded_words 64 (numbers_of p) (rect_words p v)) (padded_words 62 items w)))

-- numbers below a are below all that is not less
below_more : (l : List ℕ) (a b : ℕ) → a ≤ b → All (λ k. k < a) l → All (λ k. k < b) l
below_more l a b h g = all_map (λ k. k < a) (λ k. k < b) l (λ k k'. omega arith) g

module _ {B : Type 0} (write : ℕ → B → List (List ℕ)) where
  -- the top nodes lie among the parts of the row
  roots_below : ((next : ℕ) (b : B) → 1 ≤ length (write next b)) → (next : ℕ) (bs : List B) → All (λ k. k < next + length (write_row write next bs).parts) (write_row write next bs).roots
  unfolding All write_row
  roots_below one next [] = tt
  roots_below one next (b ∷ bs) =
      let own = write next b in
      let after = (write_row write (next + length own) bs).parts in
      let s = length-append own after in
      let o = one next b in
      (omega arith, below_more (write_row write (next + length own) bs).roots (next + length own + length after) (next + length (own ++ after)) (omega arith) (roots_below one (next + length own) bs))

  -- the numbers of a row's parts
  row_words : (test : B → Bool) (P : B → Type 0) (most : ℕ) →
      ((next : ℕ) (b : B) → test b ≡ true → P b → next + length (write next b) ≤ most → All Words (write next b)) →
      (next : ℕ) (bs : List B) → all_pass test bs ≡ true → All P bs → next + length (write_row write next bs).parts ≤ most → All Words (write_row write next bs).parts
  unfolding All write_row all_pass
  row_words test P most each next [] t p h = tt
  row_words test P most each next (b ∷ bs) t p h =
      let own = write next b in
      let after = (write_row write (next + length own) bs).parts in
      let s = length-append own after in
      let t' = split_and (test b) (all_pass test bs) t in
      all_append Words own after (each next b t'.0 p.0 (omega arith)) (row_words test P most each (next + length own) bs t'.1 p.1 (omega arith))

-- where each element gives at least k, so does the total
total_some : {B : Type 0} (f : B → ℕ) (test : B → Bool) (k : ℕ) → ((b : B) → test b ≡ true → k ≤ f b) → (bs : List B) → 1 ≤ length bs → all_pass test bs ≡ true → k ≤ total f bs
unfolding total all_pass
total_some f test k each [] h t = absurd (omega arith)
total_some f test k each (b ∷ bs) h t = let e = each b (split_and (test b) (all_pass test bs) t).0 in omega arith

-- the words of bits
bits_words : (used k n : ℕ) → Words (map (bits_word used) (up_from k n))
unfolding All up_from bits_word
bits_words used k zero = tt
bits_words used k (suc n) =
    let a = min 32 (used - 32 * k) in
    let p = pow_pos a in
    let q : 2 ^ a ≤ 2 ^ 32 = pow_mono {i = a} {j = 32} (omega arith) in
    (omega arith, bits_words used (suc k) n)

-- the first 64 numbers
head_words : (used height : ℕ) → used ≤ 256 → height ≤ 256 → Words (head_numbers used height)
unfolding All head_numbers
head_words used height h k = padded_words 64 _ (all_append Word (map (bits_word used) (up_from 0 8)) _ (bits_words used 0 8) (omega arith, (omega arith, tt)))

module _ (fanout : ℕ) (small : fanout ≤ 20) where
  -- the numbers of a subtree's parts
  node_words : (n next : ℕ) (b : Item (plane_space fanout) (suc n)) → NodeOk fanout n b → All Tagged (held (plane_space fanout) (suc n) b) →
      next + length (write_node fanout n next b) ≤ 256 → All Words (write_node fanout n next b)
  unfolding All write_node held
  node_words zero next b ok g h =
      let tags = all_map _ Tagged b.child (λ e k. k.0) (flat_map_all Tagged (held (plane_space fanout) zero) b.child g) in
      (part_words b.poly _ _ ok.few_rects (omega arith) ok.valid (entry_words fanout b.poly b.child ok.valid ok.each tags), tt)
  node_words (suc n) next b ok g h =
      let below = write_row (write_node fanout n) next b.child in
      let own = node_part b.poly (length b.child) below.roots in
      let s = length-append below.parts (own ∷ []) in
      let roots = below_more below.roots (next + length below.parts) (2 ^ 32) (omega arith) (roots_below (write_node fanout n) (some_parts fanout n) next b.child) in
      all_append Words below.parts _
      (row_words (write_node fanout n) (item_test fanout (suc n) b.poly) (λ c. All Tagged (held (plane_space fanout) (suc n) c)) 256
      (λ k c t p l. node_words n k c (item_ok fanout n b.poly c t) p l) next b.child ok.each
      (flat_map_all Tagged (held (plane_space fanout) (suc n)) b.child g) (omega arith))
      (part_words b.poly _ _ ok.few_rects (omega arith) ok.valid roots, tt)

  -- a node is as high as it has nodes, or less
  level_nodes : (n : ℕ) (b : Item (plane_space fanout) (suc n)) → NodeOk fanout n b → suc n ≤ nodes (plane_space fanout) (suc n) b
  unfolding nodes
  level_nodes zero b ok = omega arith
  level_nodes (suc n) b ok =
      let k : suc n ≤ total (nodes (plane_space fanout) (suc n)) b.child =
      total_some (nodes (plane_space fanout) (suc n)) (item_test fanout (suc n) b.poly) (suc n) (λ c t. level_nodes n c (item_ok fanout n b.poly c t)) b.child
      ok.some_items ok.each in
      omega arith

  -- the numbers of the image of a tree with tags of 32 bits
  pub image_words : (N : ℕ) (t : Tree (plane_space fanout)) → N ≤ 256 → nodes (plane_space fanout) (suc t.level) (top (plane_space fanout) t) ≤ N → sound_test fanout t ≡ true →
      All Tagged (entries (plane_space fanout) (some t)) → Words (image fanout N t)
  unfolding image memory_of held
  image_words N t few fit sound tags =
      let b = top (plane_space fanout) t in
      let ok = root_ok fanout t sound in
      let ps = write_node fanout t.level 0 b in
      let s = length_node fanout t.level 0 b in
      let l = level_nodes t.level b ok in
      let w = node_words t.level 0 b ok tags (omega arith) in
      padded_words _ _ (all_append Word (head_numbers (length ps) (suc t.level)) _ (head_words (length ps) (suc t.level) (omega arith) (omega arith)) (all_flat_map Word (λ p. p) ps w))
