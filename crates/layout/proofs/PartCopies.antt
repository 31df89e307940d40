-- A node's part that was copied: it is the image of its own polygon, count and items, and of another node's where that is stored in it.
use Prim.Native.Nat.{ℕ, zero, suc, ◌+◌, ◌*◌, ◌-◌, ◌≤◌, ◌<◌}
use mathlib.Core.Path.{◌≡◌, refl, sym, ap, ◌∙◌}
use mathlib.Core.Bool.{true}
use mathlib.Core.List.{List, [], ◌∷◌, ◌++◌, flat_map}
use native.Mathlib.Omega.{arith}
use borrow.Author.Tests.{eqb-true}
use lib.Dec.{eqb}
use lib.ListN.{length, take, drop, get_or, set, replicate, length-take, length-drop, take-append-drop}
use lib.Seq.{take_all, take-add, drop-cons, drop-drop, get_or-drop}
use Rattle.polygons.proofs.Booleans.{split_and}
use Rattle.polygons.proofs.ListLaws.{flat_map_append}
use Rattle.geometry.specs.Numbers.{numbers_of}
use Rattle.geometry.proofs.NumberLaws.{length_rects, numbers_take}
use Rattle.tree.proofs.Lists.{flat_map_one}
use Rattle.memory.specs.Layout.{all_zero, rect_count, item_count, polygon_in, entry_in, entries_in, children_in, rest_zero}
use Rattle.memory.specs.Image.{padded, entry_numbers, node_part}
use Rattle.memory.proofs.ReadingLaws.{zero_at}
use Rattle.layout.specs.declared.node.Node.{Node}
use Rattle.layout.specs.Loaded.{with_node}
use Rattle.layout.proofs.GapLists.{zeros_of}

-- a list of zeros
zeros_are : (l : List ℕ) → all_zero l ≡ true → l ≡ replicate (length l) 0
unfolding all_zero
zeros_are [] h = refl
zeros_are (a ∷ l) h =
    let t = split_and (eqb a 0) (all_zero l) h in
    let e : a ≡ 0 = eqb-true a 0 t.0 in
    rw e (ap (λ (z : List ℕ). 0 ∷ z) (zeros_are l t.1))

-- a list filled up with what is all zero
padded_by : (n : ℕ) (l z : List ℕ) → length z ≡ n - length l → all_zero z ≡ true → padded n l ≡ l ++ z
unfolding padded
padded_by n l z e h = rw (← e, ← (zeros_are z h))

-- the start of a list filled up to a longer start, which is zero behind it
padded_take : (n k : ℕ) (l : List ℕ) → k ≤ n → n ≤ length l → all_zero (take (n - k) (drop k l)) ≡ true → padded n (take k l) ≡ take n l
padded_take n k l h f z =
    let e : k + (n - k) ≡ n = omega arith in
    padded_by n (take k l) (take (n - k) (drop k l)) (simp (length-take, length-drop) (omega arith)) z
    ∙ sym (take-add k (n - k) l) ∙ ap (λ (j : ℕ). take j l) e

-- three numbers in a row
three_at : (l : List ℕ) (j : ℕ) → j + 3 ≤ length l → take 3 (drop j l) ≡ get_or l j 0 ∷ get_or l (j + 1) 0 ∷ get_or l (j + 2) 0 ∷ []
three_at l j h =
    let a : j < length l = omega arith in
    let b : suc j < length l = omega arith in
    let c : suc (suc j) < length l = omega arith in
    let e : j + 1 ≡ suc j = omega arith in
    let f : j + 2 ≡ suc (suc j) = omega arith in
    rw (e, f, drop-cons l j 0 a, drop-cons l (suc j) 0 b, drop-cons l (suc (suc j)) 0 c)

-- the numbers of a leaf's entries are those of its part
pub entries_numbers : (p : List ℕ) (n : ℕ) → 66 + 3 * n ≤ length p → flat_map entry_numbers (entries_in p n) ≡ take (3 * n) (drop 66 p)
unfolding entries_in entry_in entry_numbers flat_map
entries_numbers p zero h = refl
entries_numbers p (suc n) h =
    let q : 3 * suc n ≡ 3 * n + 3 = omega arith in
    let one : entry_numbers (entry_in p n) ≡ take 3 (drop (3 * n) (drop 66 p)) =
    sym (three_at p (66 + 3 * n) (omega arith)) ∙ ap (take 3) (sym (drop-drop (3 * n) 66 p)) in
    flat_map_append entry_numbers (entries_in p n) (entry_in p n ∷ [])
    ∙ ap (λ (z : List ℕ). z ++ flat_map entry_numbers (entry_in p n ∷ [])) (entries_numbers p n (omega arith))
    ∙ ap (λ (z : List ℕ). take (3 * n) (drop 66 p) ++ z) (flat_map_one entry_numbers (entry_in p n) ∙ one)
    ∙ sym (take-add (3 * n) 3 (drop 66 p)) ∙ ap (λ (j : ℕ). take j (drop 66 p)) (sym q)

-- a part by its two counts and the rest
part_whole : (p z : List ℕ) → 66 ≤ length p → get_or p 0 0 ∷ get_or p 1 0 ∷ (take 64 (drop 2 p) ++ z) ≡ take 66 p ++ z
part_whole [] z h = absurd (omega arith)
part_whole (a ∷ []) z h = absurd (omega arith)
part_whole (a ∷ b ∷ l) z h = refl

-- A part of 128 numbers whose unused numbers are zero, where an item takes w numbers.
module _ (w : ℕ) (p : List ℕ) (long : length p ≡ 128) (few : rect_count p ≤ 16) (fits : w * item_count p ≤ 62) (rest : rest_zero w p ≡ true) where
  rest_parts : (all_zero (take (64 - 4 * rect_count p) (drop (2 + 4 * rect_count p) p)) ≡ true) × (all_zero (drop (66 + w * item_count p) p) ≡ true)
  unfolding rest_zero
  rest_parts = split_and (all_zero (take (64 - 4 * rect_count p) (drop (2 + 4 * rect_count p) p))) (all_zero (drop (66 + w * item_count p) p)) rest

  -- its polygon's numbers, filled up
  polygon_padded : padded 64 (numbers_of (polygon_in p)) ≡ take 64 (drop 2 p)
  polygon_padded =
      let l : length (drop 2 p) ≡ 126 = simp length-drop (omega arith) in
      ap (padded 64) (numbers_take (drop 2 p) (rect_count p) (omega arith))
      ∙ padded_take 64 (4 * rect_count p) (drop 2 p) (omega arith) (omega arith) (rw (drop-drop (4 * rect_count p) 2 p) rest_parts.0)

  -- its unused numbers behind nine entries
  behind_zero : w * item_count p ≤ 27 → all_zero (drop 93 p) ≡ true
  behind_zero h = zeros_of (drop 93 p) (λ x y.
      let e : 66 + w * item_count p + (27 - w * item_count p + x) ≡ 93 + x = omega arith in
      get_or-drop 93 p x 0 ∙ ap (λ (j : ℕ). get_or p j 0) (sym e) ∙ sym (get_or-drop (66 + w * item_count p) p (27 - w * item_count p + x) 0)
      ∙ zero_at (drop (66 + w * item_count p) p) (27 - w * item_count p + x) rest_parts.1)

  -- the part with another node in it is the image of its polygon, and of that node's count and items
  pub node_replaced : w * item_count p ≤ 27 → (n : Node) → length n.items ≡ 27 → with_node p n ≡ node_part (polygon_in p) n.count n.items
  unfolding with_node node_part
  node_replaced h n k =
      let q : padded 62 n.items ≡ n.items ++ drop 93 p = padded_by 62 n.items (drop 93 p) (simp length-drop (omega arith)) (behind_zero h) in
      ap (λ (z : List ℕ). set z 1 n.count) (sym (part_whole p (n.items ++ drop 93 p) (omega arith)))
      ∙ ap (λ (z : List ℕ). get_or p 0 0 ∷ n.count ∷ (z ++ (n.items ++ drop 93 p))) (sym polygon_padded)
      ∙ ap (λ (z : List ℕ). get_or p 0 0 ∷ n.count ∷ (padded 64 (numbers_of (polygon_in p)) ++ z)) (sym q)
      ∙ ap (λ (j : ℕ). j ∷ n.count ∷ (padded 64 (numbers_of (polygon_in p)) ++ padded 62 n.items)) (sym (length_rects (drop 2 p) (rect_count p)))

  -- the part itself is the image of its polygon, its count and the numbers of its items
  part_image : (items : List ℕ) → items ≡ take (w * item_count p) (drop 66 p) → p ≡ node_part (polygon_in p) (item_count p) items
  unfolding node_part
  part_image items e =
      let l : length (drop 66 p) ≡ 62 = simp length-drop (omega arith) in
      let s : length (drop 66 p) ≤ 62 = omega arith in
      let z : all_zero (take (62 - w * item_count p) (drop (w * item_count p) (drop 66 p))) ≡ true =
      ap (λ (z : List ℕ). all_zero (take (62 - w * item_count p) z)) (drop-drop (w * item_count p) 66 p)
      ∙ ap all_zero (take_all (62 - w * item_count p) (drop (66 + w * item_count p) p) (simp length-drop (omega arith))) ∙ rest_parts.1 in
      let q : padded 62 items ≡ drop 66 p =
      ap (padded 62) e ∙ padded_take 62 (w * item_count p) (drop 66 p) fits (omega arith) z ∙ take_all 62 (drop 66 p) s in
      sym (take-append-drop 66 p) ∙ sym (part_whole p (drop 66 p) (omega arith))
      ∙ ap (λ (z : List ℕ). get_or p 0 0 ∷ get_or p 1 0 ∷ (z ++ drop 66 p)) (sym polygon_padded)
      ∙ ap (λ (z : List ℕ). get_or p 0 0 ∷ get_or p 1 0 ∷ (padded 64 (numbers_of (polygon_in p)) ++ z)) (sym q)
      ∙ ap (λ (j : ℕ). j ∷ get_or p 1 0 ∷ (padded 64 (numbers_of (polygon_in p)) ++ padded 62 items)) (sym (length_rects (drop 2 p) (rect_count p)))

-- a leaf's part is the image of its polygon and its entries
pub leaf_image : (p : List ℕ) → length p ≡ 128 → rect_count p ≤ 16 → item_count p ≤ 8 → rest_zero 3 p ≡ true
    → p ≡ node_part (polygon_in p) (item_count p) (flat_map entry_numbers (entries_in p (item_count p)))
leaf_image p long few items rest =
    part_image 3 p long few (omega arith) rest _ (entries_numbers p (item_count p) (omega arith))

-- a routing node's part is the image of its polygon and its children
pub routing_image : (p : List ℕ) → length p ≡ 128 → rect_count p ≤ 16 → item_count p ≤ 8 → rest_zero 1 p ≡ true
    → p ≡ node_part (polygon_in p) (item_count p) (children_in p)
routing_image p long few items rest =
    let e : item_count p ≡ 1 * item_count p = omega arith in
    part_image 1 p long few (omega arith) rest _ (ap (λ (j : ℕ). take j (drop 66 p)) e)
