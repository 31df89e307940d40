-- What the reading functions find where the layout has it.
use Prim.Native.Nat.{ℕ, ◌+◌, ◌*◌, ◌-◌, ◌≤◌, ◌<◌}
use mathlib.Core.Path.{◌≡◌, ap, ◌∙◌}
use mathlib.Core.List.{List}
use native.Mathlib.Omega.{arith}
use lib.ListN.{length, take, drop, get_or, length-drop}
use lib.Seq.{take_all, get_or-take, get_or-drop}
use mathlib.Core.Bool.{true}
use Rattle.geometry.specs.Numbers.{rects_in}
use Rattle.geometry.specs.Cells.{all_valid}
use Rattle.memory.specs.Layout.{part, rect_count, item_count, polygon_in, children_in, rect_numbers}
use Rattle.memory.proofs.ReadingLaws.{part_length}
use Rattle.layout.specs.Nodes.{NodePart, PolygonPart, child_in, GoodPolygonPart}

-- a part of a list from a place to its end
pub rest_is : (p : List ℕ) (a : ℕ) → take (length p - a) (drop a p) ≡ drop a p
rest_is p a = take_all (length p - a) (drop a p) (rw length-drop (omega arith))

-- a child by its place
pub child_in_lem : (p : List ℕ) (i : ℕ) → i < item_count p → get_or (children_in p) i 0 ≡ child_in p i
child_in_lem p i h = get_or-take (item_count p) (drop 66 p) i 0 h ∙ get_or-drop 66 p i 0

-- a number of a part, in the memory
pub part_number : (m : List ℕ) (k i : ℕ) → i < 128 → get_or (part m k) i 0 ≡ get_or m (64 + 128 * k + i) 0
unfolding part
part_number m k i h = get_or-take 128 (drop (64 + 128 * k) m) i 0 h ∙ get_or-drop (64 + 128 * k) m i 0

-- the polygon at part k, from the part and its rectangles as they are lent
pub lent_polygon : (m : List ℕ) (k : ℕ) (p l : List ℕ) (r : ℕ) → p ≡ part m k → l ≡ rect_numbers p → r ≡ rect_count p → rects_in l r ≡ polygon_in (part m k)
lent_polygon m k p l r e f g = rw (f, g, e)

-- the numbers of a part's rectangles are enough
pub rects_length : (p l : List ℕ) → length p ≡ 128 → l ≡ rect_numbers p → length l ≡ 126
rects_length p l n e = ap length e ∙ length-drop 2 p ∙ omega arith

pub polygon_few : (m : List ℕ) (k : ℕ) (p l : List ℕ) (r : ℕ) → PolygonPart m k → p ≡ part m k → l ≡ rect_numbers p → r ≡ rect_count p → 4 * r ≤ length l
polygon_few m k p l r x e f g =
    let c = x.few_rects in
    let n = ap length e ∙ part_length m k x.below in
    let q : rect_count p ≡ rect_count (part m k) = ap rect_count e in
    let d = rects_length p l n f in
    omega arith

-- of a good polygon there is one, and they are valid
module _ (m : List ℕ) (k : ℕ) (p l : List ℕ) (r : ℕ) (p_is : p ≡ part m k) (l_is : l ≡ rect_numbers p) (r_is : r ≡ rect_count p) (g : GoodPolygonPart m k) where
  pub lent_some : 1 ≤ r
  lent_some = rw (r_is, p_is) g.some_rects

  pub lent_valid : all_valid (rects_in l r) ≡ true
  lent_valid = ap all_valid (lent_polygon m k p l r p_is l_is r_is) ∙ g.valid

pub rects_long : (p l : List ℕ) (r : ℕ) → NodePart p → l ≡ rect_numbers p → r ≡ rect_count p → 4 * r ≤ length l
rects_long p l r v e f =
    let c = v.few_rects in
    let d = rects_length p l v.length_is e in
    omega arith
