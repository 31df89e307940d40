-- The returns of the functions that write the grown polygon of a branch.
use Prim.Native.Nat.{ℕ, ◌+◌, ◌≤◌, ◌<◌}
use mathlib.Core.Path.{◌≡◌, sym, ap, ◌∙◌}
use mathlib.Core.List.{List, [], ◌∷◌, ◌++◌}
use mathlib.Core.Option.{Option, bind}
use native.Mathlib.Omega.{arith}
use lib.ListN.{length, drop, get_or, length-drop}
use Rattle.std.proofs.Common.{Result, Ok, Err, IsErr}
use Rattle.geometry.specs.declared.rect.Cell.{Cell}
use Rattle.geometry.specs.declared.rect.Rect.{Rect}
use Rattle.geometry.specs.Cells.{no_rect}
use Rattle.geometry.specs.Cut.{cut_limited, common_limited}
use Rattle.geometry.proofs.CutLoops.{few_of_lem}
use Rattle.geometry.specs.Grow.{grown}
use Rattle.geometry.specs.Numbers.{rect_at, rects_in, put_at, counted, Written}
use Rattle.geometry.proofs.NumberLaws.{length_rects, rects_at, rects_take, put_behind}
use Rattle.memory.specs.Layout.{part, rect_count, polygon_in, rect_numbers}
use Rattle.layout.specs.Nodes.{count_at, child_at, PolygonPart}
use Rattle.layout.proofs.NodeLaws.{lent_polygon}
use Rattle.geometry.specs.declared.cut.TooMany.{TooMany}
use Rattle.choose_branch.specs.declared.pieces.Grown.{Grown}
use Rattle.choose_branch.specs.Branches.{polygons_in, Branches}
use Rattle.choose_branch.specs.Limit.{grown_count}
use Rattle.choose_branch.specs.Pieces.{siblings, inner_pieces, replaced, refined_limited, grown_at}
use Rattle.choose_branch.proofs.ChildParts.{polygon_there}
use Rattle.choose_branch.proofs.LimitLaws.{any_grown}
use Rattle.choose_branch.proofs.PieceLaws.{grown_at_lem}

-- a counted list is short, and so is one of as many rectangles
pub counted_few : (limited : Option (List Rect)) (a : Result ℕ TooMany) (l₀ l : List ℕ) (n : ℕ) → Written l₀ limited a l → a ≡ Ok n
    → (m : List ℕ) (r : List Rect) → r ≡ rects_in m n → length r ≤ 256
counted_few limited a l₀ l n w q m r e = rw (e, length_rects) (few_of_lem limited a l₀ l w n q)

-- The pieces outside the siblings ss and inside p: the grown rectangle g stands first in the list, which is cut and then written to out.
module _ (g : Rect) (ss p : List Rect) (list₀ list list₁ out₀ out₁ : List ℕ) (a : Result ℕ TooMany) (h : 1088 ≤ length list₀) (e : list ≡ put_at list₀ 0 g)
    (v : Written list (cut_limited (rects_in list 1) ss) a list₁) (o : length out₁ ≡ length out₀) where
  alone : rects_in list 1 ≡ g ∷ []
  unfolding rects_in
  alone = ap (λ l. rects_in l 1) e ∙ put_behind list₀ 0 g (omega arith)

  cut_first : inner_pieces p ss g ≡ bind (counted a list₁) (λ l. common_limited l p)
  unfolding inner_pieces
  cut_first = ap (λ x. bind (cut_limited x ss) (λ l. common_limited l p)) (sym alone) ∙ ap (λ x. bind x (λ l. common_limited l p)) (sym v.list)

  pub inner_over : (x : TooMany) → a ≡ Err x → (r : Result Grown TooMany) → IsErr r → Written out₀ (inner_pieces p ss g) (grown_count r) out₁
  unfolding counted bind
  inner_over x q r z = any_grown r x z (record { list = sym (cut_first ∙ rw q); few = tt; same_length = o })

  module _ (n : ℕ) (q : a ≡ Ok n) (left : List Rect) (t : left ≡ rects_in list₁ n) where
    module _ (b : Result ℕ TooMany) (out₂ : List ℕ) (w : Written out₁ (common_limited left p) b out₂) where
      pub inner_parts : (x : ℕ) → b ≡ Ok x → Written out₀ (inner_pieces p ss g) (Ok x) out₂
      unfolding counted bind
      inner_parts x f = rw (← f) (record { list = w.list ∙ sym (cut_first ∙ rw (q, t)); few = w.few; same_length = w.same_length ∙ o })

      pub parts_over : (x : TooMany) → b ≡ Err x → (r : Result Grown TooMany) → IsErr r → Written out₀ (inner_pieces p ss g) (grown_count r) out₂
      unfolding counted bind
      parts_over x f r z =
          any_grown r x z (rw (← f) (record { list = w.list ∙ sym (cut_first ∙ rw (q, t)); few = w.few; same_length = w.same_length ∙ o }))

-- the rectangles s of the part p at j, and the rect-th of them
module _ (m : List ℕ) (j : ℕ) (p s : List ℕ) (rect : ℕ) (e : p ≡ part m j) (f : s ≡ rect_numbers p) (h : rect < rect_count (part m j)) where
  pub rect_grown : (c : Cell) (r g : Rect) → r ≡ rect_at s rect → g ≡ grown r c → g ≡ grown (get_or (polygon_in (part m j)) rect no_rect) c
  rect_grown c r g x y = y ∙ ap (λ t. grown t c) (x ∙ sym (rw (← e, ← f) (rects_at s (rect_count p) rect (rw (← e) at h))))

  -- the rectangles before it, and those after it
  module _ (n : ℕ) (g : n ≡ rect_count p) where
    pub rect_below : rect + 1 ≤ n
    rect_below = let k : rect < n = rw (g, e) h in omega arith

    module _ (before after : List Rect) (b : before ≡ rects_in s rect) (d : after ≡ drop (rect + 1) (rects_in s n)) where
      pub others_few : PolygonPart m j → length before + length after ≤ 15
      others_few v =
          let x : n ≤ 16 = rw (g, e) v.few_rects in
          let k = rect_below in
          rw (b, d, length-drop, length_rects s rect, length_rects s n) (omega arith)

      pub polygon_put : (l : List ℕ) (a : Result ℕ TooMany) (l' : List ℕ) (pieces : List Rect) → Written l (refined_limited (before ++ (pieces ++ after))) a l'
          → Written l (refined_limited (replaced (polygon_in (part m j)) rect pieces)) a l'
      unfolding replaced
      polygon_put l a l' pieces w =
          let k = rect_below in
          rw (← (lent_polygon m j p s n e f g), rects_take s n rect (omega arith), ← b, ← d) w

-- the branch at a place, which is at part j, its rect-th rectangle
module _ (m : List ℕ) (k place rect j : ℕ) (v : Branches m k) (h : place < count_at m k) (o : j ≡ child_at m k place) (f : rect < length (get_or (polygons_in m k) place [])) where
  pub rect_counted : rect < rect_count (part m j)
  rect_counted =
      let l : length (get_or (polygons_in m k) place []) ≡ rect_count (part m j) = ap length (polygon_there m k v place j h o) ∙ length_rects _ _ in
      omega arith

  module _ (p : List Rect) (c : Cell) (g : Rect) (e : g ≡ grown (get_or (polygon_in (part m j)) rect no_rect) c)
      (list₀ list₁ spare₀ spare : List ℕ) (a : Result ℕ TooMany) (l : length list₁ ≡ length list₀)
      (w : Written spare₀ (inner_pieces p (siblings (polygons_in m k) place) g) a spare) where
    pieces_first : grown_at p (polygons_in m k) place rect c
        ≡ bind (counted a spare) (λ inner. refined_limited (replaced (polygon_in (part m j)) rect inner))
    pieces_first =
        let q = polygon_there m k v place j h o in
        let z : inner_pieces p (siblings (polygons_in m k) place) (grown (get_or (polygon_in (part m j)) rect no_rect) c) ≡ counted a spare =
        ap (inner_pieces p (siblings (polygons_in m k) place)) (sym e) ∙ sym w.list in
        grown_at_lem p (polygons_in m k) place rect c
        ∙ ap (λ x. bind (inner_pieces p (siblings (polygons_in m k) place) (grown (get_or x rect no_rect) c)) (λ inner. refined_limited (replaced x rect inner))) q
        ∙ ap (λ x. bind x (λ inner. refined_limited (replaced (polygon_in (part m j)) rect inner))) z

    pub grown_over : (x : TooMany) → a ≡ Err x → (r : Result Grown TooMany) → IsErr r
        → Written list₀ (grown_at p (polygons_in m k) place rect c) (grown_count r) list₁
    unfolding counted bind
    grown_over x q r z = any_grown r x z (record { list = sym (pieces_first ∙ rw q); few = tt; same_length = l })

    module _ (count : ℕ) (q : a ≡ Ok count) (inner : List Rect) (t : inner ≡ rects_in spare count) where
      pub grown_put : (b : Result ℕ TooMany) (list₂ : List ℕ)
          → Written list₁ (refined_limited (replaced (polygon_in (part m j)) rect inner)) b list₂
          → Written list₀ (grown_at p (polygons_in m k) place rect c) b list₂
      unfolding counted bind
      grown_put b list₂ u = record { list = u.list ∙ sym (pieces_first ∙ rw (q, t)); few = u.few; same_length = u.same_length ∙ l }

      pub put_over : (x : TooMany) (list₂ : List ℕ) (r : Result Grown TooMany) → IsErr r
          → Written list₁ (refined_limited (replaced (polygon_in (part m j)) rect inner)) (Err x) list₂
          → Written list₀ (grown_at p (polygons_in m k) place rect c) (grown_count r) list₂
      put_over x list₂ r z u = any_grown r x z (grown_put (Err x) list₂ u)
