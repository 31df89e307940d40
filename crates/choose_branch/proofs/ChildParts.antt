-- What the code reads of a node's children: their parts, their polygons, and the list of these.
use Prim.Native.Nat.{ℕ, ◌+◌, ◌≤◌, ◌<◌}
use mathlib.Core.Path.{◌≡◌, sym, ap, ◌∙◌}
use mathlib.Core.List.{List, [], ◌∷◌}
use native.Mathlib.Omega.{arith}
use native.Mathlib.Numerals.{add-one}
use lib.ListN.{length, drop, get_or, drop_of_length-le, get_or-map, length-map}
use lib.Seq.{drop-cons, get_or-drop}
use Rattle.geometry.specs.declared.rect.Rect.{Rect}
use Rattle.geometry.proofs.NumberLaws.{length_rects}
use Rattle.memory.specs.Layout.{part, polygon_in, children_in}
use Rattle.layout.specs.Nodes.{count_at, child_at, PolygonPart}
use Rattle.layout.proofs.NodeLaws.{child_in_lem}
use Rattle.choose_branch.specs.Branches.{polygons_in, Branches}

-- the rectangles of a node's polygon are few enough
pub rects_few : (m : List ℕ) (k : ℕ) (r : List Rect) → PolygonPart m k → r ≡ polygon_in (part m k) → length r ≤ 16
rects_few m k r v e = rw (e, length_rects) v.few_rects

module _ (m : List ℕ) (k : ℕ) (v : Branches m k) where
  module _ (i : ℕ) (h : i < count_at m k) where
    -- the polygons from the i-th on
    pub next_polygon : drop i (polygons_in m k) ≡ polygon_in (part m (child_at m k i)) ∷ drop (i + 1) (polygons_in m k)
    unfolding polygons_in
    next_polygon =
        let c = v.count in
        let at : get_or (polygons_in m k) i (polygon_in (part m 0)) ≡ polygon_in (part m (child_at m k i)) =
        get_or-map (λ j. polygon_in (part m j)) (children_in (part m k)) i 0 ∙ ap (λ j. polygon_in (part m j)) (child_in_lem (part m k) i h) in
        let s : i < length (polygons_in m k) = omega arith in
        drop-cons (polygons_in m k) i (polygon_in (part m 0)) s ∙ rw (at, add-one)

  -- the i-th child j
  module _ (i j : ℕ) (h : i < count_at m k) (q : j ≡ child_at m k i) where
    pub child_polygon : PolygonPart m j
    child_polygon = rw q (v.good i h).polygon

    pub polygon_there : get_or (polygons_in m k) i [] ≡ polygon_in (part m j)
    polygon_there =
        let e : i + 0 ≡ i = omega arith in
        ap (λ x. get_or (polygons_in m k) x []) (sym e) ∙ sym (get_or-drop i (polygons_in m k) 0 []) ∙ ap (λ l. get_or l 0 []) (next_polygon i h)
        ∙ ap (λ x. polygon_in (part m x)) (sym q)

  pub no_polygon : (i : ℕ) → count_at m k ≤ i → drop i (polygons_in m k) ≡ []
  no_polygon i h =
      let c = v.count in
      let s : length (polygons_in m k) ≤ i = omega arith in
      drop_of_length-le (polygons_in m k) s

-- the children ks of the node, as they are lent
module _ (m : List ℕ) (k : ℕ) (v : Branches m k) (ks : List ℕ) (q : ks ≡ children_in (part m k)) where
  pub children_here : length ks ≡ count_at m k
  unfolding polygons_in
  children_here =
      let c = v.count in
      let l : length (polygons_in m k) ≡ length ks = simp length-map (ap length (sym q)) in
      omega arith

  module _ (i : ℕ) (h : i < length ks) where
    pub child_here : get_or ks i 0 ≡ child_at m k i
    child_here =
        let c = children_here in
        ap (λ l. get_or l i 0) q ∙ child_in_lem (part m k) i (omega arith)

    pub polygon_here : PolygonPart m (get_or ks i 0)
    polygon_here = let c = children_here in rw child_here (v.good i (omega arith)).polygon
