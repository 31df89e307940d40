-- Extents of entries as rectangles: valid, whatever the tags.
use Prim.Native.Nat.{ℕ, ◌+◌, ◌-◌, ◌≤◌}
use mathlib.Core.Path.{◌≡◌, refl, sym, ap, ◌∙◌, fun_ext}
use mathlib.Core.Bool.{Bool, true, false, cond, and-true}
use Rattle.std.specs.Prelude.{Option, Some}
use mathlib.Core.List.{List, [], ◌∷◌, ◌++◌, map, append-nil}
use native.Mathlib.Omega.{arith}
use Rattle.polygons.specs.Lists.{least}
use Rattle.geometry.specs.declared.rect.Cell.{Cell}
use Rattle.geometry.specs.declared.rect.Line.{Line}
use Rattle.geometry.specs.declared.rect.Rect.{Rect}
use Rattle.geometry.specs.declared.rect.Side.{Side as RectSide}
use Rattle.geometry.specs.Cells.{on_grid, valid}
use Rattle.geometry.proofs.CellLaws.{grid_of, of_valid}
use Rattle.tree.specs.Lists.{All, keep}
use Rattle.tree.specs.Space.{Side}
use Rattle.tree.specs.Nodes.{on, entry_on}
use Rattle.tree.specs.Pass.{on_all}
use Rattle.tree.proofs.Lists.{all_map, keep_append}
use Rattle.plane.specs.Best.{greatest}
use Rattle.plane.specs.Lines.{CellEntry, x_of, y_of, Payload, some_payload, entry_of, OnGrid}
use Rattle.plane.specs.Candidates.{extent_of, extents}
use Rattle.plane.specs.Fanout.{index_space}
use Rattle.plane.proofs.Kept.{keep_all}
use Rattle.walks.specs.Count.{entries_at}
use Rattle.split_line.specs.Sides.{side_of, sides_of, on_side, on_every, on_test}
use Rattle.split_line.specs.GroupExtent.{extent_rect, extent_rect_of, group_extent, extent_add, rect_or_first, kept_under, NodeExtent}
use Rattle.split_line.specs.Extents.{rect_extent}
use Rattle.split_line.specs.GroupExtents.{GridNode, side_extent}
use Rattle.split_line.proofs.SideLaws.{keep_every}
use Rattle.split_line.proofs.GroupExtentLaws.{group_more, rect_of_group}

-- the extents of entries on the grid are valid
least_greatest : (f : CellEntry → ℕ) (es : List CellEntry) → least f es ≤ greatest f es
unfolding least greatest
least_greatest f [] = omega arith
least_greatest f (a ∷ []) = omega arith
least_greatest f (a ∷ b ∷ es) = omega arith

greatest_most : (f : CellEntry → ℕ) (k : ℕ) (es : List CellEntry) → All (λ e. f e ≤ k) es → greatest f es ≤ k
unfolding greatest All
greatest_most f k [] h = omega arith
greatest_most f k (a ∷ []) h = h.0
greatest_most f k (a ∷ b ∷ es) h = let i = greatest_most f k (b ∷ es) h.1 in let j = h.0 in omega arith

pub extent_valid : (es : List CellEntry) → OnGrid es → valid (extent_rect_of es) ≡ true
unfolding extent_rect_of extent_rect extent_of
extent_valid es g =
    let a = least_greatest x_of es in
    let b = least_greatest y_of es in
    let c = greatest_most x_of 65535 es (all_map _ _ es (λ e h. (grid_of e.cell h).x_most) g) in
    let d = greatest_most y_of 65535 es (all_map _ _ es (λ e h. (grid_of e.cell h).y_most) g) in
    of_valid _ (record { wide = omega arith; high = omega arith; x_most = omega arith; y_most = omega arith })

-- and have their extent
extent_rect_lem : (es : List CellEntry) → extent_of es ≡ rect_extent (extent_rect_of es)
unfolding rect_extent extent_rect_of extent_rect extent_of
extent_rect_lem es =
    let a : greatest x_of es ≡ greatest x_of es + 1 - 1 = omega arith in
    let b : greatest y_of es ≡ greatest y_of es + 1 - 1 = omega arith in
    λ i. record { min_x = least x_of es; max_x = a i; min_y = least y_of es; max_y = b i }

pub extent_rects : (gs : List (List CellEntry)) → extents gs ≡ map rect_extent (map extent_rect_of gs)
extent_rects [] = refl
extent_rects (g ∷ gs) = λ i. extent_rect_lem g i ∷ extent_rects gs i

-- the entries on one side, and all entries
on_one : (side : RectSide) (e : CellEntry) → on_test (side ∷ []) e ≡ entry_on index_space (side_of side) e
unfolding on_test on_every on_all sides_of
on_one side e = and-true (on index_space (side_of side) e.cell)

kept_one : (side : RectSide) (n : ℕ) (m : List ℕ) (lo k : ℕ) → kept_under (side ∷ []) n m lo k ≡ keep (entry_on index_space (side_of side)) (entries_at n m lo k)
unfolding kept_under
kept_one side n m lo k = ap (λ t. keep t (entries_at n m lo k)) (fun_ext (on_one side))

kept_none : (n : ℕ) (m : List ℕ) (lo k : ℕ) → kept_under [] n m lo k ≡ entries_at n m lo k
unfolding kept_under
kept_none n m lo k = keep_every (entries_at n m lo k)

pub grid_kept : (t : CellEntry → Bool) (es : List CellEntry) → OnGrid es → OnGrid (keep t es)
grid_kept t es g = keep_all t (λ e. on_grid e.cell ≡ true) es (all_map (λ e. on_grid e.cell ≡ true) (λ e. t e ≡ true → on_grid e.cell ≡ true) es (λ e h k. h) g)

-- one entry more on a side; its tag does not matter
keep_one : (s : Side Line) (es : List CellEntry) (e : CellEntry) → keep (entry_on index_space s) (es ++ (e ∷ [])) ≡ keep (entry_on index_space s) es ++ cond (on index_space s e.cell) (e ∷ []) []
unfolding keep
keep_one s es e = keep_append (entry_on index_space s) es (e ∷ [])

rect_is : (es fs : List CellEntry) → group_extent es ≡ group_extent fs → extent_rect_of es ≡ extent_rect_of fs
rect_is es fs e = sym (rect_of_group es) ∙ ap rect_or_first e ∙ rect_of_group fs

module _ (s : Side Line) (es : List CellEntry) (c : Cell) where
  pub side_tag : (t : Payload) → extent_rect_of (keep (entry_on index_space s) (es ++ (entry_of c t ∷ []))) ≡ extent_rect_of (keep (entry_on index_space s) (es ++ (entry_of c some_payload ∷ [])))
  side_tag t = rw (keep_one s es (entry_of c t), keep_one s es (entry_of c some_payload)) (go (on index_space s c))
    where
      go : (b : Bool) → extent_rect_of (keep (entry_on index_space s) es ++ cond b (entry_of c t ∷ []) []) ≡ extent_rect_of (keep (entry_on index_space s) es ++ cond b (entry_of c some_payload ∷ []) [])
      go true =
          let g = keep (entry_on index_space s) es in
          rect_is (g ++ (entry_of c t ∷ [])) (g ++ (entry_of c some_payload ∷ [])) (sym (group_more g (entry_of c t)) ∙ group_more g (entry_of c some_payload))
      go false = refl

module _ (n : ℕ) (m : List ℕ) (lo k : ℕ) where
  pub node_extent : (ss : List RectSide) → GridNode n m lo k → NodeExtent n m lo k ss
  unfolding kept_under
  node_extent ss v = record { walk = v.walk; grid = grid_kept (on_test ss) (entries_at n m lo k) v.grid }

  pub whole_is : (r : Option Rect) (q : Rect) → r ≡ group_extent (kept_under [] n m lo k) → q ≡ rect_or_first r → q ≡ extent_rect_of (entries_at n m lo k)
  whole_is r q e f = f ∙ ap rect_or_first e ∙ rect_of_group (kept_under [] n m lo k) ∙ ap extent_rect_of (kept_none n m lo k)

  module _ (side : RectSide) (c : Cell) (r : Option Rect) (e : r ≡ group_extent (kept_under (side ∷ []) n m lo k)) (b : Bool) (f : b ≡ on_side side c) where
    kept : r ≡ group_extent (keep (entry_on index_space (side_of side)) (entries_at n m lo k))
    kept = e ∙ ap group_extent (kept_one side n m lo k)

    tested : b ≡ on index_space (side_of side) c
    unfolding on_side
    tested = f

    pub side_hit : (r' : Rect) → b ≡ true → r' ≡ extent_add r c → r' ≡ side_extent n m lo k (side_of side) c
    unfolding side_extent rect_or_first
    side_hit r' h g =
        let es = keep (entry_on index_space (side_of side)) (entries_at n m lo k) ++ (entry_of c some_payload ∷ []) in
        let q = ap Some (g ∙ ap (λ x. extent_add x c) kept) ∙ group_more (keep (entry_on index_space (side_of side)) (entries_at n m lo k)) (entry_of c some_payload) in
        ap rect_or_first q ∙ rect_of_group es ∙ ap extent_rect_of (sym (keep_one (side_of side) (entries_at n m lo k) (entry_of c some_payload) ∙ rw (← tested, h)))

    pub side_miss : (r' : Rect) → b ≡ false → r' ≡ rect_or_first r → r' ≡ side_extent n m lo k (side_of side) c
    unfolding side_extent
    side_miss r' h j =
        j ∙ ap rect_or_first kept ∙ rect_of_group (keep (entry_on index_space (side_of side)) (entries_at n m lo k))
        ∙ ap extent_rect_of (sym (keep_one (side_of side) (entries_at n m lo k) (entry_of c some_payload) ∙ rw (← tested, h, append-nil)))
