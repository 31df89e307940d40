-- The loops that look for the rectangle of least extra area.
use Prim.Native.Nat.{ℕ, ◌+◌, ◌*◌, ◌≤◌, ◌<◌, min}
use mathlib.Core.Path.{◌≡◌, sym, ap, ◌∙◌}
use mathlib.Core.Bool.{true}
use mathlib.Core.List.{List}
use native.Mathlib.Omega.{arith}
use borrow.Author.Tests.{lt-ltb, le-ltb}
use lib.ListN.{length, drop}
use Rattle.geometry.specs.declared.rect.Cell.{Cell}
use Rattle.geometry.specs.declared.rect.Rect.{Rect}
use Rattle.geometry.specs.Cells.{valid, all_valid}
use Rattle.geometry.specs.Numbers.{rect_at, rects_in}
use Rattle.geometry.proofs.CellLaws.{valid_at}
use Rattle.geometry.proofs.NumberLaws.{length_rects, rects_at, rects_next, rects_end}
use Rattle.area.specs.Bounds.{bounds_of}
use Rattle.area.specs.Lacked.{extra_area}
use Rattle.memory.specs.Layout.{part, polygon_in}
use Rattle.layout.specs.Nodes.{count_at, child_at, GoodPolygonPart}
use Rattle.choose_branch.specs.declared.least.Least.{Least}
use Rattle.choose_branch.specs.Branches.{polygons_in, Branches}
use Rattle.choose_branch.specs.Least.{extra_in, lesser, least_in, least_of, least_from, alone_from, all_cells, start_at, least_all}
use Rattle.choose_branch.proofs.AloneLaws.{from_most}
use Rattle.choose_branch.proofs.ChildParts.{next_polygon, no_polygon}

-- The first i of a branch's n rectangles are compared; b is the bounds of all n.
pub record Comparing (c : Cell) (list : List ℕ) (n branch : ℕ) (b : Rect) (known best : Least) (i : ℕ) : Type 0 where
  pub fits : 4 * n ≤ length list
  pub bounds : b ≡ bounds_of (rects_in list n)
  pub valid : all_valid (rects_in list n) ≡ true
  pub rest : least_of c branch known (rects_in list n) ≡ least_in (extra_in (rects_in list n) c) branch i best (drop i (rects_in list n))

module _ (c : Cell) (list : List ℕ) (n branch : ℕ) (b : Rect) (known : Least) where
  module _ (best : Least) (i : ℕ) (v : Comparing c list n branch b known best i) where
    module _ (h : i < n) where
      pub compared_valid : valid (rect_at list i) ≡ true
      compared_valid =
          let l = length_rects list n in
          let k : i < length (rects_in list n) = omega arith in
          rw (← (rects_at list n i h)) (valid_at (rects_in list n) i v.valid k)

      module _ (x : ℕ) (f : x ≡ min best.extra (extra_area (rects_in list n) (rect_at list i) c)) (best' : Least) where
        next : (x' : Least) → lesser (extra_in (rects_in list n) c) branch i best (rect_at list i) ≡ x' → Comparing c list n branch b known x' (i + 1)
        unfolding least_in
        next x' q = record {
          fits = v.fits;
          bounds = v.bounds;
          valid = v.valid;
          rest = v.rest ∙ ap (least_in (extra_in (rects_in list n) c) branch i best) (rects_next list n i h)
              ∙ ap (λ y. least_in (extra_in (rects_in list n) c) branch (i + 1) y (drop (i + 1) (rects_in list n))) q;
        }

        pub compare_lesser : x < best.extra → best' ≡ record { branch = branch; rect = i; extra = x } → Comparing c list n branch b known best' (i + 1)
        unfolding lesser
        compare_lesser g q =
            let y : extra_area (rects_in list n) (rect_at list i) c ≡ x = omega arith in
            rw q (next _ (rw (y, lt-ltb x best.extra g)))

        pub compare_same : best.extra ≤ x → best' ≡ best → Comparing c list n branch b known best' (i + 1)
        unfolding lesser
        compare_same g q =
            let y : best.extra ≤ extra_area (rects_in list n) (rect_at list i) c = omega arith in
            rw q (next best (rw (le-ltb (extra_area (rects_in list n) (rect_at list i) c) best.extra y)))

    pub compare_end : n ≤ i → best ≡ least_of c branch known (rects_in list n)
    unfolding least_in
    compare_end h = sym (v.rest ∙ rw (rects_end list n i h))

-- The first i of the n children are compared.
pub record ComparingAll (c : Cell) (m : List ℕ) (k n : ℕ) (best : Least) (i : ℕ) : Type 0 where
  pub branches : Branches m k
  pub count : n ≡ count_at m k
  pub rest : least_all c (polygons_in m k) ≡ least_from c i best (drop i (polygons_in m k))

module _ (c : Cell) (m : List ℕ) (k n : ℕ) where
  pub all_start : (top : ℕ) (start : Least) → Branches m k → n ≡ count_at m k → top ≡ alone_from c all_cells (polygons_in m k)
      → start ≡ start_at top → ComparingAll c m k n start 0
  all_start top start v q e f = record {
    branches = v;
    count = q;
    rest = ap (λ y. least_from c 0 y (polygons_in m k)) (sym (f ∙ ap start_at e));
  }

  -- the number that the scan starts from has 64 bits
  pub top_fits : (top : ℕ) → top ≡ alone_from c all_cells (polygons_in m k) → top + 1 < 18446744073709551616
  top_fits top e = let h = from_most c all_cells (polygons_in m k) in omega arith

  module _ (best : Least) (i : ℕ) (v : ComparingAll c m k n best i) where
    module _ (j : ℕ) (h : i < n) (q : j ≡ child_at m k i) where
      pub all_child : GoodPolygonPart m j
      all_child = rw q (v.branches.good i (rw v.count at h))

      pub all_again : (best' : Least) → best' ≡ least_of c i best (polygon_in (part m j)) → ComparingAll c m k n best' (i + 1)
      unfolding least_from
      all_again best' e = record {
        branches = v.branches;
        count = v.count;
        rest = v.rest ∙ ap (least_from c i best) (next_polygon m k v.branches i (rw v.count at h))
            ∙ ap (λ y. least_from c (i + 1) y (drop (i + 1) (polygons_in m k))) (sym (rw q at e));
      }

    pub all_end : n ≤ i → best ≡ least_all c (polygons_in m k)
    unfolding least_from
    all_end h = sym (v.rest ∙ rw (no_polygon m k v.branches i (rw v.count at h)))
