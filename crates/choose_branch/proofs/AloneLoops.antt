-- The loops that look for the least extra area of a rectangle alone.
use Prim.Native.Nat.{ℕ, ◌+◌, ◌≤◌, ◌<◌, min}
use mathlib.Core.Path.{◌≡◌, refl, sym, ap, ◌∙◌}
use mathlib.Core.Bool.{true}
use mathlib.Core.List.{List, [], ◌∷◌}
use lib.ListN.{drop}
use Rattle.polygons.proofs.Booleans.{split_and}
use Rattle.geometry.specs.declared.rect.Cell.{Cell}
use Rattle.geometry.specs.declared.rect.Rect.{Rect}
use Rattle.geometry.specs.Cells.{valid, all_valid}
use Rattle.area.specs.Lacked.{extra_area}
use Rattle.memory.specs.Layout.{part, polygon_in}
use Rattle.layout.specs.Nodes.{count_at, child_at, PolygonPart, GoodPolygonPart}
use Rattle.choose_branch.specs.Branches.{polygons_in, Branches}
use Rattle.choose_branch.specs.Least.{alone_in, alone_from, all_cells}
use Rattle.choose_branch.proofs.ChildParts.{next_polygon, no_polygon}

-- a rectangle r that comes first, and the others
module _ (l others : List Rect) (r : Rect) (e : l ≡ r ∷ others) where
  pub first_valid : all_valid l ≡ true → valid r ≡ true
  unfolding all_valid
  first_valid h = (split_and (valid r) (all_valid others) (rw e at h)).0

  pub others_valid : all_valid l ≡ true → all_valid others ≡ true
  unfolding all_valid
  others_valid h = (split_and (valid r) (all_valid others) (rw e at h)).1

  pub alone_next : (c : Cell) (t x t' : ℕ) → x ≡ extra_area (r ∷ []) r c → t' ≡ min t x → alone_in c t l ≡ alone_in c t' others
  unfolding alone_in
  alone_next c t x t' f g = rw (e, g, f)

pub alone_end : (c : Cell) (t : ℕ) (l : List Rect) → l ≡ [] → alone_in c t l ≡ t
unfolding alone_in
alone_end c t l e = rw e

-- The first i of the n children are compared.
pub record AloneAll (c : Cell) (m : List ℕ) (k n t i : ℕ) : Type 0 where
  pub branches : Branches m k
  pub count : n ≡ count_at m k
  pub rest : alone_from c all_cells (polygons_in m k) ≡ alone_from c t (drop i (polygons_in m k))

module _ (c : Cell) (m : List ℕ) (k n : ℕ) where
  pub every_start : Branches m k → n ≡ count_at m k → AloneAll c m k n all_cells 0
  every_start v q = record { branches = v; count = q; rest = refl }

  module _ (t i : ℕ) (v : AloneAll c m k n t i) where
    module _ (j : ℕ) (h : i < n) (q : j ≡ child_at m k i) where
      every_child : GoodPolygonPart m j
      every_child = rw q (v.branches.good i (rw v.count at h))

      pub every_polygon : PolygonPart m j
      every_polygon = every_child.polygon

      pub every_valid : (l : List Rect) → l ≡ polygon_in (part m j) → all_valid l ≡ true
      every_valid l f = rw f every_child.valid

      pub every_again : (t' : ℕ) (l : List Rect) → l ≡ polygon_in (part m j) → t' ≡ alone_in c t l → AloneAll c m k n t' (i + 1)
      unfolding alone_from
      every_again t' l f g = let e : t' ≡ alone_in c t (polygon_in (part m j)) = g ∙ ap (alone_in c t) f in record {
        branches = v.branches;
        count = v.count;
        rest = v.rest ∙ ap (alone_from c t) (next_polygon m k v.branches i (rw v.count at h))
            ∙ ap (λ y. alone_from c y (drop (i + 1) (polygons_in m k))) (sym (rw q at e));
      }

    pub every_end : n ≤ i → t ≡ alone_from c all_cells (polygons_in m k)
    unfolding alone_from
    every_end h = sym (v.rest ∙ rw (no_polygon m k v.branches i (rw v.count at h)))
