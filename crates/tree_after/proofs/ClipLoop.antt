-- The loop that clips a polygon to one side after another.
use Prim.Native.Nat.{ℕ, ◌+◌, ◌≤◌, ◌<◌}
use mathlib.Core.Path.{◌≡◌, refl, sym, ap, ◌∙◌}
use mathlib.Core.List.{List, ◌∷◌}
use native.Mathlib.Omega.{arith}
use native.Mathlib.Numerals.{add-one}
use lib.ListN.{length, drop, get_or, drop_of_length-le}
use lib.Seq.{drop-cons}
use Rattle.geometry.specs.declared.rect.Rect.{Rect}
use Rattle.geometry.specs.declared.rect.Side.{Side}
use Rattle.geometry.specs.declared.rect.Side.TheVariants.{Left, Right}
use Rattle.geometry.specs.declared.polygon.Polygon.{Polygon}
use Rattle.geometry.specs.Clip.{clip}
use Rattle.geometry.specs.Numbers.{rects_of, PolygonOf}
use Rattle.geometry.specs.Refine.{refine}
use Rattle.tree.specs.Plan.{clips}
use Rattle.plane.specs.Plane.{rect_side}
use Rattle.plane.specs.Fanout.{index_space}
use Rattle.split_line.specs.Sides.{side_of, sides_of}

-- Before the i-th side: q, clipped to the sides that remain, gives the whole.
pub record AtClip (ss : List Side) (p : List Rect) (q : Polygon) (i : ℕ) : Type 0 where
  pub i_le : i ≤ length ss
  pub rest : clips index_space (sides_of (drop i ss)) (rects_of q) ≡ clips index_space (sides_of ss) p

pub clip_start : (ss : List Side) (p : Polygon) → AtClip ss (rects_of p) p 0
clip_start ss p = record { i_le = omega arith; rest = refl }

-- the geometry's side again
side_again : (s : Side) → rect_side (side_of s) ≡ s
unfolding side_of
side_again (Left l) = refl
side_again (Right l) = refl

module _ (ss : List Side) (p : List Rect) (q : Polygon) (i : ℕ) (a : AtClip ss p q i) where
  pub clip_again : (d : Side) (q₁ q₂ : Polygon) → i < length ss
      → PolygonOf (clip (get_or ss i d) (rects_of q)) q₁ → PolygonOf (refine (rects_of q₁)) q₂ → AtClip ss p q₂ (i + 1)
  unfolding clips sides_of clip
  clip_again d q₁ q₂ h x y =
      let r : drop i ss ≡ get_or ss i d ∷ drop (i + 1) ss = drop-cons ss i d h ∙ rw add-one in
      record {
        i_le = omega arith;
        rest =
            ap (clips index_space (sides_of (drop (i + 1) ss)))
            (y.list ∙ ap refine (x.list ∙ ap (λ (t : Side). clip t (rects_of q)) (sym (side_again (get_or ss i d)))))
            ∙ sym (ap (λ (l : List Side). clips index_space (sides_of l) (rects_of q)) r) ∙ a.rest;
      }

  pub clip_end : length ss ≤ i → PolygonOf (clips index_space (sides_of ss) p) q
  unfolding clips sides_of
  clip_end h = record { list = rw (drop_of_length-le ss h) at a.rest; fits = q.few }
