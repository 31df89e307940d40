-- A polygon with pieces in place of one rectangle, refined: the ways out of the functions that write it.
use Prim.Native.Nat.{ℕ, ◌≤◌, ◌<◌}
use mathlib.Core.Path.{◌≡◌, sym, ap, ◌∙◌}
use mathlib.Core.List.{List}
use mathlib.Core.Option.{some}
use native.Mathlib.Omega.{arith}
use Rattle.std.proofs.Common.{Ok, Err}
use lib.ListN.{length}
use Rattle.polygons.proofs.LimitLaws.{at_most_some, at_most_none}
use Rattle.geometry.specs.declared.rect.Rect.{Rect}
use Rattle.geometry.specs.declared.cut.TooMany.{TooMany}
use Rattle.geometry.specs.Numbers.{rects_in, counted, Appended, Written}
use Rattle.geometry.specs.Refine.{refine}
use Rattle.geometry.proofs.NumberLaws.{length_rects}
use Rattle.refinement.specs.Changes.{Refined}
use Rattle.choose_branch.specs.Pieces.{refined_limited}

-- refined, and at most 16 or refused
module _ (l : List Rect) (k : ℕ) (m m₁ m₂ : List ℕ) (all left : ℕ) (u : Appended m 0 l k m₁ all) (v : Refined m₁ all m₂ left) where
  refined_is : rects_in m₂ left ≡ refine l
  unfolding rects_in
  refined_is = v.list ∙ ap refine u.list

  refined_count : length (refine l) ≡ left
  refined_count = ap length (sym refined_is) ∙ length_rects m₂ left

  pub refined_over : (x : TooMany) → 16 < left → Written m (refined_limited l) (Err x) m₂
  unfolding counted refined_limited
  refined_over x h =
      let c = refined_count in
      let g : 16 < length (refine l) = omega arith in
      record { list = sym (at_most_none 16 (refine l) g); few = tt; same_length = v.same_length ∙ u.same_length }

  pub refined_fits : left ≤ 16 → Written m (refined_limited l) (Ok left) m₂
  unfolding counted refined_limited
  refined_fits h =
      let c = refined_count in
      let g : length (refine l) ≤ 16 = omega arith in
      record { list = ap some refined_is ∙ sym (at_most_some 16 (refine l) g); few = omega arith; same_length = v.same_length ∙ u.same_length }
