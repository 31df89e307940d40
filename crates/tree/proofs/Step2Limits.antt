-- Document 01, step 2: "The list refined here may have up to 271 rectangles: 256 pieces and 15 others", and there is always a piece.
use Prim.Native.Nat.{◌≤◌}
use mathlib.Core.Bool.{true, false, or-false}
use mathlib.Core.List.{[], ◌∷◌, ◌++◌}
use mathlib.Core.Option.{some}
use mathlib.Core.Path.{◌≡◌, ap, ◌∙◌}
use lib.ListN.{length, length-append}
use native.Mathlib.Omega.{arith}
use Rattle.polygons.specs.Limits.{at_most, most_of_polygon, most_pieces}
use Rattle.polygons.specs.Lists.{any}
use Rattle.polygons.specs.Rules.{cut_each, commons}
use Rattle.polygons.proofs.LimitLaws.{at_most_is}
use Rattle.tree.specs.Boxes.{Boxes, Poly, any_has}
use Rattle.tree.specs.Search.{Focus}
use Rattle.tree.proofs.BoxLaws.{BoxLaws}
use Rattle.tree.proofs.GrownPolygon.{cut_each_lem, commons_cells, has_some}

module _ (B : Boxes) where
  -- the list that step 2 refines, of a polygon of at most 16 rectangles and at most 256 pieces
  pub refined_few : (k : Focus B.Box) (inner : Poly B) → length (k.before ++ (k.at ∷ k.after)) ≤ most_of_polygon → length inner ≤ most_pieces
      → length (k.before ++ (inner ++ k.after)) ≤ 271
  refined_few k inner h g =
      let a = length-append k.before (k.at ∷ k.after) in
      rw (length-append, length-append) (omega arith)

  -- the pieces are never none, where the cell is in the parent's polygon and in no sibling's
  pub pieces_some : BoxLaws B → (p ss : Poly B) (k : Focus B.Box) (c : B.Cell) (pieces inner : Poly B)
      → cut_each B.cut (B.grow k.at c ∷ []) ss ≡ some pieces → at_most most_pieces (commons B.common pieces p) ≡ some inner
      → any_has B p c ≡ true → any_has B ss c ≡ false → 1 ≤ length inner
  pieces_some W p ss k c pieces inner h g e f =
      let a = at_most_is most_pieces (commons B.common pieces p) inner g in
      let alone : any_has B (B.grow k.at c ∷ []) c ≡ B.has (B.grow k.at c) c = unfold any_has any in or-false (B.has (B.grow k.at c) c) in
      let one : any_has B (B.grow k.at c ∷ []) c ≡ true = alone ∙ W.grow_cell k.at c in
      let b : any_has B pieces c ≡ true = cut_each_lem B W (B.grow k.at c ∷ []) ss pieces c h ∙ rw (one, f) in
      has_some B W inner c (ap (λ (l : Poly B). any_has B l c) a ∙ commons_cells B W pieces p c ∙ rw (b, e))
