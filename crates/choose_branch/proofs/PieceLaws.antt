-- The tree's step 2 over rectangles, by the geometry's limited cut and common parts.
use Prim.Native.Nat.{ℕ, ◌+◌, ◌≤◌}
use mathlib.Core.Path.{◌≡◌, refl, sym, ◌∙◌}
use mathlib.Core.List.{List, [], ◌∷◌, ◌++◌}
use mathlib.Core.Option.{Option, none, some, bind}
use lib.ListN.{length, take, drop, get_or}
use Rattle.polygons.specs.Limits.{most_of_polygon, most_pieces, at_most}
use Rattle.polygons.specs.Rules.{commons}
use Rattle.polygons.proofs.LimitLaws.{at_most_length}
use Rattle.geometry.specs.declared.rect.Cell.{Cell}
use Rattle.geometry.specs.declared.rect.Rect.{Rect}
use Rattle.geometry.specs.Cells.{no_rect}
use Rattle.geometry.specs.Common.{common, common_parts}
use Rattle.geometry.specs.Cut.{cut_limited, common_limited}
use Rattle.geometry.specs.Grow.{grown}
use Rattle.geometry.specs.Refine.{refine}
use Rattle.tree.specs.Step2.{grown_poly}
use Rattle.tree.proofs.Any.{bind_some}
use Rattle.choose_branch.specs.Pieces.{siblings, inner_pieces, replaced, refined_limited, grown_at}

-- the common parts of the pieces, put in place of the k-th rectangle and refined
inner_refined : (p q : List Rect) (k : ℕ) (o : Option (List Rect))
    → bind o (λ l. bind (at_most most_pieces (commons common l p)) λ inner. at_most most_of_polygon (refine (take k q ++ (inner ++ drop (k + 1) q))))
    ≡ bind (bind o (λ l. common_limited l p)) (λ inner. refined_limited (replaced q k inner))
unfolding bind common_limited common_parts replaced refined_limited
inner_refined p q k none = refl
inner_refined p q k (some l) = refl

-- the grown polygon: its inner pieces in place of the old rectangle, refined
pub grown_at_lem : (p : List Rect) (ps : List (List Rect)) (place k : ℕ) (c : Cell)
    → grown_at p ps place k c
    ≡ bind (inner_pieces p (siblings ps place) (grown (get_or (get_or ps place []) k no_rect) c)) (λ inner. refined_limited (replaced (get_or ps place []) k inner))
unfolding grown_at grown_poly inner_pieces
grown_at_lem p ps place k c =
    inner_refined p (get_or ps place []) k (cut_limited (grown (get_or (get_or ps place []) k no_rect) c ∷ []) (siblings ps place))

-- a grown polygon is at most 16 rectangles long
pub grown_few : (p : List Rect) (ps : List (List Rect)) (place k : ℕ) (c : Cell) (q : List Rect) → grown_at p ps place k c ≡ some q → length q ≤ 16
unfolding refined_limited
grown_few p ps place k c q e =
    let x = bind_some (inner_pieces p (siblings ps place) (grown (get_or (get_or ps place []) k no_rect) c)) _ q (sym (grown_at_lem p ps place k c) ∙ e) in
    at_most_length 16 (refine (replaced (get_or ps place []) k x.0)) q x.2
