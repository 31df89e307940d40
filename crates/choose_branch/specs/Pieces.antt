-- Document 01, 'Insertion', step 2: 'Grow it; cut the grown one by every sibling's polygon in order; replace each
-- piece ..; refine.'
use Rattle.std.specs.Prelude.{ℕ, ◌+◌, take, drop, get_or}
use mathlib.Core.List.{List, [], ◌∷◌, ◌++◌, flat_map}
use Rattle.std.proofs.Math.Option.{Option, bind}
use Rattle.polygons.specs.Limits.{at_most, most_of_polygon}
use Rattle.geometry.specs.declared.rect.Cell.{Cell}
use Rattle.geometry.specs.declared.rect.Rect.{Rect}
use Rattle.geometry.specs.Cells.{no_rect}
use Rattle.geometry.specs.Cut.{cut_limited, common_limited}
use Rattle.geometry.specs.Grow.{grown}
use Rattle.geometry.specs.Refine.{refine}
use Rattle.tree.specs.Search.{Focus}
use Rattle.tree.specs.Step2.{grown_poly}
use Rattle.plane.specs.Plane.{plane}
use Rattle.plane.specs.Fanout.{fanout}

-- the rectangles of some polygons, in order
unfoldable pub rects_all : List (List Rect) → List Rect
rects_all ps = flat_map (λ q. q) ps

-- those of every polygon but the one at a place: 'every sibling's polygon in order'
unfoldable pub siblings : List (List Rect) → ℕ → List Rect
siblings ps place = rects_all (take place ps ++ drop (place + 1) ps)

-- the grown rectangle g cut by the siblings, and the common parts of the pieces with the parent's polygon p
unfoldable pub inner_pieces : List Rect → List Rect → Rect → Option (List Rect)
inner_pieces p ss g = bind (cut_limited (g ∷ []) ss) (λ l. common_limited l p)

-- 'put the pieces where the chosen rectangle stood': the k-th of a list
unfoldable pub replaced : List Rect → ℕ → List Rect → List Rect
replaced l k pieces = take k l ++ (pieces ++ drop (k + 1) l)

-- 'refine', and 'the refined polygon over 16'
unfoldable pub refined_limited : List Rect → Option (List Rect)
refined_limited l = at_most most_of_polygon (refine l)

-- the k-th rectangle of a list, with what stands before and after it
abbrev pub focus_at : List Rect → ℕ → Focus Rect
focus_at l k = record { before = take k l; at = get_or l k no_rect; after = drop (k + 1) l }

-- the k-th rectangle of the branch at a place, grown to the cell
abbrev pub grown_rect : List (List Rect) → ℕ → ℕ → Cell → Rect
grown_rect ps place k c = grown (get_or (get_or ps place []) k no_rect) c

-- the polygon of the branch at a place, its k-th rectangle grown to the cell; none: refusal 7
unfoldable pub grown_at : List Rect → List (List Rect) → ℕ → ℕ → Cell → Option (List Rect)
grown_at p ps place k c = grown_poly (plane fanout) p (siblings ps place) (focus_at (get_or ps place []) k) c
