-- The line found from the extents of a node's groups is the node's line.
use Prim.Native.Nat.{ℕ, zero, suc, ◌+◌}
use mathlib.Core.Path.{◌≡◌, refl, sym, ap, ◌∙◌}
use mathlib.Core.List.{List, [], ◌∷◌, ◌++◌, map, flat_map, map-append}
use mathlib.Core.Option.{Option, none, some}
use lib.ListN.{take, drop}
use Rattle.geometry.specs.declared.rect.Cell.{Cell}
use Rattle.geometry.specs.declared.rect.Line.{Line}
use Rattle.geometry.specs.declared.rect.Rect.{Rect}
use Rattle.tree.specs.Nodes.{Item, held}
use Rattle.tree.specs.Space.{left, right}
use Rattle.plane.specs.Lines.{CellEntry, Payload, some_payload, entry_of}
use Rattle.plane.specs.Candidates.{extents, best_candidate}
use Rattle.plane.specs.Fanout.{fanout, index_space}
use Rattle.plane.proofs.Candidates.{candidate_line}
use Rattle.memory.specs.Reading.{read_node}
use Rattle.split_line.specs.GroupExtent.{extent_rect_of}
use Rattle.split_line.specs.Extents.{rect_extent, extents_in}
use Rattle.split_line.specs.Groups.{halves_of, groups_in, groups_of, groups_at, NodeLineIs}
use Rattle.split_line.specs.GroupExtents.{GroupExtents}
use Rattle.split_line.proofs.ExtentsLaws.{extent_rects, side_tag}

-- the extents of the groups do not depend on the tag of the new entry
halves_tag : (l : Line) (es : List CellEntry) (c : Cell) (t : Payload) → map extent_rect_of (halves_of l (es ++ (entry_of c t ∷ []))) ≡ map extent_rect_of (halves_of l (es ++ (entry_of c some_payload ∷ [])))
halves_tag l es c t = λ i. side_tag (left l) es c t i ∷ side_tag (right l) es c t i ∷ []

in_tag : (n : ℕ) (bs : List (Item index_space (suc n))) (place : ℕ) (l : Line) (c : Cell) (t : Payload)
    → map extent_rect_of (groups_in n bs place l (entry_of c t)) ≡ map extent_rect_of (groups_in n bs place l (entry_of c some_payload))
in_tag n bs place l c t =
    let es = flat_map (held index_space (suc n)) (take 1 (drop place bs)) in
    let one : (u : Payload) → map extent_rect_of (groups_in n bs place l (entry_of c u)) ≡ map extent_rect_of (map (held index_space (suc n)) (take place bs)) ++ (map extent_rect_of (halves_of l (es ++ (entry_of c u ∷ []))) ++ map extent_rect_of (map (held index_space (suc n)) (drop (place + 1) bs))) =
    λ u. map-append extent_rect_of (map (held index_space (suc n)) (take place bs)) _ ∙ rw (map-append extent_rect_of (halves_of l (es ++ (entry_of c u ∷ []))) (map (held index_space (suc n)) (drop (place + 1) bs))) in
    one t ∙ ap (λ q. map extent_rect_of (map (held index_space (suc n)) (take place bs)) ++ (q ++ map extent_rect_of (map (held index_space (suc n)) (drop (place + 1) bs)))) (halves_tag l es c t) ∙ sym (one 0)

of_tag : (n : ℕ) (o : Option (Item index_space (suc n))) (place : ℕ) (l : Line) (c : Cell) (t : Payload)
    → map extent_rect_of (groups_of n o place l (entry_of c t)) ≡ map extent_rect_of (groups_of n o place l (entry_of c some_payload))
of_tag n none place l c t = refl
of_tag zero (some b) place l c t = refl
of_tag (suc n) (some b) place l c t = in_tag n b.child place l c t

module _ (m : List ℕ) (level lo k place : ℕ) (below : Line) (c : Cell) (l : List Rect) (v : GroupExtents m level lo k place below c l) where
  extent_tag : (t : Payload) → l ≡ map extent_rect_of (groups_at level m lo k place below (entry_of c t))
  unfolding groups_at
  extent_tag t = v.is ∙ sym (of_tag level (read_node fanout level m lo k) place below c t)

  extents_tag : (t : Payload) → extents_in l ≡ extents (groups_at level m lo k place below (entry_of c t))
  unfolding extents_in
  extents_tag t = ap (map rect_extent) (extent_tag t) ∙ sym (extent_rects (groups_at level m lo k place below (entry_of c t)))

  pub node_line_is : (s : List Rect) (r : Line) → s ≡ l → r ≡ best_candidate fanout (extents_in s) → NodeLineIs m level lo k place below c r
  node_line_is s r q e t f =
      e ∙ ap (λ z. best_candidate fanout (extents_in z)) q ∙ ap (best_candidate fanout) (extents_tag t)
      ∙ candidate_line fanout (groups_at level m lo k place below (entry_of c t)) f.some_each f.grid (f.line, f.fits)
