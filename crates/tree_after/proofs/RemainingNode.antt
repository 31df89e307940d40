-- What remains of a node under sides: the polygon of its part, clipped.
use Prim.Native.Nat.{ℕ, ◌≤◌}
use mathlib.Core.Path.{◌≡◌, ap, ◌∙◌}
use mathlib.Core.List.{List}
use lib.ListN.{length}
use Rattle.geometry.specs.declared.rect.Rect.{Rect}
use Rattle.geometry.specs.declared.rect.Side.{Side}
use Rattle.geometry.specs.declared.polygon.Polygon.{Polygon}
use Rattle.geometry.specs.Numbers.{rects_of, PolygonOf}
use Rattle.geometry.proofs.NumberLaws.{length_rects}
use Rattle.tree.specs.Plan.{clips}
use Rattle.plane.specs.Fanout.{index_space}
use Rattle.memory.specs.Layout.{rect_count, rect_numbers, polygon_in}
use Rattle.memory.specs.Image.{node_part}
use Rattle.layout.specs.declared.node.Node.{Node}
use Rattle.layout.specs.Nodes.{NodePart}
use Rattle.layout.specs.Parts.{PartPut}
use Rattle.split_line.specs.Sides.{sides_of}
use Rattle.tree_after.specs.Parts.{remaining_part}

-- a part's polygon, by its rectangles l, is clipped and put
module _ (p : List ℕ) (l : List Rect) (q : l ≡ polygon_in p) where
  pub few_of_part : NodePart p → length l ≤ 16
  few_of_part v = let f = v.few_rects in rw (q, length_rects (rect_numbers p) (rect_count p)) f

  pub remaining_put : (ss : List Side) (whole remaining : Polygon) (w : List ℕ) (next : ℕ) (node : Node) (w₁ : List ℕ) → PolygonOf l whole
      → PolygonOf (clips index_space (sides_of ss) (rects_of whole)) remaining
      → PartPut w next (node_part (rects_of remaining) node.count node.items) w₁
      → PartPut w next (remaining_part ss p node) w₁
  remaining_put ss whole remaining w next node w₁ x y z =
      let e : rects_of remaining ≡ clips index_space (sides_of ss) (polygon_in p) =
      y.list ∙ ap (clips index_space (sides_of ss)) (x.list ∙ q) in
      rw e at z
