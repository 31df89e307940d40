-- What step 2 reads of a routing node's part and of its children's parts.
use Rattle.std.specs.Prelude.{ℕ, ◌≤◌, ◌<◌, List, map, ◌≡◌, length}
use Rattle.geometry.specs.declared.rect.Rect.{Rect}
use Rattle.memory.specs.Layout.{parts_of, part, polygon_in, children_in}
use Rattle.layout.specs.Nodes.{count_at, child_at, GoodPolygonPart}

-- the polygons of the nodes at some parts, in order
abbrev pub polygons_at : List ℕ → List ℕ → List (List Rect)
polygons_at m ks = map (λ j. polygon_in (part m j)) ks

-- the polygons of the children of the node at part k, in order
unfoldable pub polygons_in : List ℕ → ℕ → List (List Rect)
polygons_in m k = polygons_at m (children_in (part m k))

-- Part k has children, and each has a good polygon. A routing node has this (the law branches_of).
pub record Branches (m : List ℕ) (k : ℕ) : Type 0 where
  pub below : k < parts_of m
  pub some : 1 ≤ count_at m k
  pub few : count_at m k ≤ 8
  pub count : length (polygons_in m k) ≡ count_at m k
  pub good : (i : ℕ) → i < count_at m k → GoodPolygonPart m (child_at m k i)
