-- The tree's plane, made of rectangles.
-- docs/RULES.md 3.4, 4.2
use Rattle.std.specs.Prelude.{List, [], ◌∷◌, map, ◌≡◌, length}
use Rattle.polygons.specs.Lists.{any}
use Rattle.tree.specs.Lists.{not_empty}
use Rattle.tree.specs.Space.{Space}
use Rattle.tree.specs.Root.{Root}
use Rattle.tree.specs.Query.{Window}
use Rattle.tree.specs.Boxes.{Boxes, any_has, GoodPolygon, clip_poly, poly_distance}
use Rattle.tree.specs.Step2.{choose, removed}

-- Polygons are lists of rectangles, and step 2 is document 01's.
abbrev pub space_of : Boxes → Space
space_of B = record {
  Cell = B.Cell;
  Poly = List B.Box;
  Line = B.Line;
  same = B.same;
  Real = B.Real;
  has = any_has B;
  Fine = GoodPolygon B;
  below = B.below;
  clip = clip_poly B;
  choose = choose B;
  removed = removed B;
  leaf_line = B.leaf_line;
  node_line = B.node_line;
  distance = B.distance;
  min_distance = poly_distance B;
  ties = B.ties;
  most = B.most;
}

-- "The root's polygon is one rectangle", and it is that rectangle that grows. cell_box gives the rectangle of one cell
-- alone.
abbrev pub root_of : (B : Boxes) → (B.Cell → B.Box) → Root (space_of B)
root_of B cell_box = record {
  One = λ p. length p ≡ 1;
  leaf_of = λ c. cell_box c ∷ [];
  grow_root = λ p c. map (λ r. B.grow r c) p;
}

-- "A window query takes a rectangle"; a polygon meets it where one of its rectangles has a common part with it.
abbrev pub window_of : (B : Boxes) → Window (space_of B)
window_of B = record {
  W = B.Box;
  inside = B.has;
  meets = λ p w. any (λ r. not_empty (B.common r w)) p;
}
