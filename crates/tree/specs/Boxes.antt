-- The rectangle rules as the tree uses them, and polygons as lists of rectangles.
-- docs/RULES.md 2.6, 2.10, 3.7, 4.4, 4.15, 5.14
use Rattle.std.specs.Prelude.{ℕ, ◌≤◌, Bool, true, List, ◌≡◌, length}
use Rattle.polygons.specs.Limits.{most_of_polygon}
use Rattle.polygons.specs.Rules.{union_has, extra_area_by, clip_refine, least_distance}
use Rattle.tree.specs.Lists.{All}
use Rattle.tree.specs.Space.{Side, Entry}

-- Rectangles (boxes, for any number of dimensions) with their rules, the lines of splits, and the fanout.
pub record Boxes : Type 1 where
  pub Cell : Type 0
  pub Box : Type 0
  pub Line : Type 0
  -- the two cells are one
  pub same : Cell → Cell → Bool
  -- the cell is on the grid
  pub Real : Cell → Type 0
  -- the rectangle contains the cell
  pub has : Box → Cell → Bool
  -- ll < ur in each dimension, and ur is at most 65536
  pub valid : Box → Bool
  -- the cell is left of the line
  pub below : Line → Cell → Bool
  -- the part on one side of the line; no rectangle where that is empty
  pub clip : Side Line → Box → List Box
  -- "Common part"; no rectangle where it is empty
  pub common : Box → Box → List Box
  -- "Grow"
  pub grow : Box → Cell → Box
  -- how many cells of the grid pass a test
  pub count : (Cell → Bool) → ℕ
  -- "Cut"
  pub cut : Box → Box → List Box
  -- "Refine"
  pub refine : List Box → List Box
  -- the lines of a leaf, of a routing node by the entries of its branches
  pub leaf_line : List (Entry Cell) → Line
  pub node_line : List (List (Entry Cell)) → Line
  -- the squared distance of two cells, and the least from a cell to a cell of a rectangle
  pub distance : Cell → Cell → ℕ
  pub min_distance : Cell → Box → ℕ
  -- the numbers that decide between equally distant entries
  pub ties : Entry Cell → List ℕ
  -- the fanout, 8 in document 01
  pub most : ℕ

module _ (B : Boxes) where
  -- "A polygon is a list of .. rectangles"
  abbrev pub Poly : Type 0
  Poly = List B.Box

  -- "its cells are their union"
  unfoldable pub any_has : Poly → B.Cell → Bool
  any_has p c = union_has B.has p c

  -- "1 to 16 rectangles", "A rectangle has ll < ur in both dimensions"
  pub record GoodPolygon (p : Poly) : Type 0 where
    pub lower : 1 ≤ length p
    pub upper : length p ≤ most_of_polygon
    pub valid : All (λ r. B.valid r ≡ true) p

  -- "extra area is the number of cells of the grown rectangle that the whole polygon lacks": of a polygon, one of its
  -- rectangles, and the cell that the rectangle grows to
  unfoldable pub extra : Poly → B.Box → B.Cell → ℕ
  extra p r c = extra_area_by B.count B.has B.grow p r c

  -- "Splitting clips the polygon's rectangles to each side, in order, and refines them."
  abbrev pub clip_poly : Side B.Line → Poly → Poly
  clip_poly s p = clip_refine (B.clip s) B.refine p

  -- "the least squared distance from the cell to a cell of the child's polygon"
  abbrev pub poly_distance : B.Cell → Poly → ℕ
  poly_distance c p = least_distance B.min_distance c p
