-- The children of a routing node in a memory, and the child whose polygon has a cell.
-- docs/RULES.md 5.17
use Rattle.std.specs.Prelude.{ℕ, ◌≤◌, ◌<◌, true, false, List, ◌≡◌, Option, Some, None}
use Rattle.geometry.specs.declared.rect.Cell.{Cell}
use Rattle.memory.specs.Layout.{part, polygon_in, children_in}
use Rattle.memory.proofs.ReadingLaws.{low_at}
use Rattle.layout.specs.Nodes.{count_at, child_at, PartIn, PolygonPart}
use Rattle.walks.specs.declared.child.Child.{Child}
use Rattle.walks.specs.Walks.{has_test}

-- The node at part k has children in lower parts, whose polygons can be read. A routing node has this (the law
-- children_of).
pub record Children (m : List ℕ) (k : ℕ) : Type 0 where
  pub below : k < 256
  pub ends : PartIn m k
  pub few : count_at m k ≤ 8
  pub lower : (i : ℕ) → i < count_at m k → child_at m k i < k
  pub each : (i : ℕ) → i < count_at m k → PolygonPart m (child_at m k i)

-- The i-th child of the node at part k has a polygon with the cell.
pub record ChildHas (m : List ℕ) (k : ℕ) (c : Cell) (i : ℕ) : Type 0 where
  pub inside : i < count_at m k
  pub has : has_test c (polygon_in (part m (child_at m k i))) ≡ true

-- No child of the node at part k before the i-th has a polygon with the cell.
abbrev pub NoneBefore : List ℕ → ℕ → Cell → ℕ → Type 0
NoneBefore m k c i = (j : ℕ) → j < i → has_test c (polygon_in (part m (child_at m k j))) ≡ false

-- The i-th child of the node at part k, at part j, is the first that has the cell; its subtree has the parts from low
-- on, that of the node those from lo on.
pub record FirstChild (m : List ℕ) (lo k : ℕ) (c : Cell) (i low j : ℕ) : Type 0 where
  pub place : ChildHas m k c i
  pub first : NoneBefore m k c i
  pub low_is : low ≡ low_at lo (children_in (part m k)) i
  pub part_is : j ≡ child_at m k i

-- what was found among the children of the node at part k
abbrev pub ChildIs : List ℕ → ℕ → ℕ → Cell → Option Child → Type 0
ChildIs m lo k c (Some b) = FirstChild m lo k c b.at b.low b.part
ChildIs m lo k c None = NoneBefore m k c (count_at m k)
