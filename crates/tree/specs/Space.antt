-- Cells, polygons and lines as the tree sees them; entries and branches.
-- docs/RULES.md 3.1, 3.2
use Rattle.std.specs.Prelude.{ℕ, Bool, List}
use Rattle.std.proofs.Math.Option.{Option}

-- One side of a line: "left has coordinate below l, right the others."
pub data Side (L : Type 0) : Type 0 where
  left : L → Side L
  right : L → Side L

-- "an entry being a cell and a tag"
pub record Entry (C : Type 0) : Type 0 where
  pub cell : C
  pub tag : ℕ

-- "branches, each a child and its polygon": the child is given by the list of what it holds.
pub record Branch (P A : Type 0) : Type 0 where
  pub poly : P
  pub child : List A

-- A node's branches with the one that step 2 goes to, and the polygon that it gets.
pub record Chosen (P A : Type 0) : Type 0 where
  pub before : List (Branch P A)
  pub old : Branch P A
  pub grown : P
  pub after : List (Branch P A)

-- What the tree needs of the plane. The tree's rules are stated over any such operations; for document 01 they are
-- those of its rectangles.
pub record Space : Type 1 where
  pub Cell : Type 0
  pub Poly : Type 0
  pub Line : Type 0
  -- the two cells are one
  pub same : Cell → Cell → Bool
  -- the cell is on the grid: its coordinates are from 0 to 65535
  pub Real : Cell → Type 0
  -- the polygon contains the cell
  pub has : Poly → Cell → Bool
  -- the polygon is a good one: 1 to 16 rectangles, each with ll < ur, on the grid
  pub Fine : Poly → Type 0
  -- the cell is left of the line
  pub below : Line → Cell → Bool
  -- "clips the polygon's rectangles to each side, in order, and refines them"
  pub clip : Side Line → Poly → Poly
  -- step 2 at a routing node with this polygon and these branches; nothing where it refuses with 7
  pub choose : {A : Type 0} → Poly → List (Branch Poly A) → Cell → Option (Chosen Poly A)
  -- how many cells siblings remove in step 2 at a routing node with these branches; 0 where nothing grows
  pub removed : {A : Type 0} → List (Branch Poly A) → Cell → ℕ
  -- the line that splits a leaf with these entries
  pub leaf_line : List (Entry Cell) → Line
  -- the line that splits a routing node whose branches hold these entries
  pub node_line : List (List (Entry Cell)) → Line
  -- "(dx)² + (dy)²": the squared distance of two cells
  pub distance : Cell → Cell → ℕ
  -- "the least squared distance from the cell to a cell of the child's polygon"
  pub min_distance : Cell → Poly → ℕ
  -- "ties to the smaller x, then the smaller y": the numbers that decide between equally distant entries
  pub ties : Entry Cell → List ℕ
  -- the fanout: the most entries of a leaf, and branches of a routing node
  pub most : ℕ
