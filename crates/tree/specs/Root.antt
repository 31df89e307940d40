-- Document 01: "The root's polygon is one rectangle."
-- docs/RULES.md 3.4, 4.1, 4.2
use Rattle.tree.specs.Space.{Space}

-- The root's polygon and how insertion changes it.
pub record Root (S : Space) : Type 1 where
  -- the polygon is one rectangle
  pub One : S.Poly → Type 0
  -- "an empty index gets a leaf with that cell alone": the rectangle of one cell
  pub leaf_of : S.Cell → S.Poly
  -- "The root's rectangle grows to the cell"
  pub grow_root : S.Poly → S.Cell → S.Poly
