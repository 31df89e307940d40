-- Document 01, 'Cells on paper': the rows G1 to G12 as one table, and one theorem.
use Prim.Native.Nat.{ℕ}
use mathlib.Core.Path.{◌≡◌, refl}
use mathlib.Core.List.{List, [], ◌∷◌, ◌++◌, map}
use mathlib.Core.Option.{Option, none}
use Rattle.geometry.specs.declared.rect.Cell.{Cell}
use Rattle.geometry.specs.declared.rect.Line.{Line}
use Rattle.geometry.specs.declared.rect.Line.TheVariants.{AtX}
use Rattle.geometry.specs.Cells.{cell_of}
use Rattle.area.proofs.Cases.{Row as RectRow, Holds as RectHolds, AllHold as AllRectHold, table as rect_table, cases_hold as rect_cases_hold}
use Rattle.tree.specs.Lists.{keep, total}
use Rattle.tree.specs.Tree.{Index}
use Rattle.tree.specs.Query.{entry_at, visits}
use Rattle.plane.specs.Lines.{CellEntry, leaf_line}
use Rattle.plane.specs.Plane.{plane_space}

-- a row: one of the rectangle rules; a leaf's cells and its line; a point query's index, what it finds and its visits
pub data Row : Type 0 where
  rectangles : RectRow → Row
  leaf : List Cell → Line → Row
  query : Index (plane_space 8) → Option CellEntry → ℕ → Row

-- the definitions give the row's result: a leaf's, whatever the tags; a query's, whatever the cell
abbrev pub Holds : Row → Type 0
Holds (rectangles r) = RectHolds r
Holds (leaf cs l) = (tag : Cell → ℕ) → leaf_line (map (λ c. record { cell = c; tag = tag c }) cs) ≡ l
Holds (query i e n) = (c : Cell) → (entry_at (plane_space 8) c i ≡ e) × (visits (plane_space 8) c i ≡ n)

-- every row of a table holds
abbrev pub AllHold : List Row → Type 0
AllHold [] = Unit {0}
AllHold (r ∷ l) = Holds r × AllHold l

-- the rows of leaves and queries
abbrev pub others : List Row
others =
    -- G10
    leaf (cell_of 0 5 ∷ cell_of 1 5 ∷ cell_of 2 5 ∷ cell_of 3 5 ∷ cell_of 4 5 ∷ cell_of 5 5 ∷ cell_of 6 5 ∷ cell_of 7 5
    ∷ cell_of 8 5 ∷ []) (AtX 5)
    -- G11
    ∷ leaf (cell_of 0 0 ∷ cell_of 0 1 ∷ cell_of 0 2 ∷ cell_of 1 0 ∷ cell_of 1 1 ∷ cell_of 1 2 ∷ cell_of 2 0 ∷ cell_of 2 1
    ∷ cell_of 2 2 ∷ []) (AtX 2)
    -- G12
    ∷ query none none 0
    ∷ []

-- the rows in the document's order: G1 to G9, then G10 to G12
abbrev pub table : List Row
table = map rectangles rect_table ++ others

-- the rows of the geometry, and then others
hold_more : (l : List RectRow) (m : List Row) → AllRectHold l → AllHold m → AllHold (map rectangles l ++ m)
hold_more [] m h k = k
hold_more (r ∷ l) m h k = (h.0, hold_more l m h.1 k)

-- all rows hold
pub cases_hold : AllHold table
unfolding leaf_line total keep
cases_hold = hold_more rect_table others rect_cases_hold (λ tag. refl, (λ tag. refl, (λ c. (refl, refl), tt)))
