-- Trees for the worked queries.
use Prim.Native.Nat.{ℕ, ◌+◌}
use mathlib.Core.List.{List, [], ◌∷◌}
use Rattle.geometry.specs.declared.rect.Rect.{Rect}
use Rattle.geometry.specs.Cells.{cell_of, rect_of}
use Rattle.tree.specs.Space.{Branch}
use Rattle.tree.specs.Tree.{Tree}
use Rattle.plane.specs.Lines.{CellEntry}
use Rattle.plane.specs.Plane.{plane_space}

-- an entry whose tag is 10 + x, as in the tables of the requests
abbrev pub entry : ℕ → ℕ → CellEntry
entry x y = record { cell = cell_of x y; tag = 10 + x }

-- a tree of one leaf, and one of a root with two leaves
abbrev pub one_leaf : Rect → List CellEntry → Tree (plane_space 8)
one_leaf root es = record { level = 0; root = root ∷ []; items = es }

abbrev pub Leaf : Type 0
Leaf = Branch (plane_space 8).Poly CellEntry

abbrev pub two_leaves : Rect → Leaf → Leaf → Tree (plane_space 8)
two_leaves root a b = record { level = 1; root = root ∷ []; items = a ∷ b ∷ [] }

-- the leaf (0,5)-(5,6) of G10 with some of its entries, and the leaf (5,5)-(9,6)
abbrev pub left_leaf : List CellEntry → Leaf
left_leaf es = record { poly = rect_of 0 5 5 6 ∷ []; child = es }

abbrev pub right_leaf : Leaf
right_leaf = record { poly = rect_of 5 5 9 6 ∷ []; child = entry 5 5 ∷ entry 6 5 ∷ entry 7 5 ∷ entry 8 5 ∷ [] }

-- G10's tree, with these entries in the left leaf: a removal leaves the polygons
abbrev pub g10_with : List CellEntry → Tree (plane_space 8)
g10_with es = two_leaves (rect_of 0 5 9 6) (left_leaf es) right_leaf

abbrev pub g10 : Tree (plane_space 8)
g10 = g10_with (entry 0 5 ∷ entry 1 5 ∷ entry 2 5 ∷ entry 3 5 ∷ entry 4 5 ∷ [])
