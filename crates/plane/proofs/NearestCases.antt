-- Request A.1: nearest queries worked out from the definitions, as one table with one theorem.
use Prim.Native.Nat.{ℕ}
use mathlib.Core.Path.{◌≡◌, refl}
use mathlib.Core.List.{List, [], ◌∷◌, flat_map}
use mathlib.Core.Option.{none, some}
use Rattle.polygons.specs.Lists.{least}
use Rattle.geometry.specs.declared.rect.Cell.{Cell}
use Rattle.geometry.specs.Cells.{cell_of, rect_of}
use Rattle.distance.specs.Distance.{gap, squared, clamped, rect_distance}
use Rattle.tree.specs.Nodes.{held}
use Rattle.tree.specs.Tree.{Tree, Index}
use Rattle.tree.specs.Order.{comes_before}
use Rattle.tree.specs.Nearest.{or_nearer, nearest, enters, walk_node, walk}
use Rattle.tree.specs.Calls.{Answer, refusal, nearest_answer, nearest_end}
use Rattle.plane.specs.Lines.{CellEntry}
use Rattle.plane.specs.Plane.{plane_space}
use Rattle.plane.proofs.WorkedTrees.{entry, one_leaf, two_leaves, g10_with, g10}

-- a row: an index, the cell asked, and the answer
pub record Row : Type 0 where
  pub index : Index (plane_space 8)
  pub asks : Cell
  pub answers : Answer (plane_space 8)

-- the definitions give the row's answer
abbrev pub Holds : Row → Type 0
Holds r =
    nearest_end (plane_space 8) r.asks (nearest (plane_space 8) r.asks r.index) (walk (plane_space 8) r.asks r.index).entered
    ≡ r.answers

-- every row of a table holds
abbrev pub AllHold : List Row → Type 0
AllHold [] = Unit {0}
AllHold (r ∷ l) = Holds r × AllHold l

-- a tree, the cell asked, and the entry found, its squared distance and the visits
abbrev row : Tree (plane_space 8) → Cell → CellEntry → ℕ → ℕ → Row
row t c e d v = record { index = some t; asks = c; answers = nearest_answer e d v }

abbrev pub table : List Row
table =
    record { index = none; asks = cell_of 5 5; answers = refusal 10 }
    ∷ row (one_leaf (rect_of 0 0 1 1) (entry 0 0 ∷ [])) (cell_of 65535 65535) (entry 0 0) 8589672450 1
    ∷ row (one_leaf (rect_of 0 0 11 11) (entry 5 10 ∷ entry 10 5 ∷ entry 5 0 ∷ entry 0 5 ∷ [])) (cell_of 5 5) (entry 0 5)
    25 1
    ∷ row (one_leaf (rect_of 0 0 11 11) (entry 5 10 ∷ entry 10 5 ∷ entry 5 0 ∷ [])) (cell_of 5 5) (entry 5 0) 25 1
    ∷ row g10 (cell_of 0 5) (entry 0 5) 0 2
    ∷ row g10 (cell_of 4 9) (entry 4 5) 16 2
    ∷ row g10 (cell_of 5 5) (entry 5 5) 0 3
    ∷ row g10 (cell_of 100 5) (entry 8 5) 8464 3
    ∷ row (g10_with (entry 0 5 ∷ entry 1 5 ∷ entry 2 5 ∷ entry 3 5 ∷ [])) (cell_of 4 5) (entry 3 5) 1 3
    ∷ row (g10_with (entry 0 5 ∷ entry 1 5 ∷ entry 2 5 ∷ [])) (cell_of 4 5) (entry 5 5) 1 3
    ∷ row (g10_with (entry 0 5 ∷ entry 1 5 ∷ entry 2 5 ∷ [])) (cell_of 3 5) (entry 2 5) 1 2
    ∷ row
    (two_leaves (rect_of 4 0 6 6) (record { poly = rect_of 5 0 6 1 ∷ []; child = entry 5 0 ∷ [] })
    (record { poly = rect_of 4 3 5 6 ∷ []; child = entry 4 5 ∷ entry 4 3 ∷ [] }))
    (cell_of 0 0)
    (entry 4 3)
    25
    3
    ∷ []

pub cases_hold : AllHold table
unfolding gap squared clamped rect_distance least comes_before or_nearer enters walk_node held flat_map
cases_hold = (refl, (refl, (refl, (refl, (refl, (refl, (refl, (refl, (refl, (refl, (refl, (refl, tt))))))))))))
