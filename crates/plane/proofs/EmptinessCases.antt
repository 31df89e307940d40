-- Request A.11: emptiness queries worked out from the definitions, with the window queries of the same windows, as one
-- table with one theorem.
use Prim.Native.Nat.{ℕ}
use mathlib.Core.Bool.{Bool, true, false}
use mathlib.Core.Path.{◌≡◌, refl}
use mathlib.Core.List.{List, [], ◌∷◌, flat_map}
use mathlib.Core.Option.{none, some}
use lib.ListN.{length}
use Rattle.polygons.specs.Lists.{any}
use Rattle.geometry.specs.declared.rect.Rect.{Rect}
use Rattle.geometry.specs.Cells.{has_cell, non_empty, rect_of}
use Rattle.geometry.specs.Common.{overlap, shares_with}
use Rattle.tree.specs.Lists.{keep}
use Rattle.tree.specs.Nodes.{held}
use Rattle.tree.specs.Tree.{Tree, Index}
use Rattle.tree.specs.Depth.{item_polygons}
use Rattle.tree.specs.Query.{matches, window_visits}
use Rattle.tree.specs.Emptiness.{node_to_match, is_empty, empty_visits}
use Rattle.plane.specs.Plane.{plane_space}
use Rattle.plane.specs.Windows.{meets, plane_window}
use Rattle.plane.proofs.WorkedTrees.{entry, one_leaf, g10_with, g10}

-- the answer and its visits, and the matches and visits of the window query
pub record Answers : Type 0 where
  pub empty : Bool
  pub visits : ℕ
  pub found : ℕ
  pub visited : ℕ

-- a row: an index, the window asked, and both answers
pub record Row : Type 0 where
  pub index : Index (plane_space 8)
  pub asks : Rect
  pub answers : Answers

-- what the definitions give
abbrev pub asked : Index (plane_space 8) → Rect → Answers
asked i w = record {
  empty = is_empty (plane_space 8) (plane_window 8) w i;
  visits = empty_visits (plane_space 8) (plane_window 8) w i;
  found = length (matches (plane_space 8) (plane_window 8) w i);
  visited = window_visits (plane_space 8) (plane_window 8) w i;
}

-- they give the row's answers
abbrev pub Holds : Row → Type 0
Holds r = asked r.index r.asks ≡ r.answers

-- every row of a table holds
abbrev pub AllHold : List Row → Type 0
AllHold [] = Unit {0}
AllHold (r ∷ l) = Holds r × AllHold l

abbrev told : Bool → ℕ → ℕ → ℕ → Answers
told b v k n = record { empty = b; visits = v; found = k; visited = n }

-- a tree, the window asked, and the numbers
abbrev row : Tree (plane_space 8) → Rect → Bool → ℕ → ℕ → ℕ → Row
row t w b v k n = record { index = some t; asks = w; answers = told b v k n }

-- G10's tree without (4,5), and without (3,5) too
abbrev without_one : Tree (plane_space 8)
without_one = g10_with (entry 0 5 ∷ entry 1 5 ∷ entry 2 5 ∷ entry 3 5 ∷ [])

abbrev without_two : Tree (plane_space 8)
without_two = g10_with (entry 0 5 ∷ entry 1 5 ∷ entry 2 5 ∷ [])

abbrev pub table : List Row
table =
    record { index = none; asks = rect_of 0 0 65536 65536; answers = told true 0 0 0 }
    ∷ row (one_leaf (rect_of 0 0 11 11) (entry 0 0 ∷ entry 10 10 ∷ [])) (rect_of 3 3 5 5) true 1 0 1
    ∷ row g10 (rect_of 0 5 9 6) false 2 9 3
    ∷ row g10 (rect_of 0 0 5 6) false 2 5 2
    ∷ row g10 (rect_of 5 5 9 6) false 2 4 2
    ∷ row g10 (rect_of 7 5 9 6) false 2 2 2
    ∷ row g10 (rect_of 3 0 6 10) false 2 3 3
    ∷ row g10 (rect_of 9 0 10 10) true 0 0 0
    ∷ row g10 (rect_of 0 0 9 5) true 0 0 0
    ∷ row g10 (rect_of 0 0 3 3) true 0 0 0
    ∷ row g10 (rect_of 20 20 30 30) true 0 0 0
    ∷ row without_one (rect_of 4 5 5 6) true 2 0 2
    ∷ row without_one (rect_of 4 5 6 6) false 3 1 3
    ∷ row without_two (rect_of 3 5 5 6) true 2 0 2
    ∷ []

pub cases_hold : AllHold table
unfolding any has_cell non_empty overlap shares_with meets keep held flat_map item_polygons node_to_match
cases_hold =
    (refl, (refl, (refl, (refl, (refl, (refl, (refl, (refl, (refl, (refl, (refl, (refl, (refl, (refl, tt))))))))))))))
