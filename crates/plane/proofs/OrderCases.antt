-- Request A.14: the nine entries of G10, entered from the left and from the right, from the definitions. Both orders
-- split the leaf at x, l = 5, and the two indexes hold the same entries; a window of everything writes them in
-- different orders.
use Prim.Native.Nat.{ℕ}
use mathlib.Core.Path.{◌≡◌, refl}
use mathlib.Core.List.{List, [], ◌∷◌, map, foldl, flat_map}
use mathlib.Core.Option.{none, some, bind}
use Rattle.polygons.specs.Lists.{any}
use Rattle.geometry.specs.Cells.{has_cell, non_empty, rect_of}
use Rattle.geometry.specs.Common.{unless_empty}
use Rattle.geometry.specs.Grow.{grown}
use Rattle.geometry.specs.Refine.{refine, refine_steps, refine_step, first_contained, first_from, contained, first_join, has_partner, partner}
use Rattle.geometry.specs.Clip.{below, clip_rect, side_part}
use Rattle.tree.specs.Lists.{keep, total}
use Rattle.tree.specs.Nodes.{held, nodes}
use Rattle.tree.specs.Tree.{Tree}
use Rattle.tree.specs.Insert.{Outcome, refused, accepted, insert_at, insert_tree}
use Rattle.tree.specs.Split.{half, split}
use Rattle.tree.specs.Calls.{insertion}
use Rattle.tree.specs.Query.{matches}
use Rattle.plane.specs.Lines.{CellEntry, leaf_line}
use Rattle.plane.specs.Plane.{plane_space, plane_root, cell_rect}
use Rattle.plane.specs.Windows.{plane_window}
use Rattle.plane.proofs.WorkedTrees.{entry, two_leaves, left_leaf, g10}

-- one more insertion into an index of three parts, if those before were accepted
abbrev pub next : Outcome (plane_space 8) → CellEntry → Outcome (plane_space 8)
next (refused k) e = refused k
next (accepted i) e = insertion (plane_space 8) (plane_root 8) 3 i e

-- the insertions of a list, one after another, from the empty index
abbrev pub entered : List CellEntry → Outcome (plane_space 8)
entered es = foldl next (accepted none) es

-- the x of the entries that a window of everything writes
abbrev pub written_x : Tree (plane_space 8) → List ℕ
written_x t = map (λ e. e.cell.x) (matches (plane_space 8) (plane_window 8) (rect_of 0 0 65536 65536) (some t))

-- a row: the entries in an order, the tree that they give, and the x of what the window writes
pub record Row : Type 0 where
  pub order : List CellEntry
  pub tree : Tree (plane_space 8)
  pub written : List ℕ

-- the definitions give that tree and that list
abbrev pub Holds : Row → Type 0
Holds r = (entered r.order ≡ accepted (some r.tree)) × (written_x r.tree ≡ r.written)

-- every row of a table holds
abbrev pub AllHold : List Row → Type 0
AllHold [] = Unit {0}
AllHold (r ∷ l) = Holds r × AllHold l

-- G10's tree with the entries of each leaf the other way round
abbrev pub g10_turned : Tree (plane_space 8)
g10_turned =
    two_leaves (rect_of 0 5 9 6) (left_leaf (entry 4 5 ∷ entry 3 5 ∷ entry 2 5 ∷ entry 1 5 ∷ entry 0 5 ∷ []))
    (record { poly = rect_of 5 5 9 6 ∷ []; child = entry 8 5 ∷ entry 7 5 ∷ entry 6 5 ∷ entry 5 5 ∷ [] })

abbrev pub table : List Row
table =
    record {
      order =
          entry 0 5 ∷ entry 1 5 ∷ entry 2 5 ∷ entry 3 5 ∷ entry 4 5 ∷ entry 5 5 ∷ entry 6 5 ∷ entry 7 5
          ∷ entry 8 5 ∷ [];
      tree = g10;
      written = 0 ∷ 1 ∷ 2 ∷ 3 ∷ 4 ∷ 5 ∷ 6 ∷ 7 ∷ 8 ∷ [];
    }
    ∷ record {
      order =
          entry 8 5 ∷ entry 7 5 ∷ entry 6 5 ∷ entry 5 5 ∷ entry 4 5 ∷ entry 3 5 ∷ entry 2 5 ∷ entry 1 5
          ∷ entry 0 5 ∷ [];
      tree = g10_turned;
      written = 4 ∷ 3 ∷ 2 ∷ 1 ∷ 0 ∷ 8 ∷ 7 ∷ 6 ∷ 5 ∷ [];
    }
    ∷ []

pub cases_hold : AllHold table
unfolding insert_tree insert_at split half leaf_line keep total any held flat_map nodes bind below grown refine refine_steps refine_step first_contained first_from contained first_join has_partner partner cell_rect clip_rect side_part unless_empty non_empty has_cell
cases_hold = ((refl, refl), ((refl, refl), tt))
