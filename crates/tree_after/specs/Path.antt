-- What the path of an insertion stands for in the tree's definitions, and what is written for it.
use Rattle.path.specs.declared.level.Level.{Level}
use Rattle.std.specs.Prelude.{ℕ, zero, suc, ◌+◌, ◌<◌, cond, take, drop, is_none, unwrap_or}
use mathlib.Core.List.{List, [], ◌∷◌, ◌++◌, flat_map}
use Rattle.std.proofs.Math.Option.{Option, none, some}
use Rattle.geometry.specs.declared.rect.Line.{Line}
use Rattle.tree.specs.Space.{Side}
use Rattle.tree.specs.Nodes.{Item}
use Rattle.tree.specs.Tree.{Tree}
use Rattle.tree.specs.Plan.{Way, branch_under, cut_into}
use Rattle.tree.specs.Pass.{deep}
use Rattle.plane.specs.Lines.{CellEntry, no_line}
use Rattle.plane.specs.Fanout.{fanout, index_space}
use Rattle.memory.specs.Layout.{part, item_count, entries_in, children_in}
use Rattle.memory.specs.Reading.{read_row, read_node}
use Rattle.layout.specs.Nodes.{count_at}
use Rattle.walks.specs.Walks.{Walkable}
use Rattle.path.specs.Path.{part_on, place_on, line_on, polygon_on, HasLevel, FewRects}

-- the branches of the routing node at part k; none where they do not read
unfoldable pub row_or : {A : Type 0} → Option (List A) → List A
row_or none = []
row_or (some l) = l

unfoldable pub row_at : (n : ℕ) → List ℕ → ℕ → List (Item index_space (suc n))
row_at n m k = row_or (read_row (read_node fanout n m) 0 k (children_in (part m k)))

-- The path as the tree's definitions have it: the way from a node down to its leaf, which has the new entry.
unfoldable pub way_at : (n : ℕ) → List Level → List ℕ → CellEntry → Way index_space n
way_at zero path m e = entries_in (part m (part_on path 0)) (item_count (part m (part_on path 0))) ++ (e ∷ [])
way_at (suc n) path m e = record {
  before = take (place_on path (suc n)) (row_at n m (part_on path (suc n)));
  grown = polygon_on path n;
  below = way_at n path m e;
  after = drop (place_on path (suc n) + 1) (row_at n m (part_on path (suc n)));
}

-- the line that splits the node on the path at a level; of a node that is not split, any line
abbrev pub cut_line : List Level → ℕ → Line
cut_line path n = unwrap_or (line_on path n) no_line

-- What is written for the node on the path at a level, under sides: the items of its row, and the one or two branches
-- that take its place. It is what the tree's definitions write of the way above where the path has the way's lines.
unfoldable pub row_under : (n : ℕ) → List Level → List ℕ → CellEntry → List (Side Line) → List (Item index_space n)
row_under zero path m e ss = flat_map (deep index_space zero ss) (way_at zero path m e)
row_under (suc n) path m e ss =
    flat_map (deep index_space (suc n) ss) (take (place_on path (suc n)) (row_at n m (part_on path (suc n))))
    ++ (cut_into index_space (is_none (line_on path n)) (cut_line path n) (polygon_on path n)
    (λ ts. row_under n path m e ts) ss
    ++ flat_map (deep index_space (suc n) ss) (drop (place_on path (suc n) + 1) (row_at n m (part_on path (suc n)))))

-- the node itself under sides: no branch where nothing remains, unless there are no sides
unfoldable pub half_under : (n : ℕ) → List Level → List ℕ → CellEntry → List (Side Line) → List (Item index_space (suc n))
half_under n path m e ss = branch_under index_space ss (polygon_on path n) (row_under n path m e ss)

-- the one or two branches that take its place
unfoldable pub cut_under : (n : ℕ) → List Level → List ℕ → CellEntry → List (Side Line) → List (Item index_space (suc n))
cut_under n path m e ss =
    cut_into index_space (is_none (line_on path n)) (cut_line path n) (polygon_on path n)
    (λ ts. row_under n path m e ts) ss

-- the tree that is written: the root is split or not
unfoldable pub planned_tree : (n : ℕ) → List Level → List ℕ → CellEntry → Tree index_space
planned_tree n path m e =
    cond (is_none (line_on path n))
    (record { level = n; root = polygon_on path n; items = row_under n path m e [] })
    (record { level = suc n; root = polygon_on path n; items = cut_under n path m e [] })

-- A level of the path: its node reads in the memory, its polygon has at most 16 rectangles.
pub record PathNode (n : ℕ) (path : List Level) (m : List ℕ) : Type 0 where
  pub walk : Walkable n m 0 (part_on path n)
  pub room : HasLevel n path
  pub few : FewRects n path

-- A path from a level down to the leaf.
unfoldable pub PathFrom : (n : ℕ) → List Level → List ℕ → Type 0
PathFrom zero path m = PathNode zero path m
PathFrom (suc n) path m = PathNode (suc n) path m × (place_on path (suc n) < count_at m (part_on path (suc n)))
    × PathFrom n path m
