-- The plan of the splits: the line of each node on the path that gets one item too many, from the leaf up.
use Rattle.path.specs.declared.level.Level.{Level}
use Rattle.std.specs.Prelude.{ℕ, ◌+◌, ◌≤◌, ◌<◌, true, false, List, ◌≡◌, None, is_none, length}
use Rattle.std.proofs.Math.Option.{some}
use Rattle.geometry.specs.declared.rect.Cell.{Cell}
use Rattle.geometry.specs.declared.rect.Line.{Line}
use Rattle.geometry.specs.Cells.{on_grid}
use Rattle.tree.specs.Plan.{descend, few, line_at}
use Rattle.tree.proofs.GoodWays.{GoodWay}
use Rattle.plane.specs.Lines.{CellEntry, Payload, entry_of}
use Rattle.plane.specs.Fanout.{index_space}
use Rattle.layout.specs.Nodes.{count_at}
use Rattle.path.specs.Path.{part_on, line_on, polygon_on}
use Rattle.tree_after.specs.Path.{cut_line, way_at, PathFrom}
use Rattle.insertion.specs.Descent.{items_at, Linked}

-- A path that is that of the definition from each level on, through sound nodes.
pub record GoodPath (n : ℕ) (path : List Level) (m : List ℕ) (c : Cell) : Type 0 where
  pub from : PathFrom n path m
  pub linked : Linked n path m
  pub grid : on_grid c ≡ true
  pub ways : (j : ℕ) → j ≤ n → (t : Payload)
      → descend index_space j (polygon_on path j) (items_at j m (part_on path j)) (entry_of c t)
      ≡ some (way_at j path m (entry_of c t))
  pub goods : (j : ℕ) → j ≤ n → (t : Payload) → GoodWay index_space j (way_at j path m (entry_of c t))

-- A good path none of whose nodes is split so far.
pub record Plannable (n : ℕ) (path : List Level) (m : List ℕ) (c : Cell) : Type 0 where
  pub path_is : GoodPath n path m c
  pub unsplit : (j : ℕ) → j ≤ n → line_on path j ≡ None

-- The path says at a level whether its node is split, and at which line.
pub record PlannedAt (n : ℕ) (path : List Level) (m : List ℕ) (e : CellEntry) : Type 0 where
  pub split : is_none (line_on path n) ≡ few index_space n (way_at n path m e)
  pub line : few index_space n (way_at n path m e) ≡ false
      → cut_line path n ≡ line_at index_space n (way_at n path m e)

-- It says so at each level.
pub record Planned (n : ℕ) (path : List Level) (m : List ℕ) (c : Cell) : Type 0 where
  pub each : (j : ℕ) → j ≤ n → (t : Payload) → PlannedAt j path m (entry_of c t)

-- The first n nodes on the path from the leaf up, and no others, have eight items. Each of them gets one item more, so
-- it is split.
pub record FullLevels (level : ℕ) (path : List Level) (m : List ℕ) (n : ℕ) : Type 0 where
  pub most : n ≤ level + 1
  pub full : (j : ℕ) → j < n → count_at m (part_on path j) ≡ 8
  pub next : n ≤ level → count_at m (part_on path n) < 8

-- The nodes below a level are all split.
abbrev pub AllSplit : ℕ → List Level → List ℕ → Cell → Type 0
AllSplit n path m c = (j : ℕ) → j < n → (t : Payload) → few index_space j (way_at j path m (entry_of c t)) ≡ false

-- They are split at the lines that the path says.
pub record SplitBelow (n : ℕ) (path : List Level) (m : List ℕ) (c : Cell) : Type 0 where
  pub each : (j : ℕ) → j < n → (t : Payload) → PlannedAt j path m (entry_of c t)
  pub all : AllSplit n path m c

-- The node on the path at a level gets one item too many: it has eight, and the nodes below it are split.
pub record Full (n level : ℕ) (path : List Level) (m : List ℕ) (c : Cell) : Type 0 where
  pub path_is : GoodPath level path m c
  pub below : n ≤ level
  pub splits : SplitBelow n path m c
  pub eight : count_at m (part_on path n) ≡ 8

-- r is the line at which it is split
abbrev pub LineOfLevel : ℕ → List Level → List ℕ → Cell → Line → Type 0
LineOfLevel n path m c r = (t : Payload) → r ≡ line_at index_space n (way_at n path m (entry_of c t))

-- The plan was made: the path has the same nodes and polygons, and each level's line.
pub record PlanMade (n : ℕ) (path : List Level) (m : List ℕ) (c : Cell) (path' : List Level) : Type 0 where
  pub path_is : GoodPath n path' m c
  pub planned : Planned n path' m c
  pub same_length : length path' ≡ length path
  pub part : part_on path' n ≡ part_on path n
  pub polygon : polygon_on path' n ≡ polygon_on path n
