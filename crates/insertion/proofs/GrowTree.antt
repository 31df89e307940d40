-- A tree whose path has no line: no node is split, and the tree after is read from the memory in which the path was
-- written in place.
use Prim.Native.Nat.{ℕ, zero, suc, ◌+◌, ◌≤◌, ◌<◌}
use mathlib.Core.Path.{◌≡◌, sym, ap, ◌∙◌}
use mathlib.Core.Bool.{true}
use mathlib.Core.List.{List, [], flat_map}
use mathlib.Core.Option.{some}
use native.Mathlib.Omega.{arith}
use native.Mathlib.Nat.{le_refl}
use lib.ListN.{take, drop}
use lib.Seq.{set_split}
use Rattle.std.specs.Prelude.{None, is_none}
use Rattle.path.specs.declared.level.Level.{Level}
use Rattle.geometry.specs.declared.rect.Cell.{Cell}
use Rattle.tree.specs.Nodes.{Item, nodes}
use Rattle.tree.specs.Pass.{deep}
use Rattle.tree.specs.Plan.{under}
use Rattle.tree.specs.Tree.{Tree, top, node_count, SoundTree}
use Rattle.tree.proofs.Pass.{under_deep}
use Rattle.plane.specs.Lines.{CellEntry, Payload, entry_of}
use Rattle.plane.specs.Fanout.{fanout, index_space, index_root}
use Rattle.memory.specs.Reading.{read_node, reading}
use Rattle.memory.proofs.ReadingLaws.{ReadAs, read_as, make_reading}
use Rattle.memory.proofs.SoundTested.{test_of_sound}
use Rattle.layout.specs.Nodes.{count_at}
use Rattle.layout.proofs.BesideLaws.{right_same, head_same}
use Rattle.path.specs.Path.{part_on, place_on, line_on, polygon_on}
use Rattle.tree_after.specs.Path.{row_at, way_at, row_under, planned_tree, PathFrom}
use Rattle.tree_after.proofs.RowLaws.{row_count}
use Rattle.insertion.specs.Growing.{grown_items, grown_tree, Growing, GrownNode, Grown}
use Rattle.insertion.specs.Insert.{PathPlanned}

-- without sides all items are left
all_left : (n : ℕ) (l : List (Item index_space n)) → flat_map (deep index_space n []) l ≡ l
unfolding under
all_left n l = sym (under_deep index_space n [] l)

-- where no node is split, the row that is written is the row before with the branch gone to changed
row_grown : (n : ℕ) (path : List Level) (m : List ℕ) (e : CellEntry) → PathFrom n path m
    → ((j : ℕ) → j < n → is_none (line_on path j) ≡ true) → row_under n path m e [] ≡ grown_items n path m e
unfolding row_under grown_items PathFrom
row_grown zero path m e f h = all_left zero (way_at zero path m e)
row_grown (suc n) path m e f h =
    let l = row_at n m (part_on path (suc n)) in
    let i = place_on path (suc n) in
    let c = row_count n m (part_on path (suc n)) f.0.walk in
    let o = f.1 in
    let q : place_on path (suc n) + 1 ≡ suc (place_on path (suc n)) = omega arith in
    let s = set_split l i (record { poly = polygon_on path n; child = grown_items n path m e }) (omega arith) in
    rw (h n (omega arith), row_grown n path m e f.2 (λ j k. h j (omega arith)), all_left (suc n) (take i l), all_left (suc n) (drop (i + 1) l), s, q)

-- where no node on the path has a line, the tree that is planned is the grown one
pub tree_grown : (m : List ℕ) (level : ℕ) (path : List Level) (e : CellEntry) → PathFrom level path m
    → ((j : ℕ) → j ≤ level → line_on path j ≡ None)
    → planned_tree level path m e ≡ grown_tree level path m e
unfolding planned_tree
tree_grown m level path e from u =
    let line : (j : ℕ) → j ≤ level → is_none (line_on path j) ≡ true = λ j h. ap is_none (u j h) in
    rw (line level (le_refl level), row_grown level path m e from (λ j h. line j (omega arith)))

module _ (m : List ℕ) (c : Cell) (x : Tree index_space) (reads : reading fanout m ≡ some (some x)) (path : List Level) (p : PathPlanned m x.level c path) where
  read : ReadAs fanout m x
  read = read_as fanout m x reads

  -- the path can be written in place
  pub path_growing : count_at m (part_on path 0) < 8 → Growing x.level path m
  path_growing h = record { from = p.good.from; linked = p.good.linked; leaf = h; unused = read.others_zero }

  -- it was
  module _ (t : Payload) (m' : List ℕ) (g : Grown x.level path m (entry_of c t) m') where
    root_grown : GrownNode x.level path m (entry_of c t) m' 0 (top index_space x)
    root_grown =
        g.node 0 (top index_space x) (omega arith) (ap (read_node fanout x.level m 0) p.top ∙ read.root_node)

    -- no node was added
    pub nodes_grown : node_count index_space (some (grown_tree x.level path m (entry_of c t))) ≡ node_count index_space (some x)
    nodes_grown = unfold nodes in root_grown.as_many

    -- the memory reads as the tree after
    pub reads_grown : SoundTree index_space index_root (grown_tree x.level path m (entry_of c t))
        → reading fanout m' ≡ some (some (grown_tree x.level path m (entry_of c t)))
    reads_grown sound =
        let b = root_grown.beside in
        make_reading fanout m' (grown_tree x.level path m (entry_of c t)) (record {
          right = right_same m m' g.same_length read.right;
          height_is = b.head 8 (omega arith) (omega arith) ∙ read.height_is;
          root_node = ap (read_node fanout x.level m' 0) (b.head 9 (omega arith) (omega arith) ∙ sym p.top)
              ∙ root_grown.reads;
          bits = root_grown.as_many ∙ read.bits ∙ sym g.bits;
          head_zero = rw (head_same m (part_on path x.level) m' b) read.head_zero;
          others_zero = g.unused;
          tested = test_of_sound fanout _ sound;
        })
