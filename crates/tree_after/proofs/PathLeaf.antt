-- The leaf on the path under sides: its entries, with the new one behind them.
use Prim.Native.Nat.{ℕ, ◌≤◌}
use mathlib.Core.Path.{◌≡◌, sym, ap, ◌∙◌}
use mathlib.Core.Bool.{Bool, true, false}
use mathlib.Core.List.{List, [], ◌∷◌, ◌++◌, append-nil}
use native.Mathlib.Omega.{arith}
use lib.ListN.{length}
use Rattle.path.specs.declared.level.Level.{Level}
use Rattle.geometry.specs.declared.rect.Side.{Side}
use Rattle.tree.specs.Lists.{keep, total}
use Rattle.tree.specs.Nodes.{nodes}
use Rattle.tree.specs.Plan.{branch_under}
use Rattle.tree.proofs.Lists.{keep_append}
use Rattle.plane.specs.Lines.{CellEntry}
use Rattle.plane.specs.Fanout.{index_space}
use Rattle.memory.specs.Layout.{part, item_count, entries_in}
use Rattle.layout.specs.declared.entry.Entry.{Entry}
use Rattle.layout.specs.declared.node.Node.{Node}
use Rattle.layout.specs.Entries.{tree_entry}
use Rattle.layout.specs.Loaded.{leaf_of, with_entry}
use Rattle.layout.specs.Nodes.{NodePart}
use Rattle.layout.proofs.LoadedLaws.{count_entries, entry_more}
use Rattle.walks.specs.Walks.{leaf_entries}
use Rattle.walks.proofs.WalkRows.{node_part_lem}
use Rattle.split_line.specs.Sides.{sides_of, on_every, on_test}
use Rattle.path.specs.Path.{part_on, polygon_on}
use Rattle.tree_after.specs.Writes.{Writes, Room}
use Rattle.tree_after.specs.Leaves.{leaf_remaining}
use Rattle.tree_after.specs.Path.{way_at, row_under, half_under, PathNode}
use Rattle.tree_after.specs.Rows.{NodeWritten, NodeRoom, node_parts}
use Rattle.tree_after.proofs.DeepRows.{entries_remaining}
use Rattle.tree_after.proofs.BranchLaws.{top_leaf, leaf_nodes_under}

-- the new entry behind those of the leaf
module _ (ss : List Side) (p : List ℕ) (e : Entry) (remaining : Node) (x : remaining ≡ leaf_of (leaf_remaining ss p)) where
  module _ (b : Bool) (o : b ≡ on_every ss e.cell) where
    last_is : b ≡ on_test ss (tree_entry e)
    unfolding on_test
    last_is = o

    pub with_miss : b ≡ false → remaining ≡ leaf_of (keep (on_test ss) (entries_in p (item_count p) ++ (tree_entry e ∷ [])))
    unfolding keep leaf_remaining leaf_entries
    with_miss f =
        let on : on_test ss (tree_entry e) ≡ false = sym last_is ∙ f in
        rw (keep_append (on_test ss) (entries_in p (item_count p)) (tree_entry e ∷ []), on, append-nil (keep (on_test ss) (entries_in p (item_count p)))) x

    pub with_hit : (remaining₁ : Node) → remaining.count ≤ 8 → b ≡ true → remaining₁ ≡ with_entry remaining (tree_entry e)
        → remaining₁ ≡ leaf_of (keep (on_test ss) (entries_in p (item_count p) ++ (tree_entry e ∷ [])))
    unfolding keep leaf_remaining leaf_entries
    with_hit remaining₁ few f y =
        let on : on_test ss (tree_entry e) ≡ true = sym last_is ∙ f in
        let es : List CellEntry = keep (on_test ss) (entries_in p (item_count p)) in
        let k : remaining.count ≡ length es = ap (λ (l : Node). l.count) x ∙ count_entries es in
        rw (keep_append (on_test ss) (entries_in p (item_count p)) (tree_entry e ∷ []), on)
        (y ∙ ap (λ (l : Node). with_entry l (tree_entry e)) x ∙ entry_more es (tree_entry e) (omega arith))

-- the entries of a leaf's part and the new one, under sides
abbrev pub entries_on : List ℕ → CellEntry → List Side → List CellEntry
entries_on p e ss = keep (on_test ss) (entries_in p (item_count p) ++ (e ∷ []))

-- the node on the path at level 0, whose part is p
module _ (path : List Level) (m : List ℕ) where
  pub leaf_in : PathNode 0 path m → (p : List ℕ) → p ≡ part m (part_on path 0) → NodePart p
  leaf_in v p p_is = node_part_lem 0 m 0 (part_on path 0) v.walk p p_is

  module _ (e : CellEntry) (ss : List Side) (v : PathNode 0 path m) (p : List ℕ) (p_is : p ≡ part m (part_on path 0)) where
    leaf_row : row_under 0 path m e (sides_of ss) ≡ entries_on p e ss
    unfolding row_under way_at
    leaf_row = rw p_is (entries_remaining ss _)

    pub leaf_half : half_under 0 path m e (sides_of ss) ≡ branch_under index_space (sides_of ss) (polygon_on path 0) (entries_on p e ss)
    unfolding half_under
    leaf_half = rw leaf_row

    module _ (l : Node) (g : l ≡ leaf_of (entries_on p e ss)) (w : List ℕ) (next : ℕ) where
      pub leaf_top_room : Room 0 w next (half_under 0 path m e (sides_of ss)) → NodeRoom ss l w next
      leaf_top_room r =
          let c : l.count ≡ length (entries_on p e ss) = ap (λ (k : Node). k.count) g ∙ count_entries (entries_on p e ss) in
          let n : total (nodes index_space 1) (half_under 0 path m e (sides_of ss)) ≡ node_parts ss l.count =
          ap (total (nodes index_space 1)) leaf_half ∙ leaf_nodes_under ss (polygon_on path 0) (entries_on p e ss) ∙ ap (node_parts ss) (sym c) in
          let h = r.fits in
          record { fits = omega arith; small = r.small }

      pub leaf_writes : (w₁ : List ℕ) (r : ℕ) → NodeWritten (polygon_on path 0) l ss w next w₁ r
          → Writes 0 w next (half_under 0 path m e (sides_of ss)) w₁ r
      leaf_writes w₁ r x = rw leaf_half (top_leaf (polygon_on path 0) ss (entries_on p e ss) l w next w₁ r g x)
