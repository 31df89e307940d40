-- The count of the entries: the walk that enters every node and takes every entry.
use Prim.Native.Nat.{ℕ, zero, suc, ◌+◌, ◌-◌, ◌≤◌, ◌<◌}
use mathlib.Core.Path.{◌≡◌, refl, sym, ap, ◌∙◌}
use mathlib.Core.Bool.{true}
use mathlib.Core.List.{List, [], ◌∷◌, flat_map}
use mathlib.Core.Option.{Option, none, some}
use native.Mathlib.Omega.{arith}
use mir.Syntax.{w32}
use mir.Val.{Fits}
use lib.ListN.{length, length-append}
use Rattle.tree.specs.Lists.{keep}
use Rattle.tree.specs.Nodes.{Item, held}
use Rattle.tree.specs.Tree.{entries}
use Rattle.tree.specs.Walk.{node_walk_entries}
use Rattle.tree.proofs.Lists.{flat_map_same}
use Rattle.tree.proofs.InsertEntries.{held_zero}
use Rattle.plane.specs.Lines.{CellEntry}
use Rattle.plane.specs.Fanout.{fanout, index_space}
use Rattle.memory.specs.Layout.{part, item_count}
use Rattle.memory.specs.Reading.{read_node}
use Rattle.memory.specs.TreeIn.{TreeIn}
use Rattle.memory.proofs.ReadingLaws.{leaf_parts, entries_length, read_as}
use Rattle.layout.specs.Nodes.{child_at, count_at}
use Rattle.walks.specs.Walks.{any_polygon, any_entry, entries_from, entries_below, Walkable}
use Rattle.walks.specs.Count.{entries_of, entries_at}
use Rattle.walks.proofs.WalkRows.{entries_few}
use Rattle.walks.proofs.WalkLoop.{AtChild, child_start, child_hit, end_entries}

keep_all : (l : List CellEntry) → keep any_entry l ≡ l
unfolding keep any_entry
keep_all [] = refl
keep_all (e ∷ l) = ap (λ t. e ∷ t) (keep_all l)

-- the walk that passes everything finds all entries
all_entries : (n : ℕ) (l : List (Item index_space n)) → node_walk_entries index_space any_polygon any_entry n l ≡ flat_map (held index_space n) l
unfolding node_walk_entries any_polygon held
all_entries zero l = keep_all l ∙ sym (held_zero index_space l)
all_entries (suc n) l = flat_map_same _ (held index_space (suc n)) l (λ b. all_entries n b.child)

entries_of_lem : (n : ℕ) (o : Option (Item index_space (suc n))) → entries_from any_polygon any_entry n o ≡ entries_of n o
unfolding entries_from entries_of
entries_of_lem n none = refl
entries_of_lem n (some b) = all_entries n b.child

entries_at_lem : (n : ℕ) (m : List ℕ) (lo k : ℕ) → entries_below any_polygon any_entry n m lo k ≡ entries_at n m lo k
unfolding entries_below entries_at
entries_at_lem n m lo k = entries_of_lem n (read_node fanout n m lo k)

-- at most 8 entries a node
pub held_few : (n : ℕ) (m : List ℕ) (lo k : ℕ) → Walkable n m lo k → length (entries_at n m lo k) ≤ 2048
held_few n m lo k v = rw (← (entries_at_lem n m lo k)) (entries_few any_polygon any_entry n m lo k v)

-- a leaf holds as many entries as its part says
pub held_leaf : (level : ℕ) (m : List ℕ) (lo k n : ℕ) → level ≡ 0 → Walkable level m lo k → n ≡ count_at m k → n ≡ length (entries_at level m lo k)
unfolding entries_at entries_of
held_leaf level m lo k n z v c =
    let w : Walkable 0 m lo k = rw z at v in
    let p = leaf_parts fanout m lo k w.node w.reads in
    let e : length (flat_map (held index_space 0) w.node.child) ≡ count_at m k =
    ap length (held_zero index_space w.node.child ∙ p.entries) ∙ entries_length (part m k) (item_count (part m k)) in
    c ∙ rw (z, w.reads) (sym e)

-- Before the i-th child: the count so far.
pub record CountHeld (level : ℕ) (m : List ℕ) (lo k n i low sum : ℕ) : Type 0 where
  pub vs : ℕ
  pub es : List CellEntry
  pub at : AtChild any_polygon any_entry level m lo k n i low vs es
  pub so_far : sum ≡ length es

module _ (level : ℕ) (m : List ℕ) (lo k n : ℕ) where
  pub held_start : (level ≡ 0 → ⊥) → Walkable level m lo k → n ≡ count_at m k → CountHeld level m lo k n 0 lo 0
  held_start ne v c = record { vs = 1; es = []; at = child_start any_polygon any_entry level m lo k n ne v c; so_far = refl }

  module _ (i low sum : ℕ) (x : CountHeld level m lo k n i low sum) where
    pub held_end : n ≤ i → sum ≡ length (entries_at level m lo k)
    held_end h =
        x.so_far ∙ ap length (end_entries any_polygon any_entry level m lo k n i low x.vs x.es x.at h ∙ entries_at_lem level m lo k)

    module _ (h : i < n) (j : ℕ) (q : j ≡ child_at m k i) (d : ℕ) (g : d ≡ length (entries_at (level - 1) m low j)) where
      pub held_next : CountHeld level m lo k n (i + 1) (j + 1) (sum + d)
      unfolding any_polygon
      held_next =
          let s = x.so_far in
          let e = ap length (entries_at_lem (level - 1) m low (j)) in
          record {
            vs = _;
            es = _;
            at = child_hit any_polygon any_entry level m lo k n i low x.vs x.es x.at h j q true refl refl;
            so_far = rw length-append (omega arith);
          }

      pub held_fits : Fits w32 (sum + d)
      held_fits =
          let y = held_next in
          let s = y.so_far in
          let f = entries_few any_polygon any_entry level m lo k x.at.walkable in
          let l : length y.es ≤ length (entries_below any_polygon any_entry level m lo k) = rw (← y.at.entries, length-append) (omega arith) in
          omega arith

-- below the root are the entries of the tree that the memory reads as
pub tree_held : (m : List ℕ) (level root : ℕ) (v : TreeIn m level root) → entries_at level m 0 root ≡ entries index_space (some v.tree)
unfolding entries_at entries_of
tree_held m level root v = rw (← v.level_is, ← v.root_is, (read_as fanout m v.tree v.reads).root_node)
