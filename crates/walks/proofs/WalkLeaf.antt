-- The loop over a leaf's entries: those that passed so far and the entries that are left give all that pass.
use Prim.Native.Nat.{ℕ, ◌+◌, ◌≤◌, ◌<◌}
use mathlib.Core.Path.{◌≡◌, refl, sym, ap, ◌∙◌}
use mathlib.Core.Bool.{Bool, true, false, cond}
use mathlib.Core.List.{List, [], ◌∷◌, ◌++◌, append-nil}
use native.Mathlib.Omega.{arith}
use lib.ListN.{length, drop, drop_of_length-le}
use lib.Seq.{append_snoc}
use Rattle.tree.specs.Lists.{keep}
use Rattle.plane.specs.Lines.{CellEntry}
use Rattle.memory.specs.Layout.{item_count, entry_in, entries_in}
use Rattle.memory.proofs.ReadingLaws.{entries_length}
use Rattle.layout.specs.declared.entry.Entry.{Entry}
use Rattle.layout.specs.declared.node.Node.{Node}
use Rattle.layout.specs.Entries.{tree_entry}
use Rattle.layout.specs.Loaded.{node_in, node_entry}
use Rattle.layout.specs.Nodes.{NodePart}
use Rattle.layout.proofs.LoadedLaws.{loaded_count, loaded_test, loaded_is}
use Rattle.layout.proofs.EntryRows.{entries_next}
use Rattle.walks.specs.Walks.{leaf_entries}

-- Before the i-th of the n entries of a leaf's part: es passed so far.
pub record AtEntry (u : CellEntry → Bool) (p : List ℕ) (n i : ℕ) (es : List CellEntry) : Type 0 where
  pub count : n ≡ item_count p
  pub i_le : i ≤ n
  pub leaf : NodePart p
  pub entries : es ++ keep u (drop i (entries_in p (item_count p))) ≡ leaf_entries u p

module _ (u : CellEntry → Bool) (p : List ℕ) (n : ℕ) where
  pub entry_start : NodePart p → n ≡ item_count p → AtEntry u p n 0 []
  unfolding leaf_entries
  entry_start v c = record { count = c; i_le = omega arith; leaf = v; entries = refl }

  -- the same with the leaf as it was loaded
  pub loaded_start : (leaf : Node) → leaf ≡ node_in p → NodePart p → n ≡ leaf.count → AtEntry u p n 0 []
  loaded_start leaf q v c = entry_start v (c ∙ loaded_count p leaf q)

  module _ (i : ℕ) (es : List CellEntry) (a : AtEntry u p n i es) where
    pub entry_end : n ≤ i → es ≡ leaf_entries u p
    unfolding keep
    entry_end h =
        let c = a.count in
        let l = entries_length p (item_count p) in
        let s : length (entries_in p (item_count p)) ≤ i = omega arith in
        sym (append-nil es) ∙ (rw (drop_of_length-le (entries_in p (item_count p)) s) at a.entries)

    -- the i-th entry, by the leaf as it was loaded
    module _ (leaf : Node) (q : leaf ≡ node_in p) (h : i < n) where
      pub entry_small : i < 8
      entry_small = let c = a.count in let f = a.leaf.few_items in omega arith

      pub entry_nine : i < 9
      entry_nine = let s = entry_small in omega arith

      pub entry_test : (b : Bool) → b ≡ u (node_entry leaf i) → b ≡ u (entry_in p i)
      entry_test b e = loaded_test p leaf q u i b entry_small e

      pub entry_read : (e : Entry) → tree_entry e ≡ node_entry leaf i → tree_entry e ≡ entry_in p i
      entry_read e f = loaded_is p leaf q i e entry_small f

      -- what was made of the entry
      pub entry_put : (make : CellEntry → List ℕ) (e : Entry) (l : List ℕ) → tree_entry e ≡ node_entry leaf i
          → l ≡ make (tree_entry e) → l ≡ make (entry_in p i)
      entry_put make e l f g = g ∙ ap make (entry_read e f)

    module _ (h : i < n) (b : Bool) (e : b ≡ u (entry_in p i)) where
      whole : es ++ cond b (entry_in p i ∷ keep u (drop (i + 1) (entries_in p (item_count p)))) (keep u (drop (i + 1) (entries_in p (item_count p)))) ≡ leaf_entries u p
      unfolding keep
      whole = rw e (rw (entries_next p (item_count p) i (rw a.count at h)) at a.entries)

      pub entry_miss : b ≡ false → AtEntry u p n (i + 1) es
      entry_miss f = record { count = a.count; i_le = omega arith; leaf = a.leaf; entries = rw f at whole }

      pub entry_hit : b ≡ true → AtEntry u p n (i + 1) (es ++ (entry_in p i ∷ []))
      entry_hit f = record {
        count = a.count;
        i_le = omega arith;
        leaf = a.leaf;
        entries = append_snoc es (entry_in p i) (keep u (drop (i + 1) (entries_in p (item_count p)))) ∙ (rw f at whole);
      }
