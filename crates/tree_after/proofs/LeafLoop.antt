-- The loop over a leaf's entries that are on every side: they are gathered in a leaf.
use Prim.Native.Nat.{ℕ, ◌+◌, ◌≤◌, ◌<◌}
use mathlib.Core.Path.{◌≡◌, refl, ap, ◌∙◌, sym}
use mathlib.Core.List.{List, [], ◌∷◌, ◌++◌, map, map-append}
use native.Mathlib.Omega.{arith}
use lib.ListN.{length, length-map}
use Rattle.std.specs.Prelude.{Option, None, Some}
use Rattle.std.specs.Iterator.{Yields}
use Rattle.std.proofs.lemmas.Iterator.{YieldsList}
use Rattle.std.proofs.lemmas.Iterator.Consumers.{YieldsList-turn, YieldsList-end}
use Rattle.geometry.specs.declared.rect.Side.{Side}
use Rattle.tree.proofs.Counts.{length_keep}
use Rattle.memory.specs.Layout.{item_count, entries_in}
use Rattle.memory.proofs.ReadingLaws.{entries_length}
use Rattle.layout.specs.declared.entry.Entry.{Entry}
use Rattle.layout.specs.declared.node.Node.{Node}
use Rattle.layout.specs.Entries.{tree_entry}
use Rattle.layout.specs.Items.{put_entry}
use Rattle.layout.specs.Loaded.{leaf_of, with_entry}
use Rattle.layout.specs.Nodes.{NodePart}
use Rattle.layout.proofs.LoadedLaws.{count_entries, entry_is, entry_more}
use Rattle.walks.specs.Walks.{leaf_entries}
use Rattle.split_line.specs.Sides.{on_test}
use Rattle.tree_after.specs.Leaves.{leaf_remaining}

few_remaining : (ss : List Side) (p : List ℕ) → NodePart p → length (leaf_remaining ss p) ≤ 8
unfolding leaf_remaining leaf_entries
few_remaining ss p v =
    let f = v.few_items in
    let k = length_keep (on_test ss) (entries_in p (item_count p)) in
    let l = entries_length p (item_count p) in
    omega arith

-- s gives the entries that remain; it gave xs, the leaf has those, and t is what is left of it
module _ {S : Type 0} {steps : S → Option Entry → S → Type 0} {s : S} (ss : List Side) (p : List ℕ) (v : NodePart p)
    (xs : List Entry) (t : S) (y : Yields steps s xs t) (road : YieldsList steps tree_entry s (leaf_remaining ss p))
    (remaining : Node) (so_far : remaining ≡ leaf_of (map tree_entry xs)) where
  count_is : remaining.count ≡ length xs
  count_is = ap (λ (n : Node). n.count) so_far ∙ count_entries (map tree_entry xs) ∙ length-map xs tree_entry

  module _ (x : Entry) (u : S) (k : steps t (Some x) u) where
    pub gather_small : remaining.count < 9
    gather_small =
        let f = few_remaining ss p v in
        let l = (YieldsList-turn road xs t y (Some x) u x refl k).0 in
        let c = count_is in
        omega arith

    pub gather_again : (items : List ℕ) → items ≡ put_entry remaining.items remaining.count (tree_entry x)
        → record { count = remaining.count + 1; items = items } ≡ leaf_of (map tree_entry (xs ++ (x ∷ [])))
    gather_again items q =
        let f = gather_small in
        let c = count_is in
        let l = length-map xs tree_entry in
        entry_is remaining (tree_entry x) items q ∙ ap (λ (n : Node). with_entry n (tree_entry x)) so_far
        ∙ entry_more (map tree_entry xs) (tree_entry x) (omega arith) ∙ ap leaf_of (sym (map-append tree_entry xs (x ∷ [])))

  module _ (u : S) (k : steps t None u) where
    pub gather_end : remaining ≡ leaf_of (leaf_remaining ss p)
    gather_end = so_far ∙ ap leaf_of (YieldsList-end road xs t y None u refl k).0

    pub gather_few : remaining.count ≤ 8
    gather_few =
        let f = few_remaining ss p v in
        let e = (YieldsList-end road xs t y None u refl k).1 in
        let c = count_is in
        omega arith
