-- Two lists with the same entries in any order, as two indexes hold them that were given the same points in different
-- orders: a window and a cell have the same entries in both.
use Prim.Native.Nat.{◌≤◌}
use mathlib.Core.Path.{◌≡◌, ap}
use mathlib.Core.List.{List, head?, Permᴰ}
use Rattle.tree.specs.Lists.{keep, count_of, Bag}
use Rattle.tree.specs.Space.{Space}
use Rattle.tree.specs.Nodes.{EntryOf}
use Rattle.tree.specs.Query.{Window, of_cell, matching}
use Rattle.tree.proofs.Bags.{bag_keep, bag_perm, bag_one}
use Rattle.tree.proofs.Entries.{is_entry, is_entry_lem, own_entry}
use Rattle.tree.proofs.Laws.{Laws}

module _ (S : Space) (W : Laws S) (es fs : List (EntryOf S)) (same : Bag es fs) where
  -- "the entries it writes are rearrangements of each other"
  pub same_matches : (Win : Window S) (w : Win.W)
      → Permᴰ (keep (matching S Win w) es) (keep (matching S Win w) fs)
  same_matches Win w =
      let t = matching S Win w in
      bag_perm (is_entry S) (is_entry_lem S W) (own_entry S W) (keep t es) (keep t fs) (bag_keep t es fs same)

  -- "the same held or not held and the same tag", where at most one entry is of that cell
  pub same_entry : (c : S.Cell) → count_of (of_cell S c) es ≤ 1
      → head? (keep (of_cell S c) es) ≡ head? (keep (of_cell S c) fs)
  same_entry c h =
      let t = of_cell S c in
      ap head? (bag_one (is_entry S) (is_entry_lem S W) (own_entry S W) (keep t es) (keep t fs) h (bag_keep t es fs same))
