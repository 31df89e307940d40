-- A node loaded from its part is the node of the part's entries or children.
use Prim.Native.Nat.{ℕ, ◌≤◌}
use mathlib.Core.Path.{◌≡◌, sym, ap, ◌∙◌}
use mathlib.Core.Bool.{true}
use mathlib.Core.List.{List, flat_map}
use native.Mathlib.Omega.{arith}
use lib.ListN.{length, take, drop, length-take, length-drop}
use lib.Seq.{take_at}
use Rattle.geometry.specs.declared.rect.Rect.{Rect}
use Rattle.geometry.proofs.NumberLaws.{length_rects}
use Rattle.memory.specs.Layout.{rect_count, item_count, polygon_in, entries_in, children_in, rest_zero}
use Rattle.memory.specs.Image.{padded, entry_numbers, node_part}
use Rattle.memory.proofs.PartImage.{length_padded, part_items, length_entries}
use Rattle.memory.proofs.ReadingLaws.{entries_length}
use Rattle.layout.specs.Loaded.{node_of, leaf_of, routing_of, node_in}
use Rattle.layout.proofs.LoadedLaws.{padded_twice}
use Rattle.layout.proofs.PartCopies.{leaf_image, routing_image}

-- the start of a list that was filled up
padded_start : (n k : ℕ) (l : List ℕ) → n ≤ k → length l ≤ n → take n (padded k l) ≡ padded n l
padded_start n k l h f = ap (take n) (sym (padded_twice n k l h)) ∙ first (padded n l) (length_padded n l f)
  where
    first : (z : List ℕ) → length z ≡ n → take n (padded k z) ≡ z
    first z e = unfold padded in take_at z _ n e

-- the node of an image
image_node : (p : List Rect) (c : ℕ) (items : List ℕ) → length p ≤ 16 → length items ≤ 27
    → node_in (node_part p c items) ≡ node_of c items
unfolding node_in node_of node_part
image_node p c items few fit = rw (part_items p c items few (omega arith), padded_start 27 62 items (omega arith) fit)

module _ (p : List ℕ) (long : length p ≡ 128) (few : rect_count p ≤ 16) (items : item_count p ≤ 8) where
  few_rects : length (polygon_in p) ≤ 16
  few_rects = let e = length_rects (drop 2 p) (rect_count p) in omega arith

  pub loaded_leaf : rest_zero 3 p ≡ true → node_in p ≡ leaf_of (entries_in p (item_count p))
  unfolding leaf_of
  loaded_leaf rest =
      let es = entries_in p (item_count p) in
      let n = entries_length p (item_count p) in
      let l = length_entries es in
      ap node_in (leaf_image p long few items rest)
      ∙ image_node (polygon_in p) (item_count p) (flat_map entry_numbers es) few_rects (omega arith)
      ∙ ap (λ (c : ℕ). node_of c (flat_map entry_numbers es)) (sym n)

  pub loaded_routing : rest_zero 1 p ≡ true → node_in p ≡ routing_of (children_in p)
  unfolding routing_of
  loaded_routing rest =
      let n : length (children_in p) ≡ item_count p = simp (length-take, length-drop) (omega arith) in
      ap node_in (routing_image p long few items rest)
      ∙ image_node (polygon_in p) (item_count p) (children_in p) few_rects (omega arith)
      ∙ ap (λ (c : ℕ). node_of c (children_in p)) (sym n)
