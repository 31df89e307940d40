-- Counts of nodes up to the limit: a leaf, the sum over children, a node on top of its children.
use Prim.Native.Nat.{ℕ, suc, ◌+◌, ◌≤◌, min}
use mathlib.Core.Path.{◌≡◌, refl, sym, ◌∙◌}
use mathlib.Core.Bool.{Bool, true, false}
use mathlib.Core.List.{List, [], ◌∷◌, ◌++◌}
use native.Mathlib.Omega.{arith}
use lib.ListN.{length}
use Rattle.geometry.specs.declared.rect.Side.{Side}
use Rattle.geometry.specs.declared.rect.Rect.{Rect}
use Rattle.tree.specs.Lists.{total, not_empty}
use Rattle.tree.specs.Nodes.{Item, nodes}
use Rattle.tree.specs.Plan.{clips}
use Rattle.tree.proofs.Counts.{total_append}
use Rattle.tree.proofs.Lists.{not_empty_length}
use Rattle.plane.specs.Lines.{CellEntry}
use Rattle.plane.specs.Fanout.{fanout, index_space}
use Rattle.memory.specs.Layout.{polygon_in}
use Rattle.memory.specs.Image.{write_node}
use Rattle.memory.proofs.NodeImage.{length_node}
use Rattle.split_line.specs.Sides.{sides_of}
use Rattle.tree_after.specs.Writes.{counted}
use Rattle.tree_after.specs.Leaves.{leaf_remaining, leaf_under}
use Rattle.tree_after.proofs.DeepRows.{under_some, under_none, length_sides}

-- a leaf is one node
pub leaf_nodes : (b : Item index_space 1) → nodes index_space 1 b ≡ 1
unfolding write_node
leaf_nodes b = sym (length_node fanout 0 0 b)

one_leaf : (b : Item index_space 1) → 1 ≡ counted 0 (b ∷ [])
unfolding counted total
one_leaf b = let e = leaf_nodes b in omega arith

pub none_counted : (n : ℕ) → 0 ≡ counted n []
unfolding counted total
none_counted n = omega arith

no_sides : (ss : List Side) → length ss ≡ 0 → sides_of ss ≡ []
unfolding sides_of
no_sides [] h = refl
no_sides (s ∷ ss) h = absurd (omega arith)

-- a leaf under sides
module _ (ss : List Side) (p : List ℕ) where
  pub leaf_whole : length ss ≡ 0 → 1 ≡ counted 0 (leaf_under ss p)
  unfolding leaf_under
  leaf_whole h = rw (no_sides ss h) (one_leaf (record { poly = polygon_in p; child = leaf_remaining ss p }))

  pub leaf_some : (b : Bool) → b ≡ not_empty (leaf_remaining ss p) → b ≡ true → 1 ≡ counted 0 (leaf_under ss p)
  unfolding leaf_under
  leaf_some b e f =
      let l = leaf_remaining ss p in
      rw (under_some (polygon_in p) l (sides_of ss) (not_empty_length l (sym e ∙ f))) (one_leaf (record { poly = clips index_space (sides_of ss) (polygon_in p); child = l }))

  pub leaf_dropped : (b : Bool) → (length ss ≡ 0 → ⊥) → b ≡ not_empty (leaf_remaining ss p) → b ≡ false → 0 ≡ counted 0 (leaf_under ss p)
  unfolding leaf_under
  leaf_dropped b ne e f =
      let l = leaf_remaining ss p in
      let s = length_sides ss in
      rw (under_none (polygon_in p) l (sides_of ss) (omega arith) (go l (sym e ∙ f))) (none_counted 0)
    where
      go : (l : List CellEntry) → not_empty l ≡ false → l ≡ []
      go [] g = refl
      go (x ∷ l) g = let z : ◌≡◌ {A = ℕ} 0 1 = cc in absurd (omega arith)

-- sums
pub counted_few : (n : ℕ) (bs : List (Item index_space (suc n))) → counted n bs ≤ 257
unfolding counted
counted_few n bs = omega arith

pub counted_more : (n : ℕ) (bs cs : List (Item index_space (suc n))) → min 257 (counted n bs + counted n cs) ≡ counted n (bs ++ cs)
unfolding counted
counted_more n bs cs = let t = total_append (nodes index_space (suc n)) bs cs in omega arith

pub counted_none : (n : ℕ) (bs : List (Item index_space (suc n))) → counted n bs ≡ 0 → bs ≡ []
unfolding counted total nodes
counted_none n [] h = refl
counted_none n (b ∷ bs) h = absurd (omega arith)

-- a node on top of its children
pub counted_node : (n : ℕ) (p : List Rect) (bs : List (Item index_space (suc n))) → min 257 (counted n bs + 1) ≡ counted (suc n) (record { poly = p; child = bs } ∷ [])
unfolding counted total nodes
counted_node n p bs = omega arith
