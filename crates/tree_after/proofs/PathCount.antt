-- The count of the nodes left of the node on the path: ranges of branches, the leaf, a node on top of its branches, the node at a level.
use Prim.Native.Nat.{ℕ, suc, ◌+◌, ◌-◌, ◌≤◌, ◌<◌, min}
use mathlib.Core.Path.{◌≡◌, refl, sym, ap, ◌∙◌}
use mathlib.Core.Bool.{Bool, true, false}
use mathlib.Core.List.{List, ◌∷◌, ◌++◌}
use native.Mathlib.Omega.{arith}
use lib.ListN.{length}
use Rattle.path.specs.declared.level.Level.{Level}
use Rattle.std.specs.Prelude.{Some, None}
use Rattle.geometry.specs.declared.rect.Line.{Line}
use Rattle.geometry.specs.declared.rect.Side.{Side}
use Rattle.geometry.specs.declared.rect.Side.TheVariants.{Left, Right}
use Rattle.tree.specs.Lists.{total}
use Rattle.tree.specs.Nodes.{Item, nodes}
use Rattle.plane.specs.Lines.{CellEntry}
use Rattle.plane.specs.Fanout.{index_space}
use Rattle.memory.specs.Layout.{part}
use Rattle.layout.specs.declared.node.Node.{Node}
use Rattle.layout.specs.Loaded.{leaf_of}
use Rattle.layout.specs.Nodes.{child_at, count_at}
use Rattle.layout.proofs.LoadedLaws.{count_entries}
use Rattle.walks.specs.Walks.{Walkable}
use Rattle.split_line.specs.Sides.{side_of, sides_of}
use Rattle.path.specs.Path.{part_on, place_on, line_on, polygon_on}
use Rattle.tree_after.specs.Writes.{counted, deep_at}
use Rattle.tree_after.specs.Path.{half_under, cut_under, PathNode, PathFrom}
use Rattle.tree_after.specs.Rows.{kept, node_parts, range_under, before_on, behind_on}
use Rattle.tree_after.proofs.CountLaws.{counted_few, counted_more}
use Rattle.tree_after.proofs.CountLoop.{under_count}
use Rattle.tree_after.proofs.CutLaws.{front_is, cut_whole, cut_split}
use Rattle.tree_after.proofs.HalfLaws.{branches_on, middle_on, to_half}
use Rattle.tree_after.proofs.PathLeaf.{entries_on, leaf_half}
use Rattle.tree_after.proofs.RowLaws.{branch_at, range_cons, range_none}
use Rattle.tree_after.proofs.BranchLaws.{leaf_nodes_under}

-- Before the i-th branch of the node at part k, of those from the first to before the last: nodes counts those before the first and what remains of the earlier ones.
pub record RangeLoop (n : ℕ) (m : List ℕ) (k from to : ℕ) (ss : List Side) (start i nodes : ℕ) : Type 0 where
  pub walk : Walkable (suc n) m 0 k
  pub i_le : i ≤ to
  pub to_le : to ≤ count_at m k
  pub so_far : min 257 (nodes + counted n (range_under n m k i to ss)) ≡ min 257 (start + counted n (range_under n m k from to ss))
  pub few : nodes ≤ 257

module _ (n : ℕ) (m : List ℕ) (k from to : ℕ) (ss : List Side) (start : ℕ) where
  pub range_start : Walkable (suc n) m 0 k → from ≤ to → to ≤ count_at m k → start ≤ 257 → RangeLoop n m k from to ss start from start
  range_start v h l f = record { walk = v; i_le = h; to_le = l; so_far = refl; few = f }

  module _ (i nodes : ℕ) (x : RangeLoop n m k from to ss start i nodes) where
    pub range_end : to ≤ i → nodes ≡ min 257 (start + counted n (range_under n m k from to ss))
    unfolding counted total
    range_end h =
        let a = x.i_le in
        let f = x.few in
        let e : i ≡ to = omega arith in
        let s = rw (e, range_none n m k to ss) at x.so_far in
        omega arith

    module _ (h : i < to) (j : ℕ) (j_is : j ≡ child_at m k i) where
      pub range_walk : Walkable n m 0 j
      range_walk = (branch_at n m k x.walk i j (let l = x.to_le in omega arith) j_is).walk

      pub range_again : (r nodes₁ : ℕ) → r ≡ counted n (deep_at n m 0 j ss) → nodes₁ ≡ min 257 (nodes + r)
          → RangeLoop n m k from to ss start (i + 1) nodes₁
      range_again r nodes₁ e q =
          let bs = deep_at n m 0 j ss in
          let cs = range_under n m k (i + 1) to ss in
          let c : counted n (range_under n m k i to ss) ≡ min 257 (counted n bs + counted n cs) =
          ap (counted n) (range_cons n m k x.walk ss i to j h x.to_le j_is) ∙ sym (counted_more n bs cs) in
          let s = x.so_far in
          record { walk = x.walk; i_le = omega arith; to_le = x.to_le; so_far = omega arith; few = omega arith }

-- the branches before the place of the path, and those behind it
pub beside_count : (level : ℕ) (path : List Level) (m : List ℕ) (ss : List Side) (to before r : ℕ) → to ≡ count_at m (part_on path level)
    → before ≡ min 257 (0 + counted (level - 1) (before_on level path m ss))
    → r ≡ min 257 (before + counted (level - 1) (range_under (level - 1) m (part_on path level) (place_on path level + 1) to ss))
    → r ≡ min 257 (counted (level - 1) (before_on level path m ss) + counted (level - 1) (behind_on level path m ss))
beside_count level path m ss to before r q a b = let d = rw q at b in omega arith

-- a count of some branches is at most the limit
pub count_few : (n : ℕ) (bs : List (Item index_space (suc n))) (r : ℕ) → r ≡ counted n bs → r ≤ 257
count_few n bs r e = let f = counted_few n bs in omega arith

-- the node on top of its branches
pub top_count : (ss : List Side) (nodes : ℕ) (b : Bool) → b ≡ kept ss nodes → b ≡ true → (r : ℕ) → r ≡ min 257 (nodes + 1) → r ≡ min 257 (nodes + node_parts ss nodes)
unfolding node_parts
top_count ss nodes b o f r e = let k : kept ss nodes ≡ true = sym o ∙ f in rw k e

pub top_no_count : (ss : List Side) (nodes : ℕ) (b : Bool) → b ≡ kept ss nodes → b ≡ false → nodes ≤ 257 → nodes ≡ min 257 (nodes + node_parts ss nodes)
unfolding node_parts
top_no_count ss nodes b o f h = let k : kept ss nodes ≡ false = sym o ∙ f in rw k (omega arith)

-- the leaf on the path
module _ (path : List Level) (m : List ℕ) (e : CellEntry) (ss : List Side) (v : PathNode 0 path m) (p : List ℕ) (p_is : p ≡ part m (part_on path 0)) (l : Node)
    (g : l ≡ leaf_of (entries_on p e ss)) (b : Bool) (o : b ≡ kept ss l.count) where
  leaf_count : counted 0 (half_under 0 path m e (sides_of ss)) ≡ min 257 (node_parts ss l.count)
  unfolding counted
  leaf_count =
      let c : l.count ≡ length (entries_on p e ss) = ap (λ (k : Node). k.count) g ∙ count_entries (entries_on p e ss) in
      let n : total (nodes index_space 1) (half_under 0 path m e (sides_of ss)) ≡ node_parts ss l.count =
      ap (total (nodes index_space 1)) (leaf_half path m e ss v p p_is) ∙ leaf_nodes_under ss (polygon_on path 0) (entries_on p e ss) ∙ ap (node_parts ss) (sym c) in
      ap (min 257) n

  pub leaf_counted : b ≡ true → 1 ≡ counted 0 (half_under 0 path m e (sides_of ss))
  unfolding node_parts
  leaf_counted f = let k : kept ss l.count ≡ true = sym o ∙ f in sym (leaf_count ∙ rw k)

  pub leaf_uncounted : b ≡ false → 0 ≡ counted 0 (half_under 0 path m e (sides_of ss))
  unfolding node_parts
  leaf_uncounted f = let k : kept ss l.count ≡ false = sym o ∙ f in sym (leaf_count ∙ rw k)

-- the two branches of a node that is split
pub cut_count : (n : ℕ) (path : List Level) (m : List ℕ) (e : CellEntry) (ss : List Side) (l : Line) (us vs : List Side) (lefts rights : ℕ) → line_on path n ≡ Some l
    → us ≡ Left l ∷ ss → lefts ≡ counted n (half_under n path m e (sides_of us))
    → vs ≡ Right l ∷ ss → rights ≡ counted n (half_under n path m e (sides_of vs))
    → min 257 (lefts + rights) ≡ counted n (cut_under n path m e (sides_of ss))
unfolding side_of
cut_count n path m e ss l us vs lefts rights h u a v b =
    rw (cut_split n path m e ss l us h u, ← (front_is vs ss (Right l) v), a, b) (counted_more n (half_under n path m e (sides_of us)) (half_under n path m e (sides_of vs)))

-- a routing node on the path
module _ (level : ℕ) (path : List Level) (m : List ℕ) (e : CellEntry) (ss : List Side) where
  pub half_leaf_count : (r : ℕ) → level ≡ 0 → r ≡ counted 0 (half_under 0 path m e (sides_of ss)) → r ≡ counted level (half_under level path m e (sides_of ss))
  half_leaf_count r z q = rw z q

  module _ (ne : level ≡ 0 → ⊥) (x : PathFrom level path m) (beside : ℕ)
      (s : beside ≡ min 257 (counted (level - 1) (before_on level path m ss) + counted (level - 1) (behind_on level path m ss))) where
    half_count : (middle nodes r : ℕ) → middle ≡ counted (level - 1) (middle_on level path m e ss) → nodes ≡ min 257 (beside + middle)
        → r ≡ min 257 (nodes + node_parts ss nodes) → r ≡ counted level (half_under level path m e (sides_of ss))
    half_count middle nodes r a b c =
        let p = counted_more (level - 1) (before_on level path m ss) (middle_on level path m e ss ++ behind_on level path m ss) in
        let q = counted_more (level - 1) (middle_on level path m e ss) (behind_on level path m ss) in
        let n : nodes ≡ counted (level - 1) (branches_on level path m e ss) = omega arith in
        to_half (λ k bs. r ≡ counted k bs) level path m e ss (omega arith) x
        ((rw n at c) ∙ sym (under_count (level - 1) ss (polygon_on path level) (branches_on level path m e ss)))

    pub whole_count : (middle nodes r : ℕ) → line_on path (level - 1) ≡ None → middle ≡ counted (level - 1) (half_under (level - 1) path m e (sides_of ss))
        → nodes ≡ min 257 (beside + middle) → r ≡ min 257 (nodes + node_parts ss nodes) → r ≡ counted level (half_under level path m e (sides_of ss))
    whole_count middle nodes r z a b c = half_count middle nodes r (rw (cut_whole (level - 1) path m e ss z) a) b c

    pub split_count : (l : Line) (us vs : List Side) (lefts rights both nodes r : ℕ) → line_on path (level - 1) ≡ Some l
        → us ≡ Left l ∷ ss → lefts ≡ counted (level - 1) (half_under (level - 1) path m e (sides_of us))
        → vs ≡ Right l ∷ ss → rights ≡ counted (level - 1) (half_under (level - 1) path m e (sides_of vs))
        → both ≡ min 257 (lefts + rights) → nodes ≡ min 257 (beside + both) → r ≡ min 257 (nodes + node_parts ss nodes)
        → r ≡ counted level (half_under level path m e (sides_of ss))
    split_count l us vs lefts rights both nodes r h u a v b d c f =
        half_count both nodes r (d ∙ cut_count (level - 1) path m e ss l us vs lefts rights h u a v b) c f
