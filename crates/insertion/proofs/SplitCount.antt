-- How many nodes on the path are split: the loop that counts them, and that each adds a node to the tree after.
use Prim.Native.Nat.{ℕ, zero, suc, ◌+◌, ◌≤◌, ◌<◌}
use mathlib.Core.Path.{◌≡◌, refl, sym, ap, ◌∙◌, subst}
use mathlib.Core.Bool.{false, cond}
use mathlib.Core.List.{List}
use native.Mathlib.Omega.{arith}
use native.Mathlib.Decide.{dec_lt, ℕ_discrete}
use Rattle.path.specs.declared.level.Level.{Level}
use Rattle.geometry.specs.declared.rect.Cell.{Cell}
use Rattle.tree.specs.Plan.{few}
use Rattle.tree.proofs.NodesGrow.{splits}
use Rattle.plane.specs.Lines.{CellEntry, Payload, entry_of}
use Rattle.plane.specs.Fanout.{index_space}
use Rattle.layout.specs.Nodes.{count_at}
use Rattle.path.specs.Path.{part_on}
use Rattle.tree_after.specs.Path.{way_at, PathFrom}
use Rattle.tree_after.proofs.PathLaws.{path_node}
use Rattle.insertion.specs.Planning.{GoodPath, FullLevels}
use Rattle.insertion.proofs.PathLaws.{path_below}
use Rattle.insertion.proofs.PlanLoop.{full_split}

-- The nodes below level n have eight items.
pub record Counting (level : ℕ) (path : List Level) (m : List ℕ) (n : ℕ) : Type 0 where
  pub most : n ≤ level + 1
  pub full : (j : ℕ) → j < n → count_at m (part_on path j) ≡ 8

module _ (level : ℕ) (path : List Level) (m : List ℕ) (n : ℕ) (v : Counting level path m n) where
  -- all nodes on the path have eight
  pub counting_end : level + 1 ≤ n → FullLevels level path m (level + 1)
  counting_end h = record { most = omega arith; full = λ j i. v.full j (omega arith); next = λ i. absurd (omega arith) }

  module _ (k size : ℕ) (q : k ≡ part_on path n) (e' : size ≡ count_at m k) where
    e : size ≡ count_at m (part_on path n)
    e = e' ∙ ap (count_at m) q

    pub counting_stop : size < 8 → FullLevels level path m n
    counting_stop h = let z = e in record { most = v.most; full = v.full; next = λ i. omega arith }

    pub counting_again : PathFrom level path m → n < level + 1 → 8 ≤ size → (n' : ℕ) → n' ≡ n + 1 → Counting level path m n'
    counting_again f h o n' i =
        record { most = omega arith; full = λ j l. full j (ℕ_discrete j n) (omega arith) }
      where
        full : (j : ℕ) → Dec (j ≡ n) → j < n + 1 → count_at m (part_on path j) ≡ 8
        full j (yes z) l =
            let w = (path_node path m n (path_below path m level n f (omega arith))).walk.few in
            let y = e in
            subst (λ (x : ℕ). count_at m (part_on path x) ≡ 8) (sym z) (omega arith)
        full j (no z) l = v.full j (omega arith)

-- no node is split
pub none_split : (level : ℕ) (path : List Level) (m : List ℕ) (n : ℕ) → FullLevels level path m n → n ≡ 0 → FullLevels level path m 0
none_split level path m n f z = subst (λ (k : ℕ). FullLevels level path m k) z f

-- the way that the path gives is split as often at least
ways_split : (level : ℕ) (path : List Level) (m : List ℕ) (e : CellEntry) (n : ℕ) → n ≤ level + 1
    → ((j : ℕ) → j < n → few index_space j (way_at j path m e) ≡ false)
    → n ≤ splits index_space level (way_at level path m e)
unfolding splits
ways_split zero path m e n h s = go (dec_lt 0 n)
  where
    go : Dec (0 < n) → n ≤ cond (few index_space zero (way_at zero path m e)) 0 1
    go (yes z) = rw (s 0 z) (omega arith)
    go (no z) = omega arith
ways_split (suc level) path m e n h s = go (dec_lt (suc level) n) (λ k i o. ways_split level path m e k i o)
  where
    below : (way_at (suc level) path m e).below ≡ way_at level path m e
    below = unfold way_at in refl

    go : Dec (suc level < n)
        → ((k : ℕ) → k ≤ level + 1 → ((j : ℕ) → j < k → few index_space j (way_at j path m e) ≡ false) → k ≤ splits index_space level (way_at level path m e))
        → n ≤ cond (few index_space (suc level) (way_at (suc level) path m e)) 0 1 + splits index_space level (way_at (suc level) path m e).below
    go (yes z) f =
        let a = f (level + 1) (omega arith) (λ j i. s j (omega arith)) in rw (s (suc level) z, below) (omega arith)
    go (no z) f = let a = f n (omega arith) s in rw below (omega arith)

-- so often are nodes split on the way of the insertion
pub split_often : (level : ℕ) (path : List Level) (m : List ℕ) (c : Cell) (n : ℕ) → GoodPath level path m c → FullLevels level path m n
    → (t : Payload) → n ≤ splits index_space level (way_at level path m (entry_of c t))
split_often level path m c n g f t =
    ways_split level path m (entry_of c t) n f.most (λ j h. full_split level path m c g n f.most f.full j h t)
