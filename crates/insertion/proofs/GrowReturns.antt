-- The nodes on a path written in place, with the level as a number that falls.
use Prim.Native.Nat.{ℕ, zero, suc, ◌-◌, ◌<◌}
use mathlib.Core.Path.{◌≡◌, refl, ap, ◌∙◌}
use mathlib.Core.List.{List}
use native.Mathlib.Omega.{arith}
use lib.ListN.{length}
use Rattle.path.specs.declared.level.Level.{Level}
use Rattle.plane.specs.Lines.{CellEntry}
use Rattle.memory.specs.Layout.{part}
use Rattle.layout.specs.declared.node.Node.{Node}
use Rattle.layout.specs.Loaded.{node_in}
use Rattle.layout.specs.Nodes.{count_at}
use Rattle.layout.proofs.LoadedLaws.{count_at_lem}
use Rattle.path.specs.Path.{part_on}
use Rattle.tree_after.proofs.PathLaws.{path_node, path_down}
use Rattle.insertion.specs.Growing.{leaf_grown, node_grown, LevelIn, Growing, Grown}
use Rattle.insertion.proofs.GrowLeaf.{grown_leaf}
use Rattle.insertion.proofs.GrowNode.{grown_node_lem}

-- a level of the path in a memory of the same length
level_in : (n : ℕ) (path : List Level) (m m' : List ℕ) → Growing n path m → length m' ≡ length m → LevelIn n path m'
level_in n path m m' g l =
    let v = path_node path m n g.from in
    let x = v.walk.ends in
    record { room = v.room; few = v.few; ends = omega arith }

-- the leaf that is loaded has room
pub leaf_few : (path : List Level) (m : List ℕ) (k : ℕ) (n : Node) → k ≡ part_on path 0 → n ≡ node_in (part m k) → count_at m (part_on path 0) < 8 → n.count < 9
leaf_few path m k n z q h = let c = count_at_lem m k n q ∙ ap (count_at m) z in omega arith

module _ (level : ℕ) (path : List Level) (m : List ℕ) (g : Growing level path m) where
  module _ (z : level ≡ 0) where
    pub grow_leaf_in : LevelIn 0 path m
    grow_leaf_in = level_in 0 path m m (rw z at g) refl

    pub grow_leaf_done : (e : CellEntry) (m' : List ℕ) → m' ≡ leaf_grown path m e → Grown level path m e m'
    grow_leaf_done e m' q = rw z (grown_leaf path m e (rw z at g) m' q)

pub grow_below : (level : ℕ) (path : List Level) (m : List ℕ) → Growing level path m → (level ≡ 0 → ⊥) → Growing (level - 1) path m
grow_below level path m g ne = record {
  from = path_down path m level ne g.from;
  linked = record { child = λ j h. g.linked.child j (omega arith); fine = λ j h. g.linked.fine j (omega arith) };
  leaf = g.leaf;
  unused = g.unused;
}

pub grow_level : (level : ℕ) (path : List Level) (m : List ℕ) (e : CellEntry) (m₁ : List ℕ) → Growing level path m
    → Grown (level - 1) path m e m₁ → LevelIn level path m₁
grow_level level path m e m₁ g x = level_in level path m m₁ g x.same_length

pub grow_done : (level : ℕ) (path : List Level) (m : List ℕ) (e : CellEntry) (m₁ m' : List ℕ) → Growing level path m → (level ≡ 0 → ⊥)
    → Grown (level - 1) path m e m₁
    → m' ≡ node_grown level path m₁ → Grown level path m e m'
grow_done zero path m e m₁ m' g ne x q = absurd (ne refl)
grow_done (suc n) path m e m₁ m' g ne x q =
    let d : suc n - 1 ≡ n = omega arith in
    grown_node_lem n path m e g m₁ (rw d at x) m' q
