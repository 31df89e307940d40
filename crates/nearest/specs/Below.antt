-- The walk for the nearest entry in a memory, below the node at a part.
use Rattle.std.specs.Prelude.{ℕ, suc, List, ◌≡◌}
use Rattle.std.proofs.Math.Option.{Option, none, some}
use Rattle.geometry.specs.declared.rect.Cell.{Cell}
use Rattle.geometry.specs.declared.rect.Rect.{Rect}
use Rattle.tree.specs.Nodes.{Item}
use Rattle.tree.specs.Sound.{SoundItem}
use Rattle.tree.specs.Nearest.{walk_node}
use Rattle.plane.specs.Fanout.{fanout, index_space}
use Rattle.memory.specs.Reading.{read_node}
use Rattle.walks.specs.Walks.{Walkable}
use Rattle.nearest.specs.declared.near.Near.{Near}
use Rattle.nearest.specs.Near.{MetBy, near_of, met_of}

-- the walk below a node, from what was met before; where nothing reads, nothing more is met
unfoldable pub walk_from : (c : Cell) (n : ℕ) → MetBy c → Option (Item index_space (suc n)) → MetBy c
walk_from c n w none = w
walk_from c n w (some b) = walk_node index_space c n w b.child

-- the walk below the node at part k, whose leaves are n steps below it
unfoldable pub walk_below : (c : Cell) (n : ℕ) → List ℕ → ℕ → ℕ → MetBy c → MetBy c
walk_below c n m lo k w = walk_from c n w (read_node fanout n m lo k)

abbrev pub near_below : Cell → ℕ → List ℕ → ℕ → ℕ → Near → Near
near_below c n m lo k r = near_of c (walk_below c n m lo k (met_of c r))

-- the node at part k can be walked, and it and all below it are sound
pub record NearWalk (n : ℕ) (m : List ℕ) (lo k : ℕ) : Type 0 where
  pub walk : Walkable n m lo k
  pub sound : (b : Item index_space (suc n)) → read_node fanout n m lo k ≡ some b
      → (p : List Rect) × SoundItem index_space (suc n) p b
