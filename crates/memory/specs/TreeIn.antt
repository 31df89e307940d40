-- A memory that reads as an index, and the root of its tree.
use Rattle.std.specs.Prelude.{ℕ, List, Bool, true, ◌≡◌}
use Rattle.std.proofs.Math.Option.{some}
use Rattle.tree.specs.Tree.{Tree}
use Rattle.plane.specs.Fanout.{fanout, index_space, PlaneIndex}
use Rattle.memory.specs.Layout.{root_in}
use Rattle.memory.specs.Reading.{reading}

-- the memory reads as an index: the empty one or a sound tree
pub record Reads (m : List ℕ) : Type 0 where
  pub index : PlaneIndex
  pub reads : reading fanout m ≡ some index

-- whether the memory is known to read as an index: true only where it does
pub record Known (m : List ℕ) (known : Bool) : Type 0 where
  pub sound : known ≡ true → Reads m

-- the memory reads as a tree with its root at this part and its leaves so many steps below it
pub record TreeIn (m : List ℕ) (level root : ℕ) : Type 0 where
  pub tree : Tree index_space
  pub reads : reading fanout m ≡ some (some tree)
  pub level_is : tree.level ≡ level
  pub root_is : root_in m ≡ root
