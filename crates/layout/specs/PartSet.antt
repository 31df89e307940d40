-- A memory in which one part, its bit, or the tree's height and root changed.
use Rattle.std.specs.Prelude.{ℕ, ◌+◌, ◌*◌, ◌-◌, ◌/◌, ◌%◌, ◌^◌, ◌<◌, true, List, ◌++◌, ◌≡◌, get_or, set, take, drop, replicate}
use Rattle.memory.specs.Layout.{part, in_use}
use Rattle.layout.specs.Nodes.{PartIn}
use Rattle.layout.specs.Gap.{EntryDropped, BranchDropped}

-- the memory with the numbers p in part k
unfoldable pub set_part : List ℕ → ℕ → List ℕ → List ℕ
set_part m k p = take (64 + 128 * k) m ++ (p ++ drop 128 (drop (64 + 128 * k) m))

-- the memory with the bit of part k cleared, which was set
unfoldable pub without_bit : List ℕ → ℕ → List ℕ
without_bit m k = set m (k / 32) (get_or m (k / 32) 0 - 2 ^ (k % 32))

-- the memory with part k set free: 'Unused numbers are zero'
abbrev pub freed : List ℕ → ℕ → List ℕ
freed m k = set_part (without_bit m k) k (replicate 128 0)

-- the memory without a height and a root
abbrev pub no_tree : List ℕ → List ℕ
no_tree m = set (set m 8 0) 9 0

-- Part k is one of the memory's and in use.
pub record UsedPart (m : List ℕ) (k : ℕ) : Type 0 where
  pub below : k < 256
  pub ends : PartIn m k
  pub used : in_use m k ≡ true

-- The leaf at part k lost its i-th entry.
pub record EntryDroppedAt (m : List ℕ) (k i : ℕ) (m' : List ℕ) : Type 0 where
  pub new : List ℕ
  pub entry : EntryDropped i (part m k) new
  pub memory : m' ≡ set_part m k new

-- The routing node at part k lost its i-th branch.
pub record BranchDroppedAt (m : List ℕ) (k i : ℕ) (m' : List ℕ) : Type 0 where
  pub new : List ℕ
  pub branch : BranchDropped i (part m k) new
  pub memory : m' ≡ set_part m k new
