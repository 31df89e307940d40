-- What a change in the subtree of a node leaves as it was.
use Rattle.std.specs.Prelude.{ℕ, ◌≤◌, ◌<◌, List, ◌⊎◌, ◌≡◌, length, get_or}
use Rattle.memory.specs.Layout.{part, in_use}

-- Beside the bits and the parts from lo to k, m' is as m.
pub record Beside (m : List ℕ) (lo k : ℕ) (m' : List ℕ) : Type 0 where
  pub same_length : length m' ≡ length m
  pub head : (x : ℕ) → 8 ≤ x → x < 64 → get_or m' x 0 ≡ get_or m x 0
  pub parts : (j : ℕ) → (j < lo) ⊎ (k < j) → part m' j ≡ part m j
  pub in_use : (j : ℕ) → j < 256 → (j < lo) ⊎ (k < j) → in_use m' j ≡ in_use m j
