-- The memory that a tree's parts are written to.
use Rattle.std.specs.Prelude.{ℕ, ◌+◌, ◌*◌, ◌-◌, List, ◌++◌, take, drop, replicate}
use Rattle.memory.specs.Image.{head_numbers}

-- a memory of so many numbers with the first parts of a work area: their bits, the height and the root's part, which
-- is the last; then the parts, then zeros
unfoldable pub written : ℕ → ℕ → ℕ → List ℕ → List ℕ
written len parts height w = head_numbers parts height
    ++ (take (128 * parts) (drop 64 w) ++ replicate (len - (64 + 128 * parts)) 0)
