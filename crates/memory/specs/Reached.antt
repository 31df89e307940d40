-- The parts that the reading of a subtree reaches, for the laws that no part is reached twice.
use Rattle.std.specs.Prelude.{ℕ, zero, suc}
use mathlib.Core.List.{List, [], ◌∷◌, ◌++◌, flat_map}
use Rattle.memory.specs.Layout.{part, children_in}

-- the parts of the subtree at part k, whose leaves lie n steps below it: depth-first, the node's own part last
unfoldable pub reached : (n : ℕ) → List ℕ → ℕ → List ℕ
reached zero m k = k ∷ []
reached (suc n) m k = flat_map (reached n m) (children_in (part m k)) ++ (k ∷ [])
