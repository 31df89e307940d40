-- `scan::first_join` meets its contract: what it has passed is joinable with no later one.
use mathlib.Core.Path.{◌≡◌}
use mathlib.Core.Bool.{false}
use Prim.Native.Nat.{ℕ, ◌≤◌, ◌<◌}
use Rattle.geometry.specs.Refine.{has_partner}
use Rattle.geometry.specs.Numbers.{rects_in}
use Rattle.refinement.proofs.scan.first_join.Given as goal

abbrev pub invariant-loop-i : goal.invariant-loop-i
invariant-loop-i l = (k : ℕ) → l.from ≤ k → k < l.i → has_partner (rects_in l.list l.n) k ≡ false
