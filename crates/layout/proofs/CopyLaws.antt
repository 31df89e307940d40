-- A list that was copied whole to another one as long.
use Prim.Native.Nat.{ℕ, ◌≤◌}
use mathlib.Core.Path.{◌≡◌, ap, ◌∙◌}
use mathlib.Core.List.{List, ◌++◌, append-nil}
use native.Mathlib.Omega.{arith}
use lib.ListN.{length, take, drop, drop_of_length-le}
use lib.Seq.{take_all}

pub all_copied : (p q : List ℕ) → length q ≡ length p → take (length p) p ++ drop (length p) q ≡ p
all_copied p q h =
    let a : length p ≤ length p = omega arith in
    let b : length q ≤ length p = omega arith in
    ap (λ (z : List ℕ). z ++ drop (length p) q) (take_all (length p) p a) ∙ ap (λ (z : List ℕ). p ++ z) (drop_of_length-le q b) ∙ append-nil p
