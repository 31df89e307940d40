-- The bits set in some numbers.
use mathlib.Core.Path.{◌≡◌, refl, ap, ◌∙◌}
use mathlib.Core.List.{List, [], ◌∷◌}
use Prim.Native.Nat.{ℕ, ◌+◌, ◌<◌, ◌≤◌}
use native.Mathlib.Omega.{arith}
use mir.Syntax.{w32}
use mir.Val.{Fits}
use lib.Count.{ones, ones-le}
use lib.ListN.{length, get_or, take, length-take}
use lib.Seq.{get_or-take}
use Rattle.std.specs.List.{sum_by}
use Rattle.std.proofs.lemmas.List.Sums.{sum_by-cons, sum_by-le}
use Rattle.std.proofs.lemmas.List.Elements.{All-from_get_or}
use Rattle.memory.specs.Layout.{ones_of}

pub ones_sum : (l : List ℕ) → sum_by ones l ≡ ones_of l
unfolding ones_of
ones_sum [] = refl
ones_sum (w ∷ l) = sum_by-cons ones w l ∙ ap (λ (n : ℕ). ones w + n) (ones_sum l)

pub few_ones : (m : List ℕ) → ((i : ℕ) → Fits w32 (get_or m i 0)) → sum_by ones (take 8 m) ≤ 256
few_ones m f =
    let l : length (take 8 m) ≤ 8 = rw length-take (omega arith) in
    let h = sum_by-le ones 32 (take 8 m) (All-from_get_or (λ w. ones w ≤ 32) (take 8 m) 0 (λ i g.
    let k : i < 8 = omega arith in
    ones-le 32 (get_or (take 8 m) i 0) (rw (get_or-take 8 m i 0 k) (omega (arith, f i))))) in
    omega arith
