-- The error that `?` hands on from the list of a grown polygon.
use Prim.Native.Nat.{ℕ}
use mathlib.Core.List.{List}
use mathlib.Core.Option.{Option}
use Rattle.std.proofs.Common.{Result, Ok, Err, IsErr}
use Rattle.geometry.specs.declared.cut.TooMany.{TooMany}
use Rattle.geometry.specs.declared.rect.Rect.{Rect}
use Rattle.geometry.specs.Numbers.{Written}
use Rattle.choose_branch.specs.declared.pieces.Grown.{Grown}
use Rattle.choose_branch.specs.Limit.{grown_count}

-- it is the only one there is
pub any_grown : {m : List ℕ} {limited : Option (List Rect)} {m' : List ℕ} (r : Result Grown TooMany) (x : TooMany) → IsErr r
    → Written m limited (Err x) m' → Written m limited (grown_count r) m'
any_grown (Ok n) x h w = absurd cc
any_grown (Err y) x h w = w
