-- Coded calls: the ways out of the test whether a call can be made.
use Prim.Native.Nat.{ℕ, ◌*◌, ◌/◌, ◌<◌}
use mathlib.Core.Bool.{Bool, true}
use mathlib.Core.List.{List}
use mathlib.Core.Path.{◌≡◌, sym, ◌∙◌}
use native.Mathlib.Omega.{arith}
use borrow.Author.Tests.{ltb-true, leb-true}
use lib.Dec.{leb, ltb}
use lib.ListN.{length, get_or}
use Rattle.polygons.proofs.Booleans.{split_and}
use Rattle.replay.specs.Coded.{from_at, to_at, last_kind, call_fits, Fits}

module _ (l : List ℕ) (i lent answers : ℕ) where
  -- what it says where it passes
  pub fits_of : (b : Bool) → b ≡ call_fits l i lent answers → b ≡ true → Fits l i lent answers
  unfolding call_fits
  fits_of b e f =
      let t = sym e ∙ f in
      let d = split_and _ (leb (to_at l i) lent) t in
      let c = split_and _ (leb (from_at l i) (to_at l i)) d.0 in
      let k = split_and _ (leb (get_or l (7 * i) 0) last_kind) c.0 in
      let r = split_and (ltb i (length l / 7)) (ltb i (answers / 8)) k.0 in
      let x : i < length l / 7 = ltb-true _ _ r.0 in
      let y : i < answers / 8 = ltb-true _ _ r.1 in
      record { there = omega arith; room = omega arith; ordered = leb-true _ _ c.1; inside = leb-true _ _ d.1 }
