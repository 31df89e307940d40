-- What the early returns of a chain of four tests say of the chain.
use mathlib.Core.Path.{◌≡◌}
use mathlib.Core.Bool.{Bool, true, false, ◌&&◌}

module _ (a b c d : Bool) where
  pub stop_1 : a ≡ false → false ≡ a && b && c && d
  stop_1 e = rw e

  pub stop_2 : a ≡ true → b ≡ false → false ≡ a && b && c && d
  stop_2 e f = rw (e, f)

  pub stop_3 : a ≡ true → b ≡ true → c ≡ false → false ≡ a && b && c && d
  stop_3 e f g = rw (e, f, g)
