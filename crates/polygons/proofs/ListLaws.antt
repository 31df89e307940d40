-- Lists that are appended, and lists put together of what each element gives.
use Prim.Native.Nat.{◌≤◌}
use mathlib.Core.Bool.{Bool, ◌||◌, or_assoc}
use mathlib.Core.Path.{◌≡◌, refl}
use mathlib.Core.List.{List, [], ◌∷◌, ◌++◌, flat_map, append_assoc}
use native.Mathlib.Omega.{arith}
use lib.ListN.{length, length-append}
use Rattle.polygons.specs.Lists.{any}

-- some element of two lists passes a test, if one of the first or one of the second does
pub any_append : {A : Type 0} (t : A → Bool) (l m : List A) → any t (l ++ m) ≡ any t l || any t m
unfolding any
any_append t [] m = refl
any_append t (a ∷ l) m = rw (any_append t l m, or_assoc)

module _ {A B : Type 0} (f : A → List B) where
  -- what the elements of two lists give
  pub flat_map_append : (l m : List A) → flat_map f (l ++ m) ≡ flat_map f l ++ flat_map f m
  unfolding flat_map
  flat_map_append [] m = refl
  flat_map_append (a ∷ l) m = rw (flat_map_append l m, append_assoc)

  -- where each element gives none or one, no list becomes longer
  pub length_flat_map : (l : List A) → ((a : A) → length (f a) ≤ 1) → length (flat_map f l) ≤ length l
  unfolding flat_map
  length_flat_map [] h = omega arith
  length_flat_map (a ∷ l) h = simp length-append (omega (arith, h a, length_flat_map l h))
