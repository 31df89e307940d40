-- The first n elements of an array, for loops that count up over it.
use mathlib.Core.Path.{◌≡◌, sym, ◌∙◌}
use mathlib.Core.List.{List, [], ◌∷◌, map}
use Prim.Native.Nat.{ℕ, ◌+◌, ◌≤◌, ◌<◌}
use native.Mathlib.Numerals.{add-one}
use native.Mathlib.Omega.{arith}
use lib.ListN.{length, take, drop, get_or, drop_of_length-le, length-map, length-take}
use lib.Seq.{drop-cons, get_or-take, length-take-le}
use Rattle.geometry.specs.declared.polygon.Polygon.{Polygon}
use Rattle.geometry.specs.Numbers.{rects_of}

-- what is left from the i-th on
pub array_next : {A : Type 0} (n i : ℕ) (xs : List A) (d : A) → i < n → n ≤ length xs → drop i (take n xs) ≡ get_or xs i d ∷ drop (i + 1) (take n xs)
array_next n i xs d h k =
    let l : length (take n xs) ≡ n = length-take-le n xs k in
    let g : i < length (take n xs) = omega arith in
    rw (add-one, drop-cons (take n xs) i d g, get_or-take)

pub array_end : {A : Type 0} (n i : ℕ) (xs : List A) → n ≤ i → n ≤ length xs → drop i (take n xs) ≡ []
array_end n i xs h k =
    let l : length (take n xs) ≡ n = length-take-le n xs k in
    let g : length (take n xs) ≤ i = omega arith in
    drop_of_length-le (take n xs) g

-- the length of an array field, from what owning its struct tells
pub of_map : {A B : Type 0} (f : A → B) (xs : List A) (n : ℕ) → length (map f xs) ≡ n → length xs ≡ n
of_map f xs n e = sym (length-map xs f) ∙ e

-- a polygon's list has as many rectangles as it counts, 16 at most
pub few_of : (p : Polygon) → length (rects_of p) ≤ 16
few_of p = let k = p.few in rw length-take (omega arith)
