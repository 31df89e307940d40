-- The sides of a node in a list, from a place on, and one more put in front of them.
use Prim.Native.Nat.{ℕ, ◌+◌, ◌-◌, ◌≤◌, ◌<◌}
use mathlib.Core.Path.{◌≡◌, sym, ap, ◌∙◌}
use mathlib.Core.List.{List, [], ◌∷◌}
use native.Mathlib.Omega.{arith}
use native.Mathlib.Numerals.{add-one}
use lib.ListN.{length, take, drop, set, length-set, length-drop, drop_of_length-le}
use lib.Seq.{drop-cons, drop-drop, drop-set-lt, get_or-set_same, take_all}
use Rattle.geometry.specs.declared.rect.Side.{Side}
use Rattle.tree_after.specs.Sides.{SidesRoom, SidesKept}

-- a slice from a place on
pub slice_from : (xs : List Side) (at : ℕ) → take (length xs - at) (drop at xs) ≡ drop at xs
slice_from xs at = let l : length (drop at xs) ≤ length xs - at = rw length-drop (omega arith) in take_all (length xs - at) (drop at xs) l

-- a side was put in front
pub front_put : (xs : List Side) (at : ℕ) (s : Side) → 1 ≤ at → at ≤ length xs → drop (at - 1) (set xs (at - 1) s) ≡ s ∷ drop at xs
front_put xs at s h k =
    let e : at - 1 + 1 ≡ at = omega arith in
    let l : at - 1 < length (set xs (at - 1) s) = rw length-set (omega arith) in
    drop-cons (set xs (at - 1) s) (at - 1) s l
    ∙ rw (get_or-set_same xs (at - 1) s s (omega arith), ← add-one, e, drop-set-lt at xs (at - 1) s (omega arith))

-- what stands behind the front
pub front_behind : (xs : List Side) (at : ℕ) (s : Side) (ss : List Side) → 1 ≤ at → drop (at - 1) xs ≡ s ∷ ss → drop at xs ≡ ss
front_behind xs at s ss h e =
    let q : at - 1 + 1 ≡ at = omega arith in
    sym (ap (λ j. drop j xs) q) ∙ sym (drop-drop 1 (at - 1) xs) ∙ ap (drop 1) e

-- a slice from the place on of a list that was kept from there on
pub slice_kept : (xs : List Side) (at : ℕ) (ys : List Side) → SidesKept xs at ys → take (length ys - at) (drop at ys) ≡ drop at xs
slice_kept xs at ys k = slice_from ys at ∙ k.same

module _ (level : ℕ) (xs : List Side) (at : ℕ) (r : SidesRoom level xs at) (ne : level ≡ 0 → ⊥) where
  pub room_below : SidesRoom (level - 1) xs at
  room_below = let p = r.places in record { within = r.within; places = omega arith }

  -- a side was put in front, for the level below
  module _ (s : Side) where
    pub first_is : drop (at - 1) (set xs (at - 1) s) ≡ s ∷ drop at xs
    first_is = let p = r.places in let w = r.within in front_put xs at s (omega arith) w

    pub first_room : SidesRoom (level - 1) (set xs (at - 1) s) (at - 1)
    first_room =
        let p = r.places in
        let w = r.within in
        record { within = rw length-set (omega arith); places = omega arith }

    -- the level below keeps it
    module _ (ys : List Side) (k : SidesKept (set xs (at - 1) s) (at - 1) ys) where
      first_length : length ys ≡ length xs
      first_length = k.same_length ∙ length-set xs (at - 1) s

      first_kept : drop at ys ≡ drop at xs
      first_kept = let p = r.places in front_behind ys at s (drop at xs) (omega arith) (k.same ∙ first_is)

      pub kept_one : SidesKept xs at ys
      kept_one = record { same_length = first_length; same = first_kept }

      -- then another in its place
      module _ (u : Side) where
        pub second_is : drop (at - 1) (set ys (at - 1) u) ≡ u ∷ drop at xs
        second_is =
            let p = r.places in
            let w = r.within in
            let l = first_length in
            front_put ys at u (omega arith) (omega arith) ∙ ap (λ q. u ∷ q) first_kept

        pub second_room : SidesRoom (level - 1) (set ys (at - 1) u) (at - 1)
        second_room =
            let p = r.places in
            let w = r.within in
            let l = first_length in
            record { within = rw length-set (omega arith); places = omega arith }

        pub kept_both : (zs : List Side) → SidesKept (set ys (at - 1) u) (at - 1) zs → SidesKept xs at zs
        kept_both zs j =
            let p = r.places in
            record {
              same_length = j.same_length ∙ length-set ys (at - 1) u ∙ first_length;
              same = front_behind zs at u (drop at xs) (omega arith) (j.same ∙ second_is);
            }

-- the list of the root's sides: none, then one in front
module _ (xs : List Side) (h : length xs ≡ 257) where
  pub root_none : drop 257 xs ≡ []
  root_none = let k : length xs ≤ 257 = omega arith in drop_of_length-le xs k

  pub root_first : (s : Side) → drop 256 (set xs 256 s) ≡ s ∷ []
  root_first s = front_put xs 257 s (omega arith) (omega arith) ∙ ap (λ q. s ∷ q) root_none

  pub root_length : (s : Side) (ys : List Side) → SidesKept (set xs 256 s) 256 ys → length ys ≡ 257
  root_length s ys k = k.same_length ∙ length-set xs 256 s ∙ h
