-- The returns of the call that writes a polygon as Well-Known Binary.
use mathlib.Core.Path.{◌≡◌, refl, sym, ap, ◌∙◌}
use mathlib.Core.Bool.{Bool, true}
use mathlib.Core.List.{List, ◌++◌}
use Prim.Native.Nat.{ℕ, ◌+◌, ◌*◌, ◌/◌, ◌≤◌, ◌<◌}
use native.Mathlib.Omega.{arith}
use borrow.Author.Tests.{le-leb, lt-leb}
use lib.ListN.{length, drop}
use Rattle.polygons.specs.Limits.{most_of_polygon}
use Rattle.geometry.specs.Numbers.{rects_in}
use Rattle.geometry.proofs.NumberLaws.{length_rects}
use Rattle.wkb.specs.Bytes.{overwritten}
use Rattle.wkb.specs.Collection.{collection_bytes}
use Rattle.wkb.proofs.CollectionLaws.{length_collection}
use Rattle.std.specs.Prelude.{Result, Ok, Err, ⊤}
use Rattle.std.specs.Result.{IsErrAnd}
use Rattle.drawing.specs.declared.answer.Refusal.{Refusal}
use Rattle.drawing.specs.declared.answer.Refusal.TheVariants.{ShortOutput}
use Rattle.drawing.specs.Arguments.{given, is_list, accepted}
use Rattle.drawing.proofs.Accepted.{is_true, handed_on}
use Rattle.drawing.specs.Wkb.{wkb_of, wkb_answer, output_of, WkbWritten}

-- the answer, and the output that goes with it
left : (p out out' : List ℕ) (a : Result ℕ Refusal) → a ≡ wkb_answer p out → out' ≡ output_of a (given p) out
    → WkbWritten p out a out'
left p out out' a e o = record { answer = e; output = o ∙ ap (λ (b : Result ℕ Refusal). output_of b (given p) out) e }

-- a list written over the front of another
front : (out bytes : List ℕ) (n : ℕ) → length bytes ≡ n → overwritten out 0 bytes ≡ bytes ++ drop n out
unfolding overwritten
front out bytes n e = let m : 0 + length bytes ≡ n = omega arith in ap (λ (k : ℕ). bytes ++ drop k out) m

-- test by test
module _ (p out : List ℕ) (a : Result ⊤ Refusal) (b : Bool) (e : b ≡ is_list most_of_polygon p) (d : a ≡ accepted b) where
  pub bad_polygon : (r : Result ℕ Refusal) (x : Refusal) → a ≡ Err x → IsErrAnd r (λ y. y ≡ x) → WkbWritten p out r out
  unfolding wkb_of
  bad_polygon r x f v = let t = handed_on b a d r x f v in rw t.1 (left p out out _ (rw (← e, t.0)) refl)

  module _ (f : a ≡ Ok tt) where
    pub polygon_is : is_list most_of_polygon p ≡ true
    polygon_is = sym e ∙ is_true b a d f

    pub short_output : length out < 9 + 93 * (length p / 4) → WkbWritten p out (Err ShortOutput) out
    unfolding wkb_of
    short_output h = left p out out _ (rw (polygon_is, lt-leb _ _ h)) refl

    pub written : (out' : List ℕ) → 9 + 93 * (length p / 4) ≤ length out
        → out' ≡ overwritten out 0 (collection_bytes (rects_in p (length p / 4)))
        → WkbWritten p out (Ok (9 + 93 * (length p / 4))) out'
    unfolding wkb_of
    written out' h o =
        let n : length (collection_bytes (given p)) ≡ 9 + 93 * (length p / 4)
        = length_collection (given p) ∙ rw (length_rects p (length p / 4)) in
        left p out out' _ (rw (polygon_is, le-leb _ _ h)) (o ∙ front out (collection_bytes (given p)) _ n)
