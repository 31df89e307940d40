-- The returns of the form for C of the call that writes a polygon as Well-Known Binary.
use mathlib.Core.Path.{◌≡◌, refl, sym, ◌∙◌}
use mathlib.Core.Bool.{Bool, true, false}
use mathlib.Core.List.{List}
use Prim.Native.Nat.{ℕ, ◌/◌, ◌≤◌, ◌<◌}
use native.Mathlib.Omega.{arith}
use lib.ListN.{length}
use Rattle.polygons.specs.Limits.{most_of_polygon}
use Rattle.wkb.specs.Collection.{wkb_length}
use Rattle.std.specs.Prelude.{Result, Ok, Err}
use Rattle.drawing.specs.declared.answer.Refusal.{Refusal}
use Rattle.drawing.specs.Arguments.{is_list}
use Rattle.drawing.specs.Wkb.{wkb_of, wkb_answer, WkbWritten}
use Rattle.drawing_c.specs.Exports.{refusal_number, WkbExported}
use Rattle.drawing.proofs.Returns.{list_few}

-- an accepted polygon has at most 16 rectangles, so at most 1497 bytes
answer_few : (v r : Bool) (p : List ℕ) (n : ℕ) → v ≡ is_list most_of_polygon p
    → Ok n ≡ wkb_of v r (wkb_length (length p / 4)) → n ≤ 1497
unfolding wkb_of
answer_few true true p n e q =
    let s : n ≡ wkb_length (length p / 4) = cc in
    let l = list_few most_of_polygon p true e refl in
    omega arith
answer_few true false p n e q = absurd cc
answer_few false r p n e q = absurd cc

-- the form for C, from the answer a and the output at exit
module _ (p out out' : List ℕ) (a : Result ℕ Refusal) (w : WkbWritten p out a out') where
  module _ (n : ℕ) (f : a ≡ Ok n) where
    pub bytes_fit : n < 4294967296
    bytes_fit = let h = answer_few (is_list most_of_polygon p) _ p n refl (sym f ∙ w.answer) in omega arith

    pub bytes_exported : (told : ℕ) → WkbExported p out told 0 out' n
    bytes_exported told =
        let q : Ok n ≡ wkb_answer p out = sym f ∙ w.answer in
        record { refusal = rw (← q); output = w.output; length_told = rw (← q) }

  pub refused_exported : (r : Refusal) (n told : ℕ) → a ≡ Err r → n ≡ refusal_number r → WkbExported p out told n out' told
  refused_exported r n told f g =
      let q : Err r ≡ wkb_answer p out = sym f ∙ w.answer in
      record { refusal = rw (← q) g; output = w.output; length_told = rw (← q) }
