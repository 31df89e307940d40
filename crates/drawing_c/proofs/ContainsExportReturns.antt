-- The returns of the containment test's form for C.
use mathlib.Core.Path.{◌≡◌, refl, sym, ◌∙◌}
use mathlib.Core.Bool.{Bool, true, false, cond}
use mathlib.Core.List.{List}
use Prim.Native.Nat.{ℕ, ◌/◌, ◌≤◌, ◌<◌}
use native.Mathlib.Omega.{arith}
use mir.Val.{bool_byte}
use lib.ListN.{length}
use Rattle.polygons.specs.Limits.{most_of_polygon}
use Rattle.polygons.proofs.Booleans.{split_and}
use Rattle.geometry.specs.declared.rect.Cell.{Cell}
use Rattle.geometry.specs.declared.containment.Containment.{Containment}
use Rattle.geometry.specs.Cells.{on_grid}
use Rattle.geometry.specs.Containment.{containment, compared}
use Rattle.geometry.proofs.ContainmentLaws.{compared_most}
use Rattle.geometry.proofs.NumberLaws.{length_rects}
use Rattle.std.specs.Prelude.{Result, Ok, Err}
use Rattle.drawing.specs.declared.answer.Refusal.{Refusal}
use Rattle.drawing.specs.Arguments.{given, is_list}
use Rattle.drawing.specs.Answers.{contains_of}
use Rattle.drawing_c.specs.Exports.{refusal_number, ContainsExported}
use Rattle.drawing.specs.Calls.{valid_contains, contains_drawn, contains_answer}
use Rattle.drawing.proofs.Returns.{list_few}

-- an accepted test compares at most 16 rectangles
drawn_few : (v : Bool) (p : List ℕ) (c : Cell) (t : Containment) → v ≡ valid_contains p c
    → Ok t ≡ contains_of v (contains_drawn p c) → t.compared ≤ 16
unfolding valid_contains contains_drawn contains_of containment
drawn_few true p c t e q =
    let s : t ≡ containment (given p) c = cc in
    let m = compared_most (given p) c in
    let n = length_rects p (length p / 4) in
    let l = list_few most_of_polygon p true (sym (split_and (is_list most_of_polygon p) (on_grid c) (sym e)).0) refl in
    rw s (omega arith)
drawn_few false p c t e q = absurd cc

-- a Bool as a number
byte_is : (b : Bool) → bool_byte b ≡ cond b 1 0
byte_is true = refl
byte_is false = refl

-- the form for C, from the answer a
module _ (p : List ℕ) (c : Cell) (a : Result Containment Refusal) (e : a ≡ contains_answer p c) where
  module _ (t : Containment) (f : a ≡ Ok t) where
    pub compared_fits : t.compared < 4294967296
    compared_fits = let h = drawn_few (valid_contains p c) p c t refl (sym f ∙ e) in omega arith

    pub tested_exported : (has compared : ℕ)
        → ContainsExported (contains_answer p c) has compared 0 (bool_byte t.has) t.compared
    tested_exported has compared =
        rw (← e, f) (record { refusal = refl; has_told = byte_is t.has; compared_told = refl })

  pub refused_exported : (r : Refusal) (n has compared : ℕ) → a ≡ Err r → n ≡ refusal_number r
      → ContainsExported (contains_answer p c) has compared n has compared
  refused_exported r n has compared f g =
      rw (← e, f) (record { refusal = g; has_told = refl; compared_told = refl })
