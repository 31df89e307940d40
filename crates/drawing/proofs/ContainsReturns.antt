-- The returns of the containment test.
use mathlib.Core.Path.{◌≡◌}
use mathlib.Core.Bool.{Bool}
use mathlib.Core.List.{List}
use Prim.Native.Nat.{ℕ, ◌/◌}
use lib.ListN.{length}
use Rattle.polygons.specs.Limits.{most_of_polygon}
use Rattle.geometry.specs.declared.rect.Cell.{Cell}
use Rattle.geometry.specs.declared.containment.Containment.{Containment}
use Rattle.geometry.specs.Cells.{on_grid}
use Rattle.geometry.specs.Containment.{containment}
use Rattle.geometry.specs.Numbers.{rects_in}
use Rattle.std.specs.Prelude.{Result, Ok, Err, ⊤}
use Rattle.std.specs.Result.{IsErrAnd}
use Rattle.drawing.specs.declared.answer.Refusal.{Refusal}
use Rattle.drawing.specs.Arguments.{is_list, accepted}
use Rattle.drawing.proofs.Accepted.{is_true, handed_on}
use Rattle.drawing.specs.Answers.{contains_of}
use Rattle.drawing.specs.Calls.{valid_contains, contains_drawn, contains_answer}

-- test by test
module _ (p : List ℕ) (c : Cell) (a : Result ⊤ Refusal) (b : Bool) (e : b ≡ is_list most_of_polygon p)
    (f : a ≡ accepted b) where
  pub no_polygon : (s : Result Containment Refusal) (x : Refusal) → a ≡ Err x → IsErrAnd s (λ y. y ≡ x)
      → s ≡ contains_answer p c
  unfolding valid_contains contains_of
  no_polygon s x g v = let t = handed_on b a f s x g v in rw (← e, t.0) t.1

  module _ (g : a ≡ Ok tt) (k : Result ⊤ Refusal) (d : Bool) (h : d ≡ on_grid c) (l : k ≡ accepted d) where
    pub off_grid : (s : Result Containment Refusal) (x : Refusal) → k ≡ Err x → IsErrAnd s (λ y. y ≡ x)
        → s ≡ contains_answer p c
    unfolding valid_contains contains_of
    off_grid s x m v = let t = handed_on d k l s x m v in rw (← e, is_true b a f g, ← h, t.0) t.1

    pub tested : (t : Containment) → k ≡ Ok tt → t ≡ containment (rects_in p (length p / 4)) c
        → Ok t ≡ contains_answer p c
    unfolding valid_contains contains_drawn contains_of
    tested t m q = rw (← e, is_true b a f g, ← h, is_true d k l m, q)
