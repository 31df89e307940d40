-- The returns of reading a command.
use Rattle.std.proofs.Common.{◌≡◌, ℕ, ◌-◌, ◌≤◌, ◌<◌, List, [], ◌∷◌, length, get_or, take, drop, refl, sym, ap, ◌∙◌, arith}
use Rattle.std.specs.Prelude.{false, Option, Some, None}
use mathlib.Core.Bool.{and-false}
use borrow.Author.Tests.{ne_eqb, le-leb, lt-leb}
use lib.Dec.{eqb}
use lib.Seq.{take-suc, length-take-le}
use Rattle.commands.specs.declared.parsing.Command.{Command}
use Rattle.commands.specs.Split.{pieces_behind, PieceEnd}
use Rattle.commands.specs.Fields.{numbers_of, numbers_in, NotFew}
use Rattle.commands.specs.Commands.{command_for, command_with, command_in, command_of}

-- more numbers than any command has
many_numbers : (b : ℕ) (vs : List ℕ) → 4 < length vs → command_for b vs ≡ None
unfolding command_for
many_numbers b vs h =
    let n : (k : ℕ) → k ≤ 4 → eqb (length vs) k ≡ false = λ k g. ne_eqb (length vs) k (λ e. omega arith) in
    simp (n 3 (omega arith), n 2 (omega arith), n 4 (omega arith), n 0 (omega arith), and-false)

not_few : (b : ℕ) (o : Option (List ℕ)) → NotFew o → command_with (b ∷ []) o ≡ None
unfolding NotFew command_with
not_few b None n = refl
not_few b (Some vs) n = many_numbers b vs n

-- a first field that is not one letter
no_letter : (f : List ℕ) (o : Option (List ℕ)) → (length f ≡ 1 → ⊥) → command_with f o ≡ None
unfolding command_with
no_letter [] o n = refl
no_letter (b ∷ []) o n = absurd (n refl)
no_letter (b ∷ c ∷ s) o n = refl

module _ (line : List ℕ) where
  pub parse_long : 80 < length line → None ≡ command_of line
  unfolding command_of
  parse_long h = simp (lt-leb _ _ h)

  module _ (h : length line ≤ 80) where
    in_pieces : (end : ℕ) → PieceEnd 32 line 0 end → command_of line ≡ command_with (take end line) (numbers_of (pieces_behind 32 (drop end line)))
    unfolding command_of command_in
    in_pieces end p =
        let z : end - 0 ≡ end = omega arith in
        simp (le-leb _ _ h) (ap command_in p.pieces ∙ rw z)

    pub parse_no_letter : (end : ℕ) → PieceEnd 32 line 0 end → (end ≡ 1 → ⊥) → None ≡ command_of line
    parse_no_letter end p n =
        let l : length (take end line) ≡ end = length-take-le end line p.within in
        sym (in_pieces end p ∙ no_letter (take end line) _ (λ e. n (sym l ∙ e)))

    module _ (end : ℕ) (p : PieceEnd 32 line 0 end) (one : end ≡ 1) where
      parse_piece : PieceEnd 32 line 0 1
      parse_piece = rw one at p

      parse_letter : 0 < length line
      parse_letter = omega (arith, p.within)

      lettered : command_of line ≡ command_with (get_or line 0 0 ∷ []) (numbers_in line)
      unfolding numbers_in
      lettered = let l = parse_letter in in_pieces 1 parse_piece ∙ rw (take-suc line 0 0 l)

      pub parse_bad : NotFew (numbers_in line) → None ≡ command_of line
      parse_bad n = sym (lettered ∙ not_few _ _ n)

      pub parse_good : (vs : List ℕ) → numbers_in line ≡ Some vs → (k : Option Command) → k ≡ command_for (get_or line 0 0) vs → k ≡ command_of line
      unfolding command_with
      parse_good vs g k e = e ∙ sym (lettered ∙ rw g)
