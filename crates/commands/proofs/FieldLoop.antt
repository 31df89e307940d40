-- The loop that reads the numbers of the fields behind a line's letter.
use Rattle.std.proofs.Common.{◌≡◌, ℕ, ◌+◌, ◌-◌, ◌≤◌, ◌<◌, List, [], ◌∷◌, ◌++◌, length, take, drop, refl, sym, ap, ◌∙◌, arith, add-one, append-nil, length-append, drop-cons}
use Rattle.std.specs.Prelude.{Option, Some, None}
use lib.ListN.{drop_of_length-le}
use lib.Seq.{append_snoc}
use Rattle.commands.specs.Split.{pieces_behind, PieceEnd}
use Rattle.commands.specs.Fields.{number_of, with_number, numbers_of, numbers_in, NotFew}

-- numbers before others; none where the others are none
unfoldable pub before : List ℕ → Option (List ℕ) → Option (List ℕ)
before vs None = None
before vs (Some ws) = Some (vs ++ ws)

before_none : (o : Option (List ℕ)) → before [] o ≡ o
unfolding before
before_none None = refl
before_none (Some ws) = refl

before_one : (vs : List ℕ) (v : ℕ) (o : Option (List ℕ)) → before vs (with_number (Some v) o) ≡ before (vs ++ (v ∷ [])) o
unfolding before with_number
before_one vs v None = refl
before_one vs v (Some ws) = ap Some (sym (append_snoc vs v ws))

too_many : (vs : List ℕ) (v : ℕ) (o : Option (List ℕ)) → length vs ≡ 4 → NotFew (before vs (with_number (Some v) o))
unfolding before with_number NotFew
too_many vs v None e = tt
too_many vs v (Some ws) e = rw length-append (omega arith)

module _ (line : List ℕ) where
  -- The fields before a place have these numbers.
  pub record FieldsSoFar (vs : List ℕ) (at : ℕ) : Type 0 where
    pub within : at ≤ length line
    pub numbers : numbers_in line ≡ before vs (numbers_of (pieces_behind 32 (drop at line)))

  pub fields_start : PieceEnd 32 line 0 1 → FieldsSoFar [] 1
  unfolding numbers_in
  fields_start p = record { within = p.within; numbers = sym (before_none _) }

  module _ (vs : List ℕ) (at : ℕ) (x : FieldsSoFar vs at) where
    pub fields_end : length line ≤ at → numbers_in line ≡ Some vs
    unfolding pieces_behind numbers_of before
    fields_end h =
        let d : drop at line ≡ [] = drop_of_length-le line h in
        x.numbers ∙ rw (d, append-nil)

    module _ (end : ℕ) (h : at < length line) (p : PieceEnd 32 line (at + 1) end) where
      next : numbers_in line ≡ before vs (with_number (number_of (take (end - (at + 1)) (drop (at + 1) line))) (numbers_of (pieces_behind 32 (drop end line))))
      unfolding pieces_behind numbers_of
      next = x.numbers ∙ rw (drop-cons line at 0 h, ← (add-one at), p.pieces)

      pub fields_no_number : None ≡ number_of (take (end - (at + 1)) (drop (at + 1) line)) → NotFew (numbers_in line)
      unfolding with_number before NotFew
      fields_no_number e = rw (next, ← e) tt

      module _ (v : ℕ) (e : Some v ≡ number_of (take (end - (at + 1)) (drop (at + 1) line))) where
        pub fields_too_many : length vs ≡ 4 → NotFew (numbers_in line)
        fields_too_many g = rw (next, ← e) (too_many vs v _ g)

        pub fields_again : (ws : List ℕ) → ws ≡ vs ++ (v ∷ []) → FieldsSoFar ws end
        fields_again ws g = record { within = p.within; numbers = next ∙ rw (← e, before_one, g) }
