-- A piece ends at the first separator.
use Rattle.std.proofs.Common.{◌≡◌, ℕ, ◌+◌, ◌-◌, ◌≤◌, Bool, true, false, nat_lt, cond, not, List, [], ◌∷◌, length, take, drop, refl, sym, ◌∙◌, arith, length-drop}
use lib.Dec.{eqb}
use lib.Seq.{get_or-drop, drop-drop}
use Rattle.std.specs.Prelude.{Option, Some, None}
use Rattle.std.specs.Option.{unwrap_or}
use Rattle.std.specs.List.{position, position_or_len}
use Rattle.std.proofs.lemmas.Bool.{eqb-true, ltb-false}
use Rattle.std.proofs.lemmas.List.{take_rest}
use Rattle.std.proofs.lemmas.List.Sums.{passes_at_first, prefix_len-le-length}
use Rattle.commands.specs.Split.{put_first, split_at, pieces_behind, PieceEnd}

-- the place of the first separator
abbrev pub first : ℕ → List ℕ → ℕ
first sep s = position_or_len (λ b. eqb b sep) s

split_first : (sep : ℕ) (s : List ℕ) → split_at sep s ≡ take (first sep s) s ∷ pieces_behind sep (drop (first sep s) s)
unfolding split_at put_first pieces_behind
split_first sep [] = refl
split_first sep (b ∷ s) = go (eqb b sep) (split_first sep s)
  where
    go : (t : Bool) → split_at sep s ≡ take (first sep s) s ∷ pieces_behind sep (drop (first sep s) s)
        → cond t ([] ∷ split_at sep s) (put_first b (split_at sep s))
        ≡ take (cond (not t) (1 + first sep s) 0) (b ∷ s) ∷ pieces_behind sep (drop (cond (not t) (1 + first sep s) 0) (b ∷ s))
    go true e = refl
    go false e = rw e grind (arith)

pub piece_end : (sep : ℕ) (s : List ℕ) (from : ℕ) → from ≤ length s → PieceEnd sep s from (from + first sep (drop from s))
piece_end sep s from h =
    let n = first sep (drop from s) in
    let l : n ≤ length (drop from s) = prefix_len-le-length _ (drop from s) in
    let e : length (drop from s) ≡ length s - from = length-drop from s in
    let z : from + n - from ≡ n = omega arith in
    record {
      forward = omega arith;
      within = omega arith;
      separator = λ g. sym (get_or-drop from s n 0) ∙ eqb-true _ _ (passes_at_first (λ b. eqb b sep) (drop from s) 0 (omega arith));
      pieces = rw z (split_first sep (drop from s) ∙ rw drop-drop refl);
    }

-- what is found, or else the end
found_or_end : {X : Type 0} (p : X → Bool) (s : List X) (r : Option ℕ) → r ≡ position p s → unwrap_or r (length s) ≡ position_or_len p s
found_or_end p s r e =
    let l : position_or_len p s ≤ length s = prefix_len-le-length _ s in
    rw e (found (nat_lt (position_or_len p s) (length s)) (λ f. let g = ltb-false _ _ f in omega arith))
  where
    found : (t : Bool) → (t ≡ false → length s ≡ position_or_len p s) → unwrap_or (cond t (Some (position_or_len p s)) None) (length s) ≡ position_or_len p s
    found true g = refl
    found false g = g refl

pub piece_found : (sep : ℕ) (s : List ℕ) (from : ℕ) (r : Option ℕ) → from ≤ length s
    → r ≡ position (λ b. eqb b sep) (take (length s - from) (drop from s))
    → PieceEnd sep s from (from + unwrap_or r (length (take (length s - from) (drop from s))))
piece_found sep s from r h e =
    rw (found_or_end _ _ r e, take_rest) (piece_end sep s from h)
