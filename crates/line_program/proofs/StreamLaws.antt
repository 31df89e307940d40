-- The commands of an input that comes in parts: a line that has ended, a line that has not, and the whole input.
use Prim.Native.Nat.{ℕ, zero, suc, ◌≤◌, ◌<◌}
use mathlib.Core.Path.{◌≡◌, refl, sym, ap, ◌∙◌}
use mathlib.Core.Bool.{Bool, true, false, cond}
use mathlib.Core.List.{List, [], ◌∷◌, ◌++◌, append-nil, append_assoc, map, flatten}
use native.Mathlib.Omega.{arith}
use native.Mathlib.Decide.{dec_le}
use lib.Dec.{eqb}
use lib.ListN.{length, take, length-append, length-take}
use lib.Seq.{take_all}
use Rattle.std.specs.Prelude.{Option}
use Rattle.commands.specs.declared.parsing.Command.{Command}
use Rattle.commands.specs.Split.{put_first, split_at}
use Rattle.commands.specs.Commands.{command_of}
use Rattle.commands.proofs.CommandReturns.{parse_long}
use Rattle.line_program.specs.Stream.{lines_in, lines_of, commands_of, OnePiece}

-- the pieces with some bytes put in front of the first
unfoldable pub join_first : List ℕ → List (List ℕ) → List (List ℕ)
join_first f [] = f ∷ []
join_first f (p ∷ ps) = (f ++ p) ∷ ps

-- there is always a piece
pub record Pieces (sep : ℕ) (s : List ℕ) : Type 0 where
  pub piece : List ℕ
  pub others : List (List ℕ)
  pub pieces : split_at sep s ≡ piece ∷ others

put_pieces : (b : ℕ) (ps : List (List ℕ)) → (p : List ℕ) × (qs : List (List ℕ)) × (put_first b ps ≡ p ∷ qs)
unfolding put_first
put_pieces b [] = (b ∷ [], [], refl)
put_pieces b (p ∷ ps) = (b ∷ p, ps, refl)

pub some_piece : (sep : ℕ) (s : List ℕ) → Pieces sep s
unfolding split_at
some_piece sep [] = record { piece = []; others = []; pieces = refl }
some_piece sep (b ∷ s) = go (eqb b sep) refl
  where
    go : (t : Bool) → eqb b sep ≡ t → Pieces sep (b ∷ s)
    go true e = record { piece = []; others = split_at sep s; pieces = rw e }
    go false e = let x = put_pieces b (split_at sep s) in record { piece = x.0; others = x.1; pieces = rw e x.2 }

-- pieces of two texts: the last of the first and the first of the second are one
unfoldable pub glue : List (List ℕ) → List (List ℕ) → List (List ℕ)
glue [] qs = qs
glue (p ∷ []) qs = join_first p qs
glue (p ∷ r ∷ ps) qs = p ∷ glue (r ∷ ps) qs

glue_put : (b : ℕ) (p : List ℕ) (ps qs : List (List ℕ)) → glue (put_first b (p ∷ ps)) qs ≡ put_first b (glue (p ∷ ps) qs)
unfolding glue put_first join_first
glue_put b p [] [] = refl
glue_put b p [] (q ∷ qs) = refl
glue_put b p (r ∷ ps) qs = refl

glue_first : (p : List ℕ) (ps qs : List (List ℕ)) (sep : ℕ) (s : List ℕ) → ps ≡ split_at sep s → glue (p ∷ ps) qs ≡ p ∷ glue ps qs
unfolding glue
glue_first p ps qs sep s e =
    let x = some_piece sep s in
    rw (e ∙ x.pieces)

glue_nil : (sep : ℕ) (s : List ℕ) → glue ([] ∷ []) (split_at sep s) ≡ split_at sep s
unfolding glue join_first
glue_nil sep s = let x = some_piece sep s in rw x.pieces

pub split_append : (sep : ℕ) (s t : List ℕ) → split_at sep (s ++ t) ≡ glue (split_at sep s) (split_at sep t)
unfolding split_at
split_append sep [] t = sym (glue_nil sep t)
split_append sep (b ∷ s) t = go (eqb b sep) (split_append sep s t)
  where
    go : (z : Bool) → split_at sep (s ++ t) ≡ glue (split_at sep s) (split_at sep t)
        → cond z ([] ∷ split_at sep (s ++ t)) (put_first b (split_at sep (s ++ t))) ≡ glue (cond z ([] ∷ split_at sep s) (put_first b (split_at sep s))) (split_at sep t)
    go true ih = ap (λ ps. [] ∷ ps) ih ∙ sym (glue_first [] (split_at sep s) (split_at sep t) sep s refl)
    go false ih =
        let x = some_piece sep s in
        ap (put_first b) ih ∙ rw x.pieces (sym (glue_put b x.piece x.others (split_at sep t)))

-- a line that has ended
pub line_ended : (s line rest more : List ℕ) → split_at 10 s ≡ line ∷ split_at 10 rest → commands_of (s ++ more) ≡ command_of line ∷ commands_of (rest ++ more)
unfolding commands_of lines_of lines_in
line_ended s line rest more e =
    let x = some_piece 10 (rest ++ more) in
    let p : split_at 10 (s ++ more) ≡ line ∷ split_at 10 (rest ++ more) =
    split_append 10 s more ∙ rw e (glue_first line (split_at 10 rest) (split_at 10 more) 10 rest refl ∙ ap (λ ps. line ∷ ps) (sym (split_append 10 rest more))) in
    rw (p, x.pieces)

-- lines over 80 bytes are answered alike
long_alike : (a b : List ℕ) → 80 < length a → 80 < length b → command_of a ≡ command_of b
long_alike a b g h = sym (parse_long a g) ∙ parse_long b h

shortened : (s t : List ℕ) → command_of (take 81 s ++ t) ≡ command_of (s ++ t)
shortened s t = go (dec_le (length s) 81)
  where
    go : Dec (length s ≤ 81) → command_of (take 81 s ++ t) ≡ command_of (s ++ t)
    go (yes h) = rw (take_all 81 s h)
    go (no h) =
        long_alike (take 81 s ++ t) (s ++ t) (rw (length-append, length-take) (omega arith)) (rw length-append (omega arith))

-- the rest of a line, if it has a byte
none_or_one : (s t : List ℕ) → map command_of (lines_in ((take 81 s ++ t) ∷ [])) ≡ map command_of (lines_in ((s ++ t) ∷ []))
unfolding lines_in
none_or_one [] t = refl
none_or_one (b ∷ s) t = ap (λ c. c ∷ []) (shortened (b ∷ s) t)

more_lines : (s t : List ℕ) (ps : List (List ℕ)) → map command_of (lines_in ((take 81 s ++ t) ∷ ps)) ≡ map command_of (lines_in ((s ++ t) ∷ ps))
unfolding lines_in
more_lines s t [] = none_or_one s t
more_lines s t (p ∷ ps) = ap (λ c. c ∷ map command_of (lines_in (p ∷ ps))) (shortened s t)

unglue : (s more : List ℕ) → OnePiece s → (x : Pieces 10 more) → split_at 10 (s ++ more) ≡ (s ++ x.piece) ∷ x.others
unfolding glue join_first
unglue s more e x = split_append 10 s more ∙ rw (e, x.pieces)

-- the first bytes of a piece are a piece
piece_tail : (t : Bool) (b : ℕ) (s : List ℕ) (x : Pieces 10 s) → cond t ([] ∷ split_at 10 s) (put_first b (split_at 10 s)) ≡ (b ∷ s) ∷ [] → (t ≡ false) × OnePiece s
unfolding put_first
piece_tail true b s x e = let z : ◌≡◌ {A = ℕ} 0 1 = cc in absurd (omega arith)
piece_tail false b s x e =
    let f : (b ∷ x.piece) ∷ x.others ≡ (b ∷ s) ∷ [] = rw x.pieces at e in
    let g = x.pieces in
    (refl, cc)

pub piece_start : (n : ℕ) (s : List ℕ) → OnePiece s → OnePiece (take n s)
unfolding split_at put_first
piece_start zero s e = refl
piece_start (suc n) [] e = refl
piece_start (suc n) (b ∷ s) e =
    let x = piece_tail (eqb b 10) b s (some_piece 10 s) e in
    rw (x.0, piece_start n s x.1)

-- the rest of a line, and its first 81 bytes, have the same commands whatever follows
pub rest_kept : (s more : List ℕ) → OnePiece s → commands_of (take 81 s ++ more) ≡ commands_of (s ++ more)
unfolding commands_of lines_of
rest_kept s more e =
    let x = some_piece 10 more in
    rw (unglue s more e x, unglue (take 81 s) more (piece_start 81 s e) x) (more_lines s x.piece x.others)

-- the last line, if it has a byte
pub last_line : (b : ℕ) (s : List ℕ) → OnePiece (b ∷ s) → commands_of (b ∷ s) ≡ command_of (b ∷ s) ∷ []
unfolding commands_of lines_of lines_in
last_line b s e = rw e

-- What is left of the input after some parts of it were read, of which kept is not answered yet: each further part is answered up to a rest
-- without line feed, of which the first 81 bytes are kept; at the end of the input, what is kept is the last line.
pub data Reads : List ℕ → List (List ℕ) → List (Option Command) → Type 0 where
  ends : (kept : List ℕ) → Reads kept [] (commands_of kept)
  part : {parts : List (List ℕ)} {ds : List (Option Command)} (kept new rest : List ℕ) (cs : List (Option Command))
      → ((more : List ℕ) → commands_of ((kept ++ new) ++ more) ≡ cs ++ commands_of (rest ++ more)) → OnePiece rest
      → Reads (take 81 rest) parts ds → Reads kept (new ∷ parts) (cs ++ ds)

-- all that is answered are the commands of the whole input
pub all_read : {kept : List ℕ} {parts : List (List ℕ)} {cs : List (Option Command)} → Reads kept parts cs → cs ≡ commands_of (kept ++ flatten parts)
unfolding flatten
all_read (ends kept) = ap commands_of (sym (append-nil kept))
all_read (part {parts = ps} {ds = ds} kept new rest cs e o r) =
    ap (λ x. cs ++ x) (all_read r ∙ rest_kept rest (flatten ps) o) ∙ sym (e (flatten ps)) ∙ ap commands_of (append_assoc kept new (flatten ps))
