-- What the calls of the program made of the lists that it works on.
-- docs/RULES.md 9.1, 9.9
use Rattle.std.specs.Prelude.{ℕ, List, [], ◌∷◌, ◌++◌, map, ◌≡◌, ◌≤◌, length, take, drop, IfSome, Result, IfOk}
use Rattle.std.specs.declared.option.Option.{Option}
use Rattle.commands.specs.declared.parsing.Command.{Command}
use Rattle.commands.specs.Commands.{command_of}
use Rattle.line_program.specs.Response.{Lent}
use Rattle.line_program.specs.Stream.{Session, OnePiece, commands_of, lines_in}
use Rattle.line_program.specs.LinesClaim.{LinesClaim}
use Rattle.bench.specs.declared.streams.Failed.{Failed}

-- Calls of answer_lines and answer_line one after another lead from the lists a to the lists b.
pub record Served (a b : Lent) : Type 0 where
  pub commands : List (Option Command)
  pub text : List ℕ
  pub session : Session commands a b text

-- The whole lines of some bytes are those of the commands cs: whatever follows the bytes, their commands are cs, then
-- those of the rest, which has no line feed.
pub record Taken (bytes : List ℕ) (cs : List (Option Command)) (rest : List ℕ) : Type 0 where
  pub read : (more : List ℕ) → commands_of (bytes ++ more) ≡ cs ++ commands_of (rest ++ more)
  pub piece : OnePiece rest

-- The whole lines of the input were answered. Where the answers could be written, the rest starts at the place r.
pub record AllServed (input : List ℕ) (a b : Lent) (r : Result ℕ Failed) : Type 0 where
  pub within : IfOk r (λ from. from ≤ length input)
  pub served : Served a b
  pub taken : IfOk r (λ from. Taken input served.commands (drop from input))

-- Of some bytes the rest, or its first 81 bytes, is kept.
pub record KeptOf (bytes : List ℕ) (cs : List (Option Command)) (kept : List ℕ) : Type 0 where
  pub rest : List ℕ
  pub taken : Taken bytes cs rest
  pub kept_is : kept ≡ take 81 rest

-- The whole lines of the bytes were answered. Where the answers could be written, the rest is kept in the first r
-- bytes of the input, of which there are at most 81.
pub record FirstServed (bytes input : List ℕ) (a b : Lent) (r : Result ℕ Failed) : Type 0 where
  pub short : IfOk r (λ n. n ≤ 81)
  pub served : Served a b
  pub kept : IfOk r (λ n. KeptOf bytes served.commands (take n input))

-- The last bytes were answered: 'LF ends a line, the last may lack it'.
pub record LastServed (bytes : List ℕ) (a b : Lent) : Type 0 where
  pub served : Served a b
  pub line : served.commands ≡ map command_of (lines_in (bytes ∷ []))

-- The lines that were whole after a read were answered, and at most 81 bytes are kept.
pub record TurnServed (a b : Lent) (r : Result (Option ℕ) Failed) : Type 0 where
  pub short : IfOk r (λ kept. IfSome kept (λ n. n ≤ 81))
  pub served : Served a b

-- The session started from a fresh index of 64 parts: demand 3's claim holds of the calls of the index that its
-- commands made.
pub record Claimed (a b : Lent) : Type 0 where
  pub served : Served a b
  pub claim : LinesClaim 64 served.commands b served.text
