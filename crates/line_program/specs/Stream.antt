-- The lines of an input that comes in parts.
-- docs/RULES.md 9.2, 9.3
use Rattle.std.specs.Prelude.{ℕ, ◌-◌, ◌≤◌, ◌<◌, true, false, List, [], ◌∷◌, ◌++◌, map, ◌≡◌, length, take, drop, Option}
use Rattle.commands.specs.declared.parsing.Command.{Command}
use Rattle.commands.specs.declared.output.Output.{Output}
use Rattle.commands.specs.Bytes.{line_feed}
use Rattle.commands.specs.Split.{split_at}
use Rattle.commands.specs.Commands.{command_of}
use Rattle.line_program.specs.declared.stream.Progress.{Progress}
use Rattle.line_program.specs.Response.{Lent, CarriedOut, Responded}

-- 'LF ends a line, the last may lack it': what follows the last line feed is a line if it has a byte
unfoldable pub lines_in : List (List ℕ) → List (List ℕ)
lines_in [] = []
lines_in ([] ∷ []) = []
lines_in ((b ∷ s) ∷ []) = (b ∷ s) ∷ []
lines_in (p ∷ q ∷ ps) = p ∷ lines_in (q ∷ ps)

unfoldable pub lines_of : List ℕ → List (List ℕ)
lines_of input = lines_in (split_at line_feed input)

-- the commands of the whole input
unfoldable pub commands_of : List ℕ → List (Option Command)
commands_of input = map command_of (lines_of input)

-- bytes without a line feed
abbrev pub OnePiece : List ℕ → Type 0
OnePiece s = split_at line_feed s ≡ s ∷ []

-- Commands were carried out one after another, which printed their texts one behind another.
pub data Ran : List (Option Command) → Lent → Lent → List ℕ → Type 0 where
  none : {a : Lent} → Ran [] a a []
  first : {c : Option Command} {cs : List (Option Command)} {a d : Lent} {ts : List ℕ} (b : Lent) (t : List ℕ)
      → CarriedOut c a b t → Ran cs b d ts → Ran (c ∷ cs) a d (t ++ ts)

-- The whole lines of the input from a place on were answered, up to the place next: whatever follows the input, its
-- commands from that place on are those that were carried out, then those from next on.
pub record LinesAnswered (input : List ℕ) (from : ℕ) (a b : Lent) (out' : List ℕ) (r : Progress) : Type 0 where
  pub commands : List (Option Command)
  pub read : (more : List ℕ) → commands_of (drop from input ++ more) ≡ commands
      ++ commands_of (drop r.next input ++ more)
  pub ran : Ran commands a b (take r.written out')
  pub fits : r.written ≤ length out'
  pub forward : from ≤ r.next
  pub within : r.next ≤ length input
  pub onward : r.done ≡ false → from < r.next
  pub rest : r.done ≡ true → OnePiece (drop r.next input)

-- Calls of answer_lines and answer_line one after another, from the lists a on, each handed the lists that the last
-- one left: the commands they carried out, the lists they left, and the answers that each put at the start of its out,
-- one behind another.
pub data Session : List (Option Command) → Lent → Lent → List ℕ → Type 0 where
  start : {a : Lent} → Session [] a a []
  lines : {cs : List (Option Command)} {a b d : Lent} {text input out' : List ℕ} {from : ℕ} {r : Progress}
      → Session cs a b text → (v : LinesAnswered input from b d out' r)
      → Session (cs ++ v.commands) a d (text ++ take r.written out')
  line : {cs : List (Option Command)} {a b d : Lent} {text s : List ℕ} {out out' : Output} → Session cs a b text
      → out.at ≡ 0 → Responded s b d out out'
      → Session (cs ++ (command_of s ∷ [])) a d (text ++ take out'.at out'.bytes.now)

-- The bytes of the input between two places, or the first 81 of them, are at its start.
pub record Kept (input : List ℕ) (from to : ℕ) (input' : List ℕ) (r : ℕ) : Type 0 where
  pub few : r ≤ 81
  pub within : r ≤ to
  pub bytes : take r input' ≡ take 81 (take (to - from) (drop from input))
