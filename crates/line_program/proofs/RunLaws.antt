-- Runs one after another are one run, and so are the calls of a session.
use Prim.Native.Nat.{ℕ}
use mathlib.Core.Path.{◌≡◌}
use mathlib.Core.List.{List, [], ◌∷◌, ◌++◌, append-nil, append_assoc}
use lib.ListN.{take}
use Rattle.std.specs.Prelude.{Option}
use Rattle.commands.specs.declared.parsing.Command.{Command}
use Rattle.commands.specs.declared.output.Output.{Output}
use Rattle.commands.specs.Commands.{command_of}
use Rattle.line_program.specs.Response.{Lent, CarriedOut, Responded}
use Rattle.line_program.specs.Stream.{Ran, none, first, Session, start, lines, line}

-- a run, then one from the lists that it left
pub ran_append : {cs ds : List (Option Command)} {a b d : Lent} {t u : List ℕ} → Ran cs a b t → Ran ds b d u → Ran (cs ++ ds) a d (t ++ u)
ran_append none s = s
ran_append (first e t v r) s = rw append_assoc (first e t v (ran_append r s))

-- one command
pub ran_one : {c : Option Command} {a b : Lent} {t : List ℕ} → CarriedOut c a b t → Ran (c ∷ []) a b t
ran_one {b = b} {t} v = rw (← (append-nil t)) (first b t v none)

-- one line, its answer at the start of out
pub ran_line : {s : List ℕ} {a b : Lent} {out out' : Output} → out.at ≡ 0 → Responded s a b out out' → Ran (command_of s ∷ []) a b (take out'.at out'.bytes.now)
ran_line e v = rw (v.put.bytes, e) (ran_one v.done)

-- the calls of a session
pub session_ran : {cs : List (Option Command)} {a b : Lent} {text : List ℕ} → Session cs a b text → Ran cs a b text
session_ran start = none
session_ran (lines s v) = ran_append (session_ran s) v.ran
session_ran (line s e v) = ran_append (session_ran s) (ran_line e v)
