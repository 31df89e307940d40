-- Calls one after another are a session, of which the claim holds.
use Prim.Native.Nat.{ℕ, ◌≤◌, ◌<◌}
use mathlib.Core.Path.{◌≡◌, refl, sym, ap, ◌∙◌}
use mathlib.Core.List.{List, [], ◌∷◌, ◌++◌, map, append_assoc, append-nil}
use native.Mathlib.Omega.{arith}
use lib.ListN.{length, take, length-take}
use Rattle.history.specs.Calls.{fresh_memory}
use Rattle.std.specs.declared.option.Option.{Option}
use Rattle.commands.specs.declared.parsing.Command.{Command}
use Rattle.commands.specs.declared.output.Output.{Output}
use Rattle.commands.specs.Commands.{command_of}
use Rattle.line_program.specs.declared.stream.Progress.{Progress}
use Rattle.line_program.specs.Response.{Lent, lent, Responded}
use Rattle.line_program.specs.Stream.{LinesAnswered, Session, start, lines, line, lines_in}
use Rattle.line_program.proofs.LinesHistory.{session_history}
use Rattle.bench.specs.Served.{Served, LastServed, Claimed}

-- no call yet, and one call more
abbrev pub none_served : (m work list : List ℕ) → Served (lent m work list) (lent m work list)
none_served m work list = record { commands = []; text = []; session = start }

module _ (m₀ work₀ list₀ m work list m' work' list' : List ℕ) (v : Served (lent m₀ work₀ list₀) (lent m work list)) where
  abbrev pub lines_served : (input out' : List ℕ) (from : ℕ) (r : Progress) → LinesAnswered input from (lent m work list) (lent m' work' list') out' r
      → Served (lent m₀ work₀ list₀) (lent m' work' list')
  lines_served input out' from r d = record {
    commands = v.commands ++ d.commands;
    text = v.text ++ take r.written out';
    session = lines v.session d;
  }

-- the last line: no byte is no line
pub no_line : [] ≡ map command_of (lines_in ([] ∷ []))
unfolding lines_in
no_line = refl

abbrev pub none_last : (m work list : List ℕ) → LastServed [] (lent m work list) (lent m work list)
none_last m work list = record { served = none_served m work list; line = no_line }

pub some_line : (s : List ℕ) → 0 < length s → command_of s ∷ [] ≡ map command_of (lines_in (s ∷ []))
unfolding lines_in
some_line [] h = absurd (omega arith)
some_line (b ∷ s) h = refl

abbrev pub last_served : (input m work list m' work' list' : List ℕ) (out out' : Output) (kept : ℕ) → out.at ≡ 0
    → Responded (take kept input) (lent m work list) (lent m' work' list') out out'
    → (kept ≡ 0 → ⊥) → kept ≤ 81 → 81 < length input → LastServed (take kept input) (lent m work list) (lent m' work' list')
last_served input m work list m' work' list' out out' kept z d n k l = record {
  served = record { commands = [] ++ (command_of (take kept input) ∷ []); text = [] ++ take out'.at out'.bytes.now; session = line start z d };
  line = some_line (take kept input) (rw length-take (omega arith));
}

-- two sessions one after another
on_served : {a b d : Lent} {cs : List (Option Command)} {text : List ℕ} → Served a b → Session cs b d text → Served a d
on_served v start = v
on_served v (lines {out' = out'} {r = r} s d) =
    let w = on_served v s in record { commands = w.commands ++ d.commands; text = w.text ++ take r.written out'; session = lines w.session d }
on_served v (line {s = bytes} {out' = out'} s z d) =
    let w = on_served v s in record { commands = w.commands ++ (command_of bytes ∷ []); text = w.text ++ take out'.at out'.bytes.now; session = line w.session z d }

pub then_served : (a b d : Lent) → Served a b → Served b d → Served a d
then_served a b d v w = on_served v w.session

-- the commands and the text of two sessions one after another
on_commands : {a b d : Lent} {cs : List (Option Command)} {text : List ℕ} (v : Served a b) (s : Session cs b d text) → (on_served v s).commands ≡ v.commands ++ cs
unfolding on_served
on_commands v start = sym (append-nil v.commands)
on_commands v (lines {cs = cs} s d) = ap (λ (l : List (Option Command)). l ++ d.commands) (on_commands v s) ∙ append_assoc v.commands cs d.commands
on_commands v (line {cs = cs} {s = bytes} s z d) =
    ap (λ (l : List (Option Command)). l ++ (command_of bytes ∷ [])) (on_commands v s) ∙ append_assoc v.commands cs (command_of bytes ∷ [])

on_text : {a b d : Lent} {cs : List (Option Command)} {text : List ℕ} (v : Served a b) (s : Session cs b d text) → (on_served v s).text ≡ v.text ++ text
unfolding on_served
on_text v start = sym (append-nil v.text)
on_text v (lines {text = text} {out' = out'} {r = r} s d) =
    ap (λ (l : List ℕ). l ++ take r.written out') (on_text v s) ∙ append_assoc v.text text (take r.written out')
on_text v (line {text = text} {out' = out'} s z d) =
    ap (λ (l : List ℕ). l ++ take out'.at out'.bytes.now) (on_text v s) ∙ append_assoc v.text text (take out'.at out'.bytes.now)

pub then_commands : (a b d : Lent) (v : Served a b) (w : Served b d) → (then_served a b d v w).commands ≡ v.commands ++ w.commands
unfolding then_served
then_commands a b d v w = on_commands v w.session

pub then_text : (a b d : Lent) (v : Served a b) (w : Served b d) → (then_served a b d v w).text ≡ v.text ++ w.text
unfolding then_served
then_text a b d v w = on_text v w.session

-- from a fresh index on
pub served_claimed : (a b : Lent) → Served a b → a.index ≡ fresh_memory 64 → Claimed a b
served_claimed a b v e = record { served = v; claim = session_history 64 (omega arith) (omega arith) v.session e }
