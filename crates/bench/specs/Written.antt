-- What the calls of the program took from a reader and put into a writer, where the bytes of these are known.
-- docs/RULES.md 9.1, 9.3, 9.9, 9.10
use Rattle.std.specs.Prelude.{ℕ, List, ◌++◌, ◌≡◌, ⊤, None, Some, IfSome, Result, Ok, Err, MatchResult, OnOk, take}
use Rattle.std.specs.Io.KnownBytes.{Appends, IsAtEnd}
use Rattle.std.specs.declared.option.Option.{Option}
use Rattle.commands.specs.declared.parsing.Command.{Command}
use Rattle.line_program.specs.Response.{Lent}
use Rattle.line_program.specs.Stream.{OnePiece, commands_of}
use Rattle.line_program.specs.LinesClaim.{LinesClaim}
use Rattle.bench.specs.declared.streams.Failed.{Failed}
use Rattle.bench.specs.Served.{Served, AllServed, FirstServed, LastServed, TurnServed}

-- a start of the text was written, and nothing else
pub record StartWritten (held held' : Option (List ℕ)) (text : List ℕ) : Type 0 where
  pub done : List ℕ
  pub rest : List ℕ
  pub parts : text ≡ done ++ rest
  pub appended : Appends held held' done

-- the text was written: all of it, or where a write failed a start of it
abbrev pub WrittenAll : {A : Type 0} → Option (List ℕ) → Option (List ℕ) → List ℕ → Result A Failed → Type 0
WrittenAll held held' text r = MatchResult r (λ _. Appends held held' text) (λ _. StartWritten held held' text)

-- The commands cs are the first ones of some bytes, whatever follows these.
pub record Begun (bytes : List ℕ) (cs : List (Option Command)) : Type 0 where
  pub rest : List ℕ
  pub read : (more : List ℕ) → commands_of (bytes ++ more) ≡ cs ++ commands_of (rest ++ more)

-- The whole lines of the input were answered, and the answers written.
pub record AllWritten (input : List ℕ) (held held' : Option (List ℕ)) (a b : Lent) (r : Result ℕ Failed)
    : Type 0 where
  pub answered : AllServed input a b r
  pub begun : Begun input answered.served.commands
  pub written : WrittenAll held held' answered.served.text r

pub record FirstWritten (bytes input : List ℕ) (held held' : Option (List ℕ)) (a b : Lent)
    (r : Result ℕ Failed) : Type 0 where
  pub answered : FirstServed bytes input a b r
  pub begun : Begun bytes answered.served.commands
  pub written : WrittenAll held held' answered.served.text r

-- The last line was answered, and a start of its answer written, or all of it.
pub record LastWritten (bytes : List ℕ) (held held' : Option (List ℕ)) (a b : Lent)
    (r : Result ⊤ Failed) : Type 0 where
  pub answered : LastServed bytes a b
  pub start : StartWritten held held' answered.served.text
  pub all : OnOk r (Appends held held' answered.served.text)

-- The commands of the bytes kept before and of those that the reader had are cs, then those of the bytes kept now and
-- of those that the reader has left.
abbrev pub TakenFrom : Option (List ℕ) → Option (List ℕ) → List ℕ → List ℕ → List (Option Command) → Type 0
TakenFrom None left' before after cs = ⊤
TakenFrom (Some xs) None before after cs = ⊥
TakenFrom (Some xs) (Some ys) before after cs = commands_of (before ++ xs) ≡ cs ++ commands_of (after ++ ys)

-- The commands of the bytes kept before and of those that the reader had begin with cs.
abbrev pub BegunFrom : Option (List ℕ) → List ℕ → List (Option Command) → Type 0
BegunFrom None before cs = ⊤
BegunFrom (Some xs) before cs = (later : List (Option Command)) × (commands_of (before ++ xs) ≡ cs ++ later)

-- what a turn took: where the input ended, nothing, and the bytes kept are kept
abbrev pub TakenIn : Option (List ℕ) → Option (List ℕ) → ℕ → List ℕ → List ℕ → List (Option Command)
    → Result (Option ℕ) Failed → Type 0
TakenIn left left' kept input new cs (Ok (Some n)) = TakenFrom left left' (take kept input) (take n new) cs
    × OnePiece (take n new)
TakenIn left left' kept input new cs (Ok None) = TakenFrom left left' (take kept input) (take kept input) cs
    × IsAtEnd left' × (take kept new ≡ take kept input)
TakenIn left left' kept input new cs (Err _) = BegunFrom left (take kept input) cs

-- The lines that were whole after a read were answered, and the answers written.
pub record TurnWritten (left left' held held' : Option (List ℕ)) (kept : ℕ) (input input' : List ℕ) (a b : Lent)
    (r : Result (Option ℕ) Failed) : Type 0 where
  pub answered : TurnServed a b r
  pub taken : TakenIn left left' kept input input' answered.served.commands r
  pub written : WrittenAll held held' answered.served.text r

-- From a fresh index of 64 parts the first commands of the input were answered, and demand 3's claim holds of their
-- calls. What was written is a start of their answers. Where nothing failed, they are all commands of the input, and
-- all answers were written.
pub record RunWritten (left held held' : Option (List ℕ)) (a b : Lent) (r : Result ⊤ Failed) : Type 0 where
  pub served : Served a b
  pub claim : LinesClaim 64 served.commands b served.text
  pub begun : IfSome left (λ bytes. (later : List (Option Command)) × (commands_of bytes ≡ served.commands ++ later))
  pub start : StartWritten held held' served.text
  pub all : OnOk r (Appends held held' served.text)
  pub input_answered : OnOk r (IfSome left (λ bytes. served.commands ≡ commands_of bytes))
