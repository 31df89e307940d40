-- What a turn took from the reader and put into the writer.
use Rattle.std.proofs.Common.{ℕ, ◌≤◌, ◌+◌, List, [], ◌++◌, ◌≡◌, None, Some, length, take, refl, sym, ap, ◌∙◌, subst, append_assoc, arith}
use Rattle.std.proofs.lemmas.List.{take-append-le, take-take, length-take-le}
use Rattle.std.proofs.Math.Seq.{take-append-add}
use Rattle.std.specs.Io.KnownBytes.{Appends, Consumes, IsAtEnd}
use Rattle.std.specs.declared.option.Option.{Option}
use Rattle.commands.specs.declared.parsing.Command.{Command}
use Rattle.line_program.specs.Response.{lent}
use Rattle.line_program.specs.Stream.{OnePiece, commands_of}
use Rattle.line_program.proofs.StreamLaws.{piece_start, rest_kept}
use Rattle.std.specs.Prelude.{Result, Ok, Err, IsErr}
use Rattle.bench.specs.declared.streams.Failed.{Failed}
use Rattle.bench.specs.Served.{KeptOf}
use Rattle.bench.specs.Written.{StartWritten, Begun, BegunFrom, TakenFrom, FirstWritten, TurnWritten}
use Rattle.bench.proofs.ServedLaws.{none_served}
use Rattle.bench.proofs.TurnLoop.{read_ended, read_served}
use Rattle.bench.proofs.WrittenLaws.{appends_nil, start_none}

-- no command, and those of the bytes read behind the bytes kept
pub begun_none : (left : Option (List ℕ)) (before : List ℕ) → BegunFrom left before []
begun_none None before = tt
begun_none (Some x) before =
    (commands_of (before ++ x), refl)

begun_on : (left left' : Option (List ℕ)) (before new bytes : List ℕ) (cs : List (Option Command)) → Consumes left left' new → bytes ≡ before ++ new
    → Begun bytes cs → BegunFrom left before cs
begun_on None left' before new bytes cs h e b = tt
begun_on (Some x) None before new bytes cs h e b = absurd h
begun_on (Some x) (Some y) before new bytes cs h e b = (
  commands_of (b.rest ++ y),
  ap (λ (l : List ℕ). commands_of (before ++ l)) h
      ∙ ap commands_of (sym (append_assoc before new y))
      ∙ ap (λ (l : List ℕ). commands_of (l ++ y)) (sym e)
      ∙ b.read y,
)

-- nothing was read
pub none_read : (left left' held held' : Option (List ℕ)) (kept : ℕ) (input input' m work list : List ℕ) (q : Result (Option ℕ) Failed) → IsErr q → held' ≡ held
    → TurnWritten left left' held held' kept input input' (lent m work list) (lent m work list) q
none_read left left' held held' kept input input' m work list (Ok _) h e = cc
none_read left left' held held' kept input input' m work list (Err f) h e =
    record { answered = record { short = tt; served = none_served m work list }; taken = begun_none left (take kept input); written = subst (λ (h : Option (List ℕ)). StartWritten held h []) (sym e) (start_none held []) }

taken_none : (left left' : Option (List ℕ)) (before : List ℕ) → Consumes left left' [] → TakenFrom left left' before before []
taken_none None left' before h = tt
taken_none (Some x) None before h = absurd h
taken_none (Some x) (Some y) before h = ap (λ (l : List ℕ). commands_of (before ++ l)) h

-- the first bytes stand, whatever was put behind them
first_stand : (kept : ℕ) (input behind : List ℕ) → kept ≤ length input → take kept (take kept input ++ behind) ≡ take kept input
first_stand kept input behind h =
    let l : kept ≤ length (take kept input) = rw length-take-le (omega arith) in
    take-append-le kept (take kept input) behind l ∙ take-take kept kept input (omega arith)

-- the input ended
pub end_read : (left left' held held' : Option (List ℕ)) (kept : ℕ) (input behind m work list : List ℕ) → held' ≡ held → kept ≤ length input
    → Consumes left left' [] → IsAtEnd left'
    → TurnWritten left left' held held' kept input (take kept input ++ behind) (lent m work list) (lent m work list) (Ok None)
end_read left left' held held' kept input behind m work list e h r z = record {
  answered = read_ended m work list;
  taken = (taken_none left left' (take kept input) r, z, first_stand kept input behind h);
  written = subst (λ (o : Option (List ℕ)). Appends held o []) (sym e) (appends_nil held);
}

-- the first bytes with those that were read behind them
read_bytes : (kept n : ℕ) (input buf behind : List ℕ) → kept ≤ length input → n ≤ length buf
    → take (kept + n) (take kept input ++ (buf ++ behind)) ≡ take kept input ++ take n buf
read_bytes kept n input buf behind h l =
    let k : length (take kept input) ≡ kept = length-take-le kept input h in
    ap (λ (j : ℕ). take (j + n) (take kept input ++ (buf ++ behind))) (sym k)
    ∙ take-append-add (take kept input) (buf ++ behind) n
    ∙ ap (λ (s : List ℕ). take kept input ++ s) (take-append-le n buf behind l)

taken_kept : (left left' : Option (List ℕ)) (before new bytes kept : List ℕ) (cs : List (Option Command)) → Consumes left left' new → bytes ≡ before ++ new
    → KeptOf bytes cs kept → TakenFrom left left' before kept cs
taken_kept None left' before new bytes kept cs h e k = tt
taken_kept (Some x) None before new bytes kept cs h e k = absurd h
taken_kept (Some x) (Some y) before new bytes kept cs h e k =
    ap (λ (l : List ℕ). commands_of (before ++ l)) h
    ∙ ap commands_of (sym (append_assoc before new y))
    ∙ ap (λ (l : List ℕ). commands_of (l ++ y)) (sym e)
    ∙ k.taken.read y
    ∙ ap (λ (l : List (Option Command)). cs ++ l) (sym (rest_kept k.rest y k.taken.piece) ∙ ap (λ (l : List ℕ). commands_of (l ++ y)) (sym k.kept_is))

-- the lines that were whole after a read
module _ (left left' left'' held held' held'' : Option (List ℕ)) (kept n to : ℕ) (input buf behind input' m work list m' work' list' : List ℕ)
    (e : to ≡ kept + n) (h : kept ≤ length input) (l : n ≤ length buf) (r : Consumes left left' (take n buf)) (s : left'' ≡ left') (p : held' ≡ held) where
  bytes : take to (take kept input ++ (buf ++ behind)) ≡ take kept input ++ take n buf
  bytes = ap (λ (k : ℕ). take k (take kept input ++ (buf ++ behind))) e ∙ read_bytes kept n input buf behind h l

  lines_kept : (k : ℕ) → FirstWritten (take to (take kept input ++ (buf ++ behind))) input' held' held'' (lent m work list) (lent m' work' list') (Ok k)
      → TurnWritten left left'' held held'' kept input input' (lent m work list) (lent m' work' list') (Ok (Some k))
  lines_kept k v =
      let o = v.answered.kept in
      record {
        answered = read_served m work list _ input' m' work' list' k v.answered;
        taken = (
          subst (λ (x : Option (List ℕ)). TakenFrom left x (take kept input) (take k input') v.answered.served.commands) (sym s)
              (taken_kept left left' (take kept input) (take n buf) _ (take k input') v.answered.served.commands r bytes o),
          subst OnePiece (sym o.kept_is) (piece_start 81 o.rest o.taken.piece),
        );
        written = subst (λ (x : Option (List ℕ)). Appends x held'' v.answered.served.text) p v.written;
      }

  lines_failed : (f : Failed) (q : Result (Option ℕ) Failed) → IsErr q
      → FirstWritten (take to (take kept input ++ (buf ++ behind))) input' held' held'' (lent m work list) (lent m' work' list') (Err f)
      → TurnWritten left left'' held held'' kept input input' (lent m work list) (lent m' work' list') q
  lines_failed f (Ok _) i v = cc
  lines_failed f (Err _) i v = record {
    answered = record { short = tt; served = v.answered.served };
    taken = begun_on left left' (take kept input) (take n buf) _ v.answered.served.commands r bytes v.begun;
    written = subst (λ (x : Option (List ℕ)). StartWritten x held'' v.answered.served.text) p v.written;
  }

  -- what is made of the answer to the first lines: the place is kept, a failure is handed on
  abbrev pub Turned : Result ℕ Failed → Result (Option ℕ) Failed → Type 0
  Turned (Ok k) q = q ≡ Ok (Some k)
  Turned (Err f) q = IsErr q

  pub lines_read : (t : Result ℕ Failed) (q : Result (Option ℕ) Failed) → Turned t q
      → FirstWritten (take to (take kept input ++ (buf ++ behind))) input' held' held'' (lent m work list) (lent m' work' list') t
      → TurnWritten left left'' held held'' kept input input' (lent m work list) (lent m' work' list') q
  lines_read (Ok k) q i v = rw i (lines_kept k v)
  lines_read (Err f) q i v = lines_failed f q i v
