-- The loop that answers and writes, and the loop over the turns, with what they write and take.
use Rattle.std.proofs.Common.{ℕ, ◌≤◌, ◌<◌, ◌+◌, ◌*◌, true, List, [], ◌≡◌, length, take, drop, sym, ap, ◌∙◌}
use Rattle.std.specs.Io.KnownBytes.{Appends}
use Rattle.std.specs.declared.option.Option.{Option}
use Rattle.line_program.specs.declared.stream.Progress.{Progress}
use Rattle.commands.specs.declared.output.Output.{Output}
use Rattle.line_program.specs.Response.{lent, Responded}
use Rattle.line_program.specs.Stream.{LinesAnswered, Kept}
use Rattle.std.specs.Prelude.{Result, Ok, Err, IsErr, OnOk, ⊤}
use Rattle.bench.specs.declared.streams.Failed.{Failed}
use Rattle.bench.specs.Written.{StartWritten, AllWritten, FirstWritten, LastWritten}
use Rattle.bench.proofs.ServedLaws.{none_last, last_served}
use Rattle.bench.proofs.TurnLoop.{drop_take}
use Rattle.bench.proofs.AnswerLoop.{AllAnswered, all_start, all_again, on, read_on}
use Rattle.bench.proofs.WrittenLaws.{appends_nil, appends_on, start_all, start_on}

-- the lines before a place are answered, and the answers written
pub record AllPut (input m₀ work₀ list₀ out₀ : List ℕ) (held held' : Option (List ℕ)) (m work list out : List ℕ) (from : ℕ) : Type 0 where
  pub all : AllAnswered input m₀ work₀ list₀ out₀ m work list out from
  pub written : Appends held held' all.served.text

module _ (input m₀ work₀ list₀ out₀ : List ℕ) (held : Option (List ℕ)) where
  pub put_start_all : length list₀ ≤ 65536 → 64 + 12 * length list₀ ≤ length out₀
      → AllPut input m₀ work₀ list₀ out₀ held held m₀ work₀ list₀ out₀ 0
  put_start_all h g = record { all = all_start input m₀ work₀ list₀ out₀ h g; written = appends_nil held }

  module _ (held' held'' : Option (List ℕ)) (m work list out : List ℕ) (from : ℕ)
      (v : AllPut input m₀ work₀ list₀ out₀ held held' m work list out from) (m' work' list' out' : List ℕ) (r : Progress)
      (d : LinesAnswered input from (lent m work list) (lent m' work' list') out' r) where
    pub put_again_all : Appends held' held'' (take r.written out')
        → length m' ≡ length m → length work' ≡ length work → length list' ≡ length list → length out' ≡ length out
        → AllPut input m₀ work₀ list₀ out₀ held held'' m' work' list' out' r.next
    put_again_all p i w l o = record {
      all = all_again input m₀ work₀ list₀ out₀ m work list out from v.all m' work' list' out' r d i w l o;
      written = appends_on held held' held'' v.all.served.text (take r.written out') v.written p;
    }

    -- the answers could not be written
    pub put_failed_all : (q : Result ℕ Failed) → IsErr q → StartWritten held' held'' (take r.written out')
        → AllWritten input held held'' (lent m₀ work₀ list₀) (lent m' work' list') q
    put_failed_all (Ok _) h p = cc
    put_failed_all (Err _) h p = record {
      answered = record { within = tt; served = on input m₀ work₀ list₀ out₀ m work list out from v.all m' work' list' out' r d; taken = tt };
      begun = record { rest = drop r.next input; read = read_on input m₀ work₀ list₀ out₀ m work list out from v.all m' work' list' out' r d };
      written = start_on held held' held'' v.all.served.text (take r.written out') v.written p;
    }

    -- no whole line is left
    pub put_done_all : (n : ℕ) → n ≡ r.next → r.done ≡ true → Appends held' held'' (take r.written out')
        → AllWritten input held held'' (lent m₀ work₀ list₀) (lent m' work' list') (Ok n)
    put_done_all n e f p = rw e (record {
      answered = record {
        within = d.within;
        served = on input m₀ work₀ list₀ out₀ m work list out from v.all m' work' list' out' r d;
        taken = record { read = read_on input m₀ work₀ list₀ out₀ m work list out from v.all m' work' list' out' r d; piece = d.rest f };
      };
      begun = record { rest = drop r.next input; read = read_on input m₀ work₀ list₀ out₀ m work list out from v.all m' work' list' out' r d };
      written = appends_on held held' held'' v.all.served.text (take r.written out') v.written p;
    })

-- the whole lines of the first bytes were answered and written, and the rest is kept
module _ (held held' : Option (List ℕ)) (m work list : List ℕ) (to : ℕ) (input m' work' list' : List ℕ) where
  pub first_failed : (e : Failed) (q : Result ℕ Failed) (input' : List ℕ) → IsErr q
      → AllWritten (take to input) held held' (lent m work list) (lent m' work' list') (Err e)
      → FirstWritten (take to input) input' held held' (lent m work list) (lent m' work' list') q
  first_failed e (Ok _) input' h v = cc
  first_failed e (Err _) input' h v =
      record { answered = record { short = tt; served = v.answered.served; kept = tt }; begun = v.begun; written = v.written }

  pub first_kept : (input' : List ℕ) (from k : ℕ) → AllWritten (take to input) held held' (lent m work list) (lent m' work' list') (Ok from)
      → Kept input from to input' k → FirstWritten (take to input) input' held held' (lent m work list) (lent m' work' list') (Ok k)
  first_kept input' from k v h = record {
    answered = record {
      short = h.few;
      served = v.answered.served;
      kept = record {
        rest = drop from (take to input);
        taken = v.answered.taken;
        kept_is = h.bytes ∙ ap (take 81) (sym (drop_take from to input));
      };
    };
    begun = v.begun;
    written = v.written;
  }

-- the last line was answered and written
module _ (held : Option (List ℕ)) (input m work list : List ℕ) (kept : ℕ) where
  pub last_none : kept ≡ 0 → LastWritten (take kept input) held held (lent m work list) (lent m work list) (Ok tt)
  last_none e = rw e (record {
    answered = none_last m work list;
    start = start_all held held [] (appends_nil held);
    all = appends_nil held;
  })

  pub last_put : (held' : Option (List ℕ)) (m' work' list' : List ℕ) (out out' : Output) (at_exit : List ℕ) (r : Result ⊤ Failed) → out.at ≡ 0
      → Responded (take kept input) (lent m work list) (lent m' work' list') out out' → at_exit ≡ out'.bytes.now
      → (kept ≡ 0 → ⊥) → kept ≤ 81 → 81 < length input
      → StartWritten held held' (take out'.at at_exit) → OnOk r (Appends held held' (take out'.at at_exit))
      → LastWritten (take kept input) held held' (lent m work list) (lent m' work' list') r
  last_put held' m' work' list' out out' at_exit r z d q n k l s all = record {
    answered = last_served input m work list m' work' list' out out' kept z d n k l;
    start = rw q at s;
    all = rw q at all;
  }
