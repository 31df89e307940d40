-- The turns one after another, to the end of the input.
use Rattle.std.proofs.Common.{ℕ, List, [], ◌∷◌, ◌++◌, map, ◌≡◌, None, Some, IfSome, take, refl, sym, ap, ◌∙◌, subst, append_assoc, append-nil, arith}
use Rattle.std.proofs.lemmas.Result.{on_ok_weaker}
use Rattle.std.specs.Io.KnownBytes.{Appends, IsAtEnd}
use Rattle.std.specs.declared.option.Option.{Option}
use Rattle.history.specs.Calls.{fresh_memory}
use Rattle.commands.specs.declared.parsing.Command.{Command}
use Rattle.commands.specs.Split.{split_at}
use Rattle.commands.specs.Commands.{command_of}
use Rattle.line_program.specs.Response.{Lent, lent}
use Rattle.line_program.specs.Stream.{OnePiece, commands_of, lines_of, lines_in}
use Rattle.line_program.proofs.LinesHistory.{session_history}
use Rattle.std.specs.Prelude.{Result, Ok, Err, IsErr, OnOk, ⊤}
use Rattle.bench.specs.declared.streams.Failed.{Failed}
use Rattle.bench.specs.Served.{Served}
use Rattle.bench.specs.Written.{StartWritten, BegunFrom, TakenFrom, LastWritten, TurnWritten, RunWritten}
use Rattle.bench.proofs.ServedLaws.{none_served, then_served, then_commands, then_text}
use Rattle.bench.proofs.WrittenTurns.{begun_none}
use Rattle.bench.proofs.WrittenLaws.{appends_nil, appends_on, start_all, start_on}

-- no byte is without line feed
no_piece : OnePiece []
unfolding split_at
no_piece = refl

-- the last line of bytes without line feed
last_piece : (s : List ℕ) → OnePiece s → map command_of (lines_in (s ∷ [])) ≡ commands_of s
unfolding commands_of lines_of
last_piece s e = ap (λ (ps : List (List ℕ)). map command_of (lines_in ps)) (sym e)

taken_on : (x y z : Option (List ℕ)) (before mid after : List ℕ) (cs ds : List (Option Command)) → TakenFrom x y before mid cs → TakenFrom y z mid after ds
    → TakenFrom x z before after (cs ++ ds)
taken_on None y z before mid after cs ds p q = tt
taken_on (Some x) None z before mid after cs ds p q = absurd p
taken_on (Some x) (Some y) None before mid after cs ds p q = absurd q
taken_on (Some x) (Some y) (Some z) before mid after cs ds p q =
    p ∙ ap (λ (l : List (Option Command)). cs ++ l) q ∙ sym (append_assoc cs ds (commands_of (after ++ z)))

taken_same : (x : Option (List ℕ)) (before : List ℕ) → TakenFrom x x before before []
taken_same None before = tt
taken_same (Some x) before = refl

-- what was answered are the first commands of the input
begun_behind : (x y : Option (List ℕ)) (bytes : List ℕ) (cs ds es : List (Option Command)) → TakenFrom x y [] bytes cs → BegunFrom y bytes ds → es ≡ cs ++ ds
    → IfSome x (λ input. (later : List (Option Command)) × (commands_of input ≡ es ++ later))
begun_behind None y bytes cs ds es p b e = tt
begun_behind (Some x) None bytes cs ds es p b e = absurd p
begun_behind (Some x) (Some y) bytes cs ds es p b e =
    (b.0, p ∙ ap (λ (k : List (Option Command)). cs ++ k) b.1 ∙ sym (append_assoc cs ds b.0) ∙ ap (λ (k : List (Option Command)). k ++ b.0) (sym e))

begun_all : (x : Option (List ℕ)) (es : List (Option Command)) → IfSome x (λ input. es ≡ commands_of input)
    → IfSome x (λ input. (later : List (Option Command)) × (commands_of input ≡ es ++ later))
begun_all None es e = tt
begun_all (Some x) es e = ([], sym e ∙ sym (append-nil es))

-- What was answered so far is what was taken, and its answers are written.
pub record Answering (left left' held held' : Option (List ℕ)) (a b : Lent) (bytes : List ℕ) : Type 0 where
  pub served : Served a b
  pub taken : TakenFrom left left' [] bytes served.commands
  pub piece : OnePiece bytes
  pub written : Appends held held' served.text

pub answering_start : (left held : Option (List ℕ)) (m work list : List ℕ) → Answering left left held held (lent m work list) (lent m work list) []
answering_start left held m work list = record {
  served = none_served m work list;
  taken = taken_same left [];
  piece = no_piece;
  written = appends_nil held;
}

module _ (left left' held held' : Option (List ℕ)) (a b : Lent) (kept : ℕ) (input : List ℕ) (v : Answering left left' held held' a b (take kept input)) where
  pub answering_on : (left'' held'' : Option (List ℕ)) (d : Lent) (n : ℕ) (input' : List ℕ) → TurnWritten left' left'' held' held'' kept input input' b d (Ok (Some n))
      → Answering left left'' held held'' a d (take n input')
  answering_on left'' held'' d n input' t =
      let s = t.answered.served in
      record {
        served = then_served a b d v.served s;
        taken = subst (TakenFrom left left'' [] (take n input')) (sym (then_commands a b d v.served s))
            (taken_on left left' left'' [] (take kept input) (take n input') v.served.commands s.commands v.taken t.taken.0);
        piece = t.taken.1;
        written = subst (Appends held held'') (sym (then_text a b d v.served s)) (appends_on held held' held'' v.served.text s.text v.written t.written);
      }

  module _ (fresh : a.index ≡ fresh_memory 64) where
    -- the turns are used up
    pub answering_over : (f : Failed) → RunWritten left held held' a b (Err f)
    answering_over f = record {
      served = v.served;
      claim = session_history 64 (omega arith) (omega arith) v.served.session fresh;
      begun = begun_behind left left' (take kept input) v.served.commands [] v.served.commands v.taken (begun_none left' (take kept input)) (sym (append-nil v.served.commands));
      start = start_all held held' v.served.text v.written;
      all = tt;
      input_answered = tt;
    }

    -- a read or a write failed
    pub answering_failed : (left'' held'' : Option (List ℕ)) (d : Lent) (input' : List ℕ) (f : Failed) (q : Result ⊤ Failed) → IsErr q
        → TurnWritten left' left'' held' held'' kept input input' b d (Err f) → RunWritten left held held'' a d q
    answering_failed left'' held'' d input' f (Ok _) h t = cc
    answering_failed left'' held'' d input' f (Err _) h t =
        let s = t.answered.served in
        let w = then_served a b d v.served s in
        record {
          served = w;
          claim = session_history 64 (omega arith) (omega arith) w.session fresh;
          begun = begun_behind left left' (take kept input) v.served.commands s.commands w.commands v.taken t.taken (then_commands a b d v.served s);
          start = subst (StartWritten held held'') (sym (then_text a b d v.served s)) (start_on held held' held'' v.served.text s.text v.written t.written);
          all = tt;
          input_answered = tt;
        }

    -- the input ended
    pub answering_ended : (left'' held'' held''' : Option (List ℕ)) (d f : Lent) (input' : List ℕ) (r : Result ⊤ Failed)
        → TurnWritten left' left'' held' held'' kept input input' b d (Ok None) → LastWritten (take kept input') held'' held''' d f r
        → RunWritten left held held''' a f r
    answering_ended left'' held'' held''' d f input' r t l =
        let s = t.answered.served in
        let u = then_served a b d v.served s in
        let z = l.answered.served in
        let w = then_served a d f u z in
        let x : w.text ≡ (v.served.text ++ s.text) ++ z.text =
        then_text a d f u z ∙ ap (λ (k : List ℕ). k ++ z.text) (then_text a b d v.served s) in
        let p : Appends held held'' (v.served.text ++ s.text) = appends_on held held' held'' v.served.text s.text v.written t.written in
        let y : w.commands ≡ (v.served.commands ++ s.commands) ++ z.commands =
        then_commands a d f u z ∙ ap (λ (k : List (Option Command)). k ++ z.commands) (then_commands a b d v.served s) in
        let q : TakenFrom left left'' [] (take kept input) (v.served.commands ++ s.commands) =
        taken_on left left' left'' [] (take kept input) (take kept input) v.served.commands s.commands v.taken t.taken.0 in
        let e : z.commands ≡ commands_of (take kept input) =
        l.answered.line ∙ ap (λ (k : List ℕ). map command_of (lines_in (k ∷ []))) t.taken.2 ∙ last_piece (take kept input) v.piece in
        record {
          served = w;
          claim = session_history 64 (omega arith) (omega arith) w.session fresh;
          begun = begun_all left w.commands (all_taken left left'' (take kept input) (v.served.commands ++ s.commands) z.commands w.commands q t.taken.1 e y);
          start = subst (StartWritten held held''') (sym x) (start_on held held'' held''' (v.served.text ++ s.text) z.text p l.start);
          all = on_ok_weaker r (λ k. subst (Appends held held''') (sym x) (appends_on held held'' held''' (v.served.text ++ s.text) z.text p k)) l.all;
          input_answered = on_ok r (all_taken left left'' (take kept input) (v.served.commands ++ s.commands) z.commands w.commands q t.taken.1 e y);
        }
      where
        on_ok : {P : Type 0} (r : Result ⊤ Failed) → P → OnOk r P
        on_ok (Ok _) p = p
        on_ok (Err _) p = tt

        all_taken : (x y : Option (List ℕ)) (bytes : List ℕ) (cs ds es : List (Option Command)) → TakenFrom x y [] bytes cs → IsAtEnd y → ds ≡ commands_of bytes
            → es ≡ cs ++ ds → IfSome x (λ input. es ≡ commands_of input)
        all_taken None y bytes cs ds es p z e h = tt
        all_taken (Some x) None bytes cs ds es p z e h = absurd p
        all_taken (Some x) (Some y) bytes cs ds es p z e h =
            h ∙ ap (λ (k : List (Option Command)). cs ++ k) (e ∙ ap commands_of (sym (ap (λ (k : List ℕ). bytes ++ k) z ∙ append-nil bytes))) ∙ sym p
