-- The loops over the lines of an input, and over the bytes that are kept of it.
use Prim.Native.Nat.{ℕ, suc, ◌+◌, ◌*◌, ◌-◌, ◌≤◌, ◌<◌, min}
use mathlib.Core.Path.{◌≡◌, refl, ◌∙◌}
use mathlib.Core.Bool.{Bool, true, false, true≢false, false≢true}
use mathlib.Core.List.{List, [], ◌∷◌, ◌++◌, append_assoc}
use native.Mathlib.Numerals.{add-one}
use native.Mathlib.Omega.{arith}
use native.Mathlib.Decide.{dec_le}
use lib.ListN.{length, get_or, take, drop, length-take, length-drop, drop_of_length-le}
use lib.Seq.{drop-cons, take-take, take_all, take_at}
use Rattle.std.specs.List.{copy_within}
use Rattle.memory.specs.TreeIn.{Known}
use Rattle.std.specs.Prelude.{Option}
use Rattle.std.specs.Prelude.{Option}
use Rattle.commands.specs.declared.parsing.Command.{Command}
use Rattle.commands.specs.declared.output.Output.{Output}
use Rattle.commands.specs.Split.{pieces_behind, PieceEnd}
use Rattle.commands.specs.Commands.{command_of}
use Rattle.line_program.specs.Response.{Lent, lent, longest, Responded}
use Rattle.line_program.specs.Stream.{commands_of, Ran, none, LinesAnswered, Kept}
use Rattle.line_program.proofs.OpeningLaws.{carried_known}
use Rattle.line_program.proofs.RunLaws.{ran_append, ran_one}
use Rattle.line_program.proofs.StreamLaws.{line_ended}

-- The lines before the place next were answered; their answers are the bytes written.
pub record Answering (input : List ℕ) (from : ℕ) (a b : Lent) (out₀ out : Output) (room next : ℕ) (known : Bool) : Type 0 where
  pub commands : List (Option Command)
  pub read : (more : List ℕ) → commands_of (drop from input ++ more) ≡ commands ++ commands_of (drop next input ++ more)
  pub ran : Ran commands a b (take out.at out.bytes.now)
  pub fits : out.at ≤ length out.bytes.now
  pub forward : from ≤ next
  pub within : next ≤ length input
  pub moved : 0 < out.at → from < next
  pub space : room + longest b.list ≡ length out.bytes.now
  pub same_index : length b.index ≡ length a.index
  pub same_work : length b.work ≡ length a.work
  pub same_list : length b.list ≡ length a.list
  pub same_out : length out.bytes.now ≡ length out₀.bytes.now
  pub same_slice : out.bytes.ghost_name ≡ out₀.bytes.ghost_name
  pub sound : Known b.index known

module _ (input : List ℕ) (from : ℕ) (a : Lent) (out₀ : Output) where
  pub answer_start : (known : Bool) → from ≤ length input → 64 + 12 * length a.list ≤ length out₀.bytes.now → out₀.at ≡ 0 → Known a.index known
      → Answering input from a a out₀ out₀ (length out₀.bytes.now - (64 + 12 * length a.list)) from known
  answer_start known h k z s = record {
    commands = [];
    read = λ more. refl;
    ran = rw z none;
    fits = omega arith;
    forward = omega arith;
    within = h;
    moved = λ m. absurd (omega arith);
    space = omega arith;
    same_index = refl;
    same_work = refl;
    same_list = refl;
    same_out = refl;
    same_slice = refl;
    sound = s;
  }

  pub answer_room : (m w l : List ℕ) (out : Output) (room next : ℕ) (known : Bool) → Answering input from a (lent m w l) out₀ out room next known → out.at ≤ room → out.at + (64 + 12 * length l) ≤ length out.bytes.now
  answer_room m w l out room next known v h = omega (arith, v.space)

  pub answer_sound : (m w l : List ℕ) (out : Output) (room next : ℕ) (known : Bool) → Answering input from a (lent m w l) out₀ out room next known → Known m known
  answer_sound m w l out room next known v = v.sound

  module _ (b : Lent) (out : Output) (room next : ℕ) (known : Bool) (v : Answering input from a b out₀ out room next known) where
    -- no whole line is left
    pub answer_done : (at_exit : List ℕ) → at_exit ≡ out.bytes.now → (end : ℕ) → PieceEnd 10 input next end → end ≡ length input → LinesAnswered input from a b at_exit (record { next = next; written = out.at; done = true })
    unfolding pieces_behind
    answer_done at_exit q end p e =
        let k : length input ≤ end = omega arith in
        let d : drop end input ≡ [] = drop_of_length-le input k in
        let l : length (drop next input) ≤ end - next = rw length-drop (omega arith) in
        rw q record {
          commands = v.commands;
          read = v.read;
          ran = v.ran;
          fits = v.fits;
          forward = v.forward;
          within = v.within;
          onward = λ f. absurd (true≢false f);
          rest = λ f. p.pieces ∙ rw (d, take_all (end - next) (drop next input) l);
        }

    -- there is no room for one more answer
    pub answer_full : (at_exit : List ℕ) → at_exit ≡ out.bytes.now → room < out.at → LinesAnswered input from a b at_exit (record { next = next; written = out.at; done = false })
    answer_full at_exit q h = rw q record {
      commands = v.commands;
      read = v.read;
      ran = v.ran;
      fits = v.fits;
      forward = v.forward;
      within = v.within;
      onward = λ f. v.moved (omega arith);
      rest = λ f. absurd (false≢true f);
    }

    -- one more line
    module _ (end : ℕ) (p : PieceEnd 10 input next end) (h : end ≡ length input → ⊥) where
      ended : end < length input
      ended = omega (arith, p.within)

      line_read : (more : List ℕ) → commands_of (drop next input ++ more) ≡ command_of (take (end - next) (drop next input)) ∷ commands_of (drop (end + 1) input ++ more)
      unfolding pieces_behind
      line_read more =
          let d : drop end input ≡ get_or input end 0 ∷ drop (suc end) input = drop-cons input end 0 ended in
          line_ended (drop next input) (take (end - next) (drop next input)) (drop (end + 1) input) more (p.pieces ∙ rw (d, add-one))

      pub answer_again : out.at ≤ room → (b' : Lent) (out' : Output) → Responded (take (end - next) (drop next input)) b b' out out'
          → length b'.index ≡ length b.index → length b'.work ≡ length b.work → length b'.list ≡ length b.list
          → Answering input from a b' out₀ out' room (end + 1) known
      answer_again g b' out' r i w l = record {
        commands = v.commands ++ (command_of (take (end - next) (drop next input)) ∷ []);
        read = λ more. v.read more ∙ rw (line_read more, append_assoc);
        ran = rw r.put.bytes (ran_append v.ran (ran_one r.done));
        fits = omega (arith, v.space, r.put.next_is, r.few, r.put.same_length);
        forward = omega (arith, v.forward, p.forward);
        within = omega (arith, ended);
        moved = λ m. omega (arith, v.forward, p.forward);
        space = omega (arith, v.space, r.put.same_length);
        same_index = i ∙ v.same_index;
        same_work = w ∙ v.same_work;
        same_list = l ∙ v.same_list;
        same_out = r.put.same_length ∙ v.same_out;
        same_slice = r.put.same_slice ∙ v.same_slice;
        sound = carried_known _ b b' r.text known r.done v.sound;
      }

-- The bytes that are kept: the rest, or its first 81 bytes.
pub keep_copied : (input : List ℕ) (from to : ℕ) → from ≤ to → to ≤ length input → (n : ℕ) → n ≡ min (to - from) 81
    → Kept input from to (copy_within input from (from + n) 0) n
keep_copied input from to g h n e =
    let z : from + n - from ≡ n = omega arith in
    let l : length (take n (drop from input)) ≡ n = rw length-take (rw length-drop (omega arith)) in
    rw z record {
      few = omega arith;
      within = omega arith;
      bytes = take_at (take n (drop from input)) (drop (0 + n) input) n l ∙ kept (dec_le (to - from) 81);
    }
  where
    kept : Dec (to - from ≤ 81) → take n (drop from input) ≡ take 81 (take (to - from) (drop from input))
    kept (yes k) =
        let a : n ≡ to - from = omega arith in
        let b : length (take (to - from) (drop from input)) ≤ 81 = rw length-take (omega arith) in
        rw (a, take_all 81 (take (to - from) (drop from input)) b)
    kept (no k) =
        let a : n ≡ 81 = omega arith in
        let b : 81 ≤ to - from = omega arith in
        rw (a, take-take 81 (to - from) (drop from input) b)
