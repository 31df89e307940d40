-- The loop that answers and writes until no whole line is left.
use Prim.Native.Nat.{ℕ, ◌+◌, ◌*◌, ◌≤◌}
use mathlib.Core.Path.{◌≡◌, refl, sym, ap, ◌∙◌}
use mathlib.Core.List.{List, ◌++◌, append_assoc}
use native.Mathlib.Omega.{arith}
use lib.ListN.{length, drop}
use Rattle.line_program.specs.declared.stream.Progress.{Progress}
use Rattle.line_program.specs.Response.{lent}
use Rattle.line_program.specs.Stream.{LinesAnswered, commands_of}
use Rattle.bench.specs.Served.{Served}
use Rattle.bench.proofs.ServedLaws.{none_served, lines_served}

-- The lines before a place are answered.
pub record AllAnswered (input m₀ work₀ list₀ out₀ m work list out : List ℕ) (from : ℕ) : Type 0 where
  pub within : from ≤ length input
  pub few : length list ≤ 65536
  pub room : 64 + 12 * length list ≤ length out
  pub same_index : length m ≡ length m₀
  pub same_work : length work ≡ length work₀
  pub same_list : length list ≡ length list₀
  pub same_out : length out ≡ length out₀
  pub served : Served (lent m₀ work₀ list₀) (lent m work list)
  pub read : (more : List ℕ) → commands_of (input ++ more) ≡ served.commands ++ commands_of (drop from input ++ more)

module _ (input m₀ work₀ list₀ out₀ : List ℕ) where
  abbrev pub all_start : length list₀ ≤ 65536 → 64 + 12 * length list₀ ≤ length out₀ → AllAnswered input m₀ work₀ list₀ out₀ m₀ work₀ list₀ out₀ 0
  all_start h g = record {
    within = omega arith;
    few = h;
    room = g;
    same_index = refl;
    same_work = refl;
    same_list = refl;
    same_out = refl;
    served = none_served m₀ work₀ list₀;
    read = λ more. refl;
  }

  module _ (m work list out : List ℕ) (from : ℕ) (v : AllAnswered input m₀ work₀ list₀ out₀ m work list out from) where
    module _ (m' work' list' out' : List ℕ) (r : Progress) (d : LinesAnswered input from (lent m work list) (lent m' work' list') out' r) where
      abbrev pub on : Served (lent m₀ work₀ list₀) (lent m' work' list')
      on = lines_served m₀ work₀ list₀ m work list m' work' list' v.served input out' from r d

      pub read_on : (more : List ℕ) → commands_of (input ++ more) ≡ (v.served.commands ++ d.commands) ++ commands_of (drop r.next input ++ more)
      read_on more = v.read more ∙ ap (λ cs. v.served.commands ++ cs) (d.read more) ∙ sym (append_assoc v.served.commands d.commands _)

      abbrev pub all_again : length m' ≡ length m → length work' ≡ length work → length list' ≡ length list → length out' ≡ length out
          → AllAnswered input m₀ work₀ list₀ out₀ m' work' list' out' r.next
      all_again i w l o = record {
        within = d.within;
        few = omega (arith, v.few);
        room = omega (arith, v.room);
        same_index = i ∙ v.same_index;
        same_work = w ∙ v.same_work;
        same_list = l ∙ v.same_list;
        same_out = o ∙ v.same_out;
        served = on;
        read = read_on;
      }
