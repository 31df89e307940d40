-- Reading the input in turns: the bytes read, and the loop over the turns.
use Prim.Native.Nat.{ℕ, zero, suc, ◌-◌, ◌≤◌}
use mathlib.Core.Path.{◌≡◌, refl, sym, ◌∙◌}
use mathlib.Core.List.{List, [], ◌∷◌}
use native.Mathlib.Nat.{sub-zero}
use native.Mathlib.Omega.{arith}
use lib.ListN.{length, take, drop}
use lib.Seq.{take-nil}
use Rattle.history.specs.Calls.{fresh_memory}
use Rattle.line_program.specs.Response.{lent}
use Rattle.std.specs.Prelude.{Option, None, Some, Result, Ok}
use Rattle.bench.specs.declared.streams.Failed.{Failed}
use Rattle.bench.specs.Bounds.{Lengths}
use Rattle.bench.specs.Served.{Served, FirstServed, TurnServed, Claimed}
use Rattle.bench.proofs.ServedLaws.{none_served, then_served, served_claimed}

-- what is behind a place of the first bytes
pub drop_take : (from to : ℕ) (l : List ℕ) → drop from (take to l) ≡ take (to - from) (drop from l)
drop_take zero to l = rw (sub-zero to) refl
drop_take (suc from) zero l = let e : 0 - suc from ≡ 0 = omega arith in rw e refl
drop_take (suc from) (suc to) [] = sym (take-nil (suc to - suc from))
drop_take (suc from) (suc to) (x ∷ l) = let e : suc to - suc from ≡ to - from = omega arith in drop_take from to l ∙ rw e refl

-- what a turn made of the lists: nothing where nothing was read, else what the lines made
module _ (m work list : List ℕ) where
  abbrev pub read_ended : TurnServed (lent m work list) (lent m work list) (Ok None)
  read_ended = record { short = tt; served = none_served m work list }

  abbrev pub read_served : (bytes input m' work' list' : List ℕ) (n : ℕ)
      → FirstServed bytes input (lent m work list) (lent m' work' list') (Ok n) → TurnServed (lent m work list) (lent m' work' list') (Ok (Some n))
  read_served bytes input m' work' list' n s = record { short = s.short; served = s.served }

-- Between two turns: few bytes are kept, and the lists are as long as at the start.
pub record Turning (m₀ work₀ list₀ input₀ out₀ m work list input out : List ℕ) (kept : ℕ) : Type 0 where
  pub short : kept ≤ 81
  pub long : Lengths (length list) (length input) (length out)
  pub same_index : length m ≡ length m₀
  pub same_work : length work ≡ length work₀
  pub same_list : length list ≡ length list₀
  pub same_input : length input ≡ length input₀
  pub same_out : length out ≡ length out₀
  pub served : Served (lent m₀ work₀ list₀) (lent m work list)

module _ (m₀ work₀ list₀ input₀ out₀ : List ℕ) where
  pub turn_start : Lengths (length list₀) (length input₀) (length out₀) → Turning m₀ work₀ list₀ input₀ out₀ m₀ work₀ list₀ input₀ out₀ 0
  turn_start l = record {
    short = omega arith;
    long = l;
    same_index = refl;
    same_work = refl;
    same_list = refl;
    same_input = refl;
    same_out = refl;
    served = none_served m₀ work₀ list₀;
  }

  -- the lists after a turn are long enough too
  pub turn_long : (m work list input out : List ℕ) (kept : ℕ) → Turning m₀ work₀ list₀ input₀ out₀ m work list input out kept
      → (list' input' out' : List ℕ) → length list' ≡ length list → length input' ≡ length input → length out' ≡ length out
      → Lengths (length list') (length input') (length out')
  turn_long m work list input out kept v list' input' out' l p o =
      let a = v.long in
      record { few = omega (arith, a.few); input_room = omega (arith, a.input_room); out_room = omega (arith, a.out_room) }

  pub turn_again : (m work list input out : List ℕ) (kept : ℕ) → Turning m₀ work₀ list₀ input₀ out₀ m work list input out kept
      → (m' work' list' input' out' : List ℕ) → length m' ≡ length m → length work' ≡ length work → length list' ≡ length list
      → length input' ≡ length input → length out' ≡ length out → (n : ℕ) → TurnServed (lent m work list) (lent m' work' list') (Ok (Some n))
      → Turning m₀ work₀ list₀ input₀ out₀ m' work' list' input' out' n
  turn_again m work list input out kept v m' work' list' input' out' i w l p o n s =
      record {
        short = s.short;
        long = turn_long m work list input out kept v list' input' out' l p o;
        same_index = i ∙ v.same_index;
        same_work = w ∙ v.same_work;
        same_list = l ∙ v.same_list;
        same_input = p ∙ v.same_input;
        same_out = o ∙ v.same_out;
        served = then_served _ _ _ v.served s.served;
      }

  -- the ways out: the turns are used up, a turn failed, the input ended
  module _ (f : m₀ ≡ fresh_memory 64) (m work list input out : List ℕ) (kept : ℕ) (v : Turning m₀ work₀ list₀ input₀ out₀ m work list input out kept) where
    pub turns_over : Claimed (lent m₀ work₀ list₀) (lent m work list)
    turns_over = served_claimed _ _ v.served f

    module _ (m' work' list' : List ℕ) (t : Result (Option ℕ) Failed) (s : TurnServed (lent m work list) (lent m' work' list') t) where
      pub turn_failed : Claimed (lent m₀ work₀ list₀) (lent m' work' list')
      turn_failed = served_claimed _ _ (then_served _ _ _ v.served s.served) f

      pub turn_last : (m'' work'' list'' : List ℕ) → Served (lent m' work' list') (lent m'' work'' list'') → Claimed (lent m₀ work₀ list₀) (lent m'' work'' list'')
      turn_last m'' work'' list'' w = served_claimed _ _ (then_served _ _ _ (then_served _ _ _ v.served s.served) w) f
