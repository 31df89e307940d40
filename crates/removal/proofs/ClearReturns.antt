-- The returns of clearing.
use Prim.Native.Nat.{ℕ}
use mathlib.Core.Path.{◌≡◌}
use mathlib.Core.Bool.{Bool, true, false}
use mathlib.Core.List.{List}
use lib.ListN.{length, replicate}
use Rattle.memory.specs.Layout.{is_index_length}
use Rattle.std.specs.Prelude.{Ok, Err}
use Rattle.answers.specs.declared.answer.Refusal.TheVariants.{WrongLength}
use Rattle.answers.specs.Answers.{clear_answer, cleared}

module _ (m : List ℕ) (b : Bool) (e : b ≡ is_index_length m) where
  pub clear_accepts : b ≡ true → Ok 0 ≡ clear_answer m
  unfolding clear_answer
  clear_accepts f = rw (← e, f)

  pub clear_zeros : (m' : List ℕ) → b ≡ true → m' ≡ replicate (length m) 0 → m' ≡ cleared m
  unfolding cleared
  clear_zeros m' f g = rw (← e, f) g

  pub clear_refuses : b ≡ false → Err WrongLength ≡ clear_answer m
  unfolding clear_answer
  clear_refuses f = rw (← e, f)

  pub clear_leaves : b ≡ false → m ≡ cleared m
  unfolding cleared
  clear_leaves f = rw (← e, f)
