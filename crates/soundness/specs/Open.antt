-- What opening an index answers of its memory.
use Rattle.std.specs.Prelude.{ℕ, List, ◌≡◌, Option, Some, None, Result, Ok, Err}
use Rattle.std.proofs.Math.Option.{none, some}
use Rattle.plane.specs.Fanout.{fanout}
use Rattle.memory.specs.Reading.{reading}
use Rattle.memory.specs.TreeIn.{TreeIn}
use Rattle.answers.specs.declared.answer.Refusal.{Refusal}
use Rattle.answers.specs.declared.answer.Refusal.TheVariants as R
use Rattle.soundness.specs.declared.opening.Root.{Root}

-- The memory reads as no sound tree, which is the refusal r.
pub record NoTree (m : List ℕ) (r : Refusal) : Type 0 where
  pub reason : r ≡ R.NoSoundTree
  pub reads : reading fanout m ≡ none

-- the empty index, or a sound tree with that root, or no sound tree
abbrev pub OpenedAs : List ℕ → Result (Option Root) Refusal → Type 0
OpenedAs m (Ok None) = reading fanout m ≡ some none
OpenedAs m (Ok (Some root)) = TreeIn m root.level root.part
OpenedAs m (Err r) = NoTree m r
