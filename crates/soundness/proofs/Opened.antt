-- A memory that was opened as an index.
use Rattle.std.proofs.Common.{◌≡◌, List, ℕ, true, Option, Some, None, Ok}
use mathlib.Core.Option.{none, some}
use Rattle.plane.specs.Fanout.{fanout}
use Rattle.memory.specs.Reading.{reading}
use Rattle.memory.specs.TreeIn.{TreeIn, Known}
use Rattle.soundness.specs.declared.opening.Root.{Root}
use Rattle.soundness.specs.Open.{OpenedAs}

-- opened as the empty index
pub opened_empty : (m : List ℕ) (o : Option Root) → OpenedAs m (Ok o) → o ≡ None → reading fanout m ≡ some none
opened_empty m o p q = rw q at p

-- opened as a tree
pub opened_tree : (m : List ℕ) (o : Option Root) (root : Root) → OpenedAs m (Ok o) → o ≡ Some root → TreeIn m root.level root.part
opened_tree m o root p q = rw q at p

-- opened as an index, it is one
pub opened_known : (m : List ℕ) (o : Option Root) → OpenedAs m (Ok o) → Known m true
opened_known m None p = record { sound = λ e. record { index = none; reads = p } }
opened_known m (Some root) p = record { sound = λ e. record { index = some p.tree; reads = p.reads } }
