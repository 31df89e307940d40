-- Request A.6: what an accepted insertion tells of the cells that siblings removed.
-- docs/RULES.md 6.19
use Rattle.std.specs.Prelude.{ℕ, true, List, [], ◌∷◌, ◌≡◌}
use Rattle.std.proofs.Math.Option.{some}
use Rattle.geometry.specs.declared.rect.Cell.{Cell}
use Rattle.tree.specs.Calls.{insert_call, remove_call, clear_call, point_call, window_call, nearest_call, empty_call}
use Rattle.tree.specs.Removed.{removed_total}
use Rattle.plane.specs.Fanout.{fanout, index_space, index_root, PlaneIndex}
use Rattle.memory.specs.Reading.{reading}
use Rattle.answers.specs.declared.reply.Reply.{Reply}
use Rattle.history.specs.Calls.{IndexCall, accepted}

-- What an insertion of c replied on a memory m that holds an index: the entries held, and 'the total removed by
-- siblings, summed over all levels', of the tree before it.
pub record RemovedExact (m : List ℕ) (c : Cell) (t : Reply) : Type 0 where
  pub index : PlaneIndex
  pub reads : reading fanout m ≡ some index
  pub held : ℕ
  pub reply : t.values ≡ held ∷ removed_total index_space index_root index c ∷ []

-- so for a call, if it is an accepted insertion
abbrev pub RemovedBy : IndexCall → List ℕ → Reply → Type 0
RemovedBy (insert_call e) m t = accepted t ≡ true → RemovedExact m e.cell t
RemovedBy (remove_call c) m t = Unit {0}
RemovedBy clear_call m t = Unit {0}
RemovedBy (point_call c) m t = Unit {0}
RemovedBy (window_call w) m t = Unit {0}
RemovedBy (nearest_call c) m t = Unit {0}
RemovedBy (empty_call w) m t = Unit {0}
