-- Insertion in the plane keeps an index sound, and demand 3's claim holds of lists of calls, with no assumption left.
use Prim.Native.Nat.{ℕ, ◌≤◌}
use mathlib.Core.Bool.{true, false}
use mathlib.Core.List.{List}
use mathlib.Core.Path.{◌≡◌}
use native.Mathlib.Omega.{arith}
use Rattle.geometry.specs.Cells.{on_grid}
use Rattle.tree.specs.Lists.{All}
use Rattle.tree.specs.Tree.{Index, Sound}
use Rattle.tree.specs.Insert.{insert, accepted}
use Rattle.tree.specs.Query.{holds}
use Rattle.tree.specs.Calls.{Call}
use Rattle.tree.specs.Claim.{OnGrid, Claim}
use Rattle.tree.proofs.Insert.{Inserted, insert_accepted}
use Rattle.tree.proofs.Claim.{claim}
use Rattle.plane.specs.Lines.{CellEntry}
use Rattle.plane.specs.Plane.{plane_space, plane_root}
use Rattle.plane.specs.Windows.{plane_window}
use Rattle.plane.proofs.Rects.{plane_space_laws}
use Rattle.plane.proofs.Roots.{plane_root_laws}
use Rattle.plane.proofs.Steps.{plane_steps}
use Rattle.plane.proofs.Windows.{plane_window_laws}

module _ (fanout : ℕ) (two : 2 ≤ fanout) (N : ℕ) where
  -- an accepted insertion of a cell that is not held: the index after is sound, has room, and holds the entry more
  pub plane_insert : (i : Index (plane_space fanout)) (e : CellEntry) (j : Index (plane_space fanout)) → insert (plane_space fanout) (plane_root fanout) N i e ≡ accepted j
      → Sound (plane_space fanout) (plane_root fanout) i → on_grid e.cell ≡ true → holds (plane_space fanout) e.cell i ≡ false
      → Inserted (plane_space fanout) (plane_space_laws fanout) (plane_steps fanout (omega arith)) (plane_root fanout) (plane_root_laws fanout) two N i e j
  plane_insert i e j h s g f = insert_accepted (plane_space fanout) (plane_space_laws fanout) (plane_steps fanout (omega arith)) (plane_root fanout) (plane_root_laws fanout) two N i e j h s g f

  -- the claim about any list of calls whose cells are on the grid
  pub plane_claim : (ks : List (Call (plane_space fanout) (plane_window fanout))) → All (OnGrid (plane_space fanout) (plane_window fanout)) ks → Claim (plane_space fanout) (plane_window fanout) (plane_root fanout) N ks
  plane_claim ks g =
      claim (plane_space fanout) (plane_space_laws fanout) (plane_steps fanout (omega arith)) (plane_root fanout)
      (plane_root_laws fanout) two (plane_window fanout) N (plane_window_laws fanout) ks g
