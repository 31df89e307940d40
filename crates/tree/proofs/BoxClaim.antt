-- Demand 3 at the level of trees for rectangles, from the laws of rectangles and of the two lines.
use Prim.Native.Nat.{ℕ, ◌≤◌}
use mathlib.Core.List.{List}
use Rattle.tree.specs.Lists.{All}
use Rattle.tree.specs.Boxes.{Boxes}
use Rattle.tree.specs.BoxSpace.{space_of, root_of, window_of}
use Rattle.tree.specs.Calls.{Call}
use Rattle.tree.specs.Claim.{Claim, OnGrid}
use Rattle.tree.proofs.Laws.{Steps}
use Rattle.tree.proofs.BoxLaws.{BoxLaws, RootBoxLaws}
use Rattle.tree.proofs.BoxSpace.{space_laws}
use Rattle.tree.proofs.BoxRoot.{root_laws, window_laws}
use Rattle.tree.proofs.Claim.{claim}

-- For every list of calls from the empty index, with any N and any fanout from 2 on.
pub box_claim : (B : Boxes) → BoxLaws B → (cell_box : B.Cell → B.Box) → RootBoxLaws B cell_box → Steps (space_of B) → 2 ≤ B.most
    → (N : ℕ) (ks : List (Call (space_of B) (window_of B))) → All (OnGrid (space_of B) (window_of B)) ks → Claim (space_of B) (window_of B) (root_of B cell_box) N ks
box_claim B W cell_box X T wide N ks on =
    claim (space_of B) (space_laws B W) T (root_of B cell_box) (root_laws B W cell_box X) wide (window_of B) N
    (window_laws B W cell_box X) ks on
