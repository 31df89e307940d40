-- What the tree asks of step 2 and of the lines.
use Prim.Native.Nat.{ℕ, zero, suc, ◌≤◌}
use mathlib.Core.Path.{◌≡◌}
use mathlib.Core.List.{List}
use lib.ListN.{length}
use native.Mathlib.Omega.{arith}
use Rattle.geometry.specs.declared.rect.Line.{Line}
use Rattle.geometry.specs.Clip.{below}
use Rattle.tree.specs.Lists.{Pairs}
use Rattle.tree.specs.Nodes.{entry_on}
use Rattle.tree.specs.Sound.{Apart}
use Rattle.tree.proofs.Laws.{Fit, Steps, on_side}
use Rattle.tree.proofs.Step2.{chose, chose_row}
use Rattle.plane.specs.Lines.{CellEntry, holds_on, leaf_line, node_line}
use Rattle.plane.specs.Plane.{plane, plane_space}
use Rattle.plane.proofs.Rects.{plane_laws}
use Rattle.plane.proofs.Kept.{keep_sides}
use Rattle.plane.proofs.LeafLine.{leaf_both}
use Rattle.plane.proofs.NodeLine.{Fits, node_fits}

module _ (fanout : ℕ) (gs : List (List CellEntry)) (l : Line) where
  -- that a line fits, as the tree says it and as the plane does
  pub fits_of_fit : Fit (plane_space fanout) (on_side (plane_space fanout)) l gs → Fits holds_on fanout gs l
  fits_of_fit f = record { lefts_some = f.lefts.0; lefts_few = f.lefts.1; rights_some = f.rights.0; rights_few = f.rights.1 }

  pub fit_of_fits : Fits holds_on fanout gs l → Fit (plane_space fanout) (on_side (plane_space fanout)) l gs
  fit_of_fits f = record { lefts = (f.lefts_some, f.lefts_few); rights = (f.rights_some, f.rights_few) }

module _ (fanout : ℕ) (some : 1 ≤ fanout) where
  leaf_fits : (es : List CellEntry) → length es ≡ suc fanout → Pairs (Apart (plane_space fanout) zero) es → Fit (plane_space fanout) (entry_on (plane_space fanout)) (leaf_line es) es
  leaf_fits es n h =
      let b = leaf_both fanout es (omega arith) h in
      let i = b.lefts in let j = b.rights in
      let k = keep_sides (λ (e : CellEntry). below (leaf_line es) e.cell) es in
      record { lefts = (i, omega arith); rights = (j, omega arith) }

  -- what the tree asks of step 2 and of the lines
  pub plane_steps : Steps (plane_space fanout)
  plane_steps = record {
    chosen_row = λ p bs c ch. chose_row (plane fanout) p bs c ch;
    chosen = λ p bs c ch h fp pc fs ws xs. chose (plane fanout) (plane_laws fanout) p bs c fp pc fs ws xs ch h;
    leaf_fits = leaf_fits;
    node_fits = λ gs l grid f. fit_of_fits fanout gs (node_line fanout gs) (node_fits fanout gs grid (l, fits_of_fit fanout gs l f));
  }
