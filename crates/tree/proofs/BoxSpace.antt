-- The laws that the tree asks of the plane, from the laws of rectangles.
use Prim.Native.Nat.{zero, suc}
use mathlib.Core.Bool.{true}
use mathlib.Core.Path.{◌≡◌, sym, ◌∙◌}
use mathlib.Core.List.{List, flat_map}
use lib.ListN.{length}
use native.Mathlib.Omega.{arith}
use Rattle.polygons.proofs.Booleans.{split_and}
use Rattle.polygons.proofs.ListLaws.{length_flat_map}
use Rattle.tree.specs.Lists.{All, Pairs}
use Rattle.tree.specs.Nodes.{on, entry_on, EntryOf}
use Rattle.tree.specs.Boxes.{Boxes, any_has, clip_poly}
use Rattle.tree.specs.BoxSpace.{space_of}
use Rattle.tree.specs.Sound.{Apart}
use Rattle.tree.proofs.Lists.{all_map, all_flat_map}
use Rattle.tree.proofs.Laws.{Laws, Steps, Fit, on_side}
use Rattle.tree.proofs.Step2.{chose, chose_row}
use Rattle.tree.proofs.Any.{any_from}
use Rattle.tree.proofs.BoxLaws.{BoxLaws}
use Rattle.tree.proofs.GrownPolygon.{clip_poly_lem, has_some}
use Rattle.tree.proofs.PolyDistance.{poly_low, poly_met}

-- The laws of the plane.
pub space_laws : (B : Boxes) → BoxLaws B → Laws (space_of B)
space_laws B W = record {
  clip_old = λ s p c h. (split_and (any_has B p c) (on (space_of B) s c) (sym (clip_poly_lem B W s p c) ∙ h)).0;
  clip_on = λ s p c h. (split_and (any_has B p c) (on (space_of B) s c) (sym (clip_poly_lem B W s p c) ∙ h)).1;
  clip_has = λ s p c h k. clip_poly_lem B W s p c ∙ rw (h, k);
  clip_fine = λ s p c f h. record {
    lower = has_some B W (clip_poly B s p) c h;
    upper = let a = W.refine_short (flat_map (B.clip s) p) in let b = length_flat_map (B.clip s) p (W.clip_one s) in let d = f.upper in omega arith;
    valid = W.refine_valid (flat_map (B.clip s) p) (all_flat_map (λ r. B.valid r ≡ true) (B.clip s) p (all_map (λ r. B.valid r ≡ true) (λ r. All (λ q. B.valid q ≡ true) (B.clip s r)) p (λ r. W.clip_valid s r) f.valid));
  };
  fine_real = λ p c f h. any_from (λ r. B.has r c) (B.Real c) p (all_map (λ r. B.valid r ≡ true) (λ r. B.has r c ≡ true → B.Real c) p (λ r. W.valid_real r c) f.valid) (unfold any_has in h);
  same_is = W.same_is;
  same_self = W.same_self;
  distance_low = poly_low B W;
  distance_met = λ p c f. poly_met B W p c f.lower f.valid;
  ties_cell = W.ties_cell;
}

-- Step 2 is as the tree asks; with the laws of the two lines, which are the plane's own, that is all of Steps.
pub space_steps : (B : Boxes) → BoxLaws B
    → ((es : List (EntryOf (space_of B))) → length es ≡ suc B.most → Pairs (Apart (space_of B) zero) es → Fit (space_of B) (entry_on (space_of B)) (B.leaf_line es) es)
    → ((gs : List (List (EntryOf (space_of B)))) (l : B.Line) → All (λ g. All (λ e. B.Real e.cell) g) gs → Fit (space_of B) (on_side (space_of B)) l gs → Fit (space_of B) (on_side (space_of B)) (B.node_line gs) gs)
    → Steps (space_of B)
space_steps B W leaf node = record {
  chosen_row = chose_row B;
  chosen = λ p bs c ch h fp pc fs ws xs. chose B W p bs c fp pc fs ws xs ch h;
  leaf_fits = leaf;
  node_fits = node;
}
