-- The root's polygon and windows over rectangles have the laws that the tree asks of them.
use mathlib.Core.Bool.{Bool, true, false, ◌||◌, or-true, false≢true}
use mathlib.Core.Path.{◌≡◌, refl, sym, ap, ◌∙◌}
use mathlib.Core.List.{List, [], ◌∷◌, map}
use lib.ListN.{length, length-map}
use native.Mathlib.Omega.{arith}
use Rattle.polygons.specs.Lists.{any}
use Rattle.polygons.proofs.Booleans.{split_and}
use Rattle.tree.specs.Lists.{All, not_empty}
use Rattle.tree.specs.Boxes.{Boxes, Poly, any_has}
use Rattle.tree.specs.BoxSpace.{space_of, root_of, window_of}
use Rattle.tree.proofs.Laws.{RootLaws, WindowLaws}
use Rattle.tree.proofs.BoxLaws.{BoxLaws, RootBoxLaws}

module _ (B : Boxes) (W : BoxLaws B) (cell_box : B.Cell → B.Box) (X : RootBoxLaws B cell_box) where
  one_has : (r : B.Box) (c : B.Cell) → B.has r c ≡ true → any_has B (r ∷ []) c ≡ true
  unfolding any_has any
  one_has r c h = rw h

  grown_has : (p : Poly B) (c : B.Cell) → length p ≡ 1 → any_has B (map (λ r. B.grow r c) p) c ≡ true
  grown_has [] c o = absurd (omega arith)
  grown_has (r ∷ []) c o = one_has (B.grow r c) c (W.grow_cell r c)
  grown_has (r ∷ s ∷ p) c o = absurd (omega arith)

  grown_old : (p : Poly B) (c d : B.Cell) → any_has B p d ≡ true → any_has B (map (λ r. B.grow r c) p) d ≡ true
  unfolding any_has any
  grown_old [] c d h = h
  grown_old (r ∷ p) c d h = go (B.has r d) refl h (grown_old p c d)
    where
      go : (b : Bool) → B.has r d ≡ b → b || any (λ q. B.has q d) p ≡ true → (any (λ q. B.has q d) p ≡ true → any (λ q. B.has q d) (map (λ q. B.grow q c) p) ≡ true)
          → B.has (B.grow r c) d || any (λ q. B.has q d) (map (λ q. B.grow q c) p) ≡ true
      go true e h f = rw (W.grow_old r c d e)
      go false e h f = rw (f h) (or-true (B.has (B.grow r c) d))

  grown_valid : (p : Poly B) (c : B.Cell) → B.Real c → All (λ r. B.valid r ≡ true) p → All (λ r. B.valid r ≡ true) (map (λ r. B.grow r c) p)
  unfolding All
  grown_valid [] c on h = tt
  grown_valid (r ∷ p) c on h = (X.grow_valid r c on h.0, grown_valid p c on h.1)

  -- The laws of the root.
  pub root_laws : RootLaws (space_of B) (root_of B cell_box)
  root_laws = record {
    leaf_has = λ c. one_has (cell_box c) c (X.cell_has c);
    leaf_fine = λ c on. record { lower = omega arith; upper = omega arith; valid = unfold All in (X.cell_valid c on, tt) };
    leaf_one = λ c. refl;
    grow_has = grown_has;
    grow_old = grown_old;
    grow_fine = λ p c on f. record {
      lower = let a = length-map p (λ r. B.grow r c) in let b = f.lower in omega arith;
      upper = let a = length-map p (λ r. B.grow r c) in let b = f.upper in omega arith;
      valid = grown_valid p c on f.valid;
    };
    grow_one = λ p c o. length-map p (λ r. B.grow r c) ∙ o;
  }

  -- a common part has a cell of both
  common_both : (r w : B.Box) → not_empty (B.common r w) ≡ true → (c : B.Cell) × (B.has r c ≡ true) × (B.has w c ≡ true)
  common_both r w h = go (B.common r w) refl h (X.common_cell r w)
    where
      go : (l : List B.Box) → B.common r w ≡ l → not_empty l ≡ true → All (λ q. (c : B.Cell) × (B.has q c ≡ true)) l → (c : B.Cell) × (B.has r c ≡ true) × (B.has w c ≡ true)
      go [] e h a = absurd (false≢true h)
      go (q ∷ l) e h a =
          unfold All in
          let c = a.0.0 in
          let here : any (λ s. B.has s c) (q ∷ l) ≡ true = unfold any in rw a.0.1 in
          let k = split_and (B.has r c) (B.has w c) (sym (W.common_cells r w c) ∙ ap (λ (m : List B.Box). any (λ s. B.has s c) m) e ∙ here) in
          (c, k.0, k.1)

  any_not_empty : {A : Type 0} (t : A → Bool) (l : List A) → any t l ≡ true → not_empty l ≡ true
  unfolding any
  any_not_empty t [] h = h
  any_not_empty t (a ∷ l) h = refl

  meets_cell : (p : Poly B) (w : B.Box) → any (λ r. not_empty (B.common r w)) p ≡ true → (c : B.Cell) × (any_has B p c ≡ true) × (B.has w c ≡ true)
  unfolding any_has any
  meets_cell [] w h = absurd (false≢true h)
  meets_cell (r ∷ p) w h = go (not_empty (B.common r w)) refl h (meets_cell p w)
    where
      go : (b : Bool) → not_empty (B.common r w) ≡ b → b || any (λ q. not_empty (B.common q w)) p ≡ true
          → (any (λ q. not_empty (B.common q w)) p ≡ true → (c : B.Cell) × (any (λ q. B.has q c) p ≡ true) × (B.has w c ≡ true))
          → (c : B.Cell) × (B.has r c || any (λ q. B.has q c) p ≡ true) × (B.has w c ≡ true)
      go true e h f = let k = common_both r w e in (k.0, rw k.1, k.2)
      go false e h f = let k = f h in (k.0, rw k.1 (or-true (B.has r k.0)), k.2)

  cell_meets : (p : Poly B) (w : B.Box) (c : B.Cell) → any_has B p c ≡ true → B.has w c ≡ true → any (λ r. not_empty (B.common r w)) p ≡ true
  unfolding any_has any
  cell_meets [] w c h k = h
  cell_meets (r ∷ p) w c h k = go (B.has r c) refl h (λ i. cell_meets p w c i k)
    where
      go : (b : Bool) → B.has r c ≡ b → b || any (λ q. B.has q c) p ≡ true → (any (λ q. B.has q c) p ≡ true → any (λ q. not_empty (B.common q w)) p ≡ true)
          → not_empty (B.common r w) || any (λ q. not_empty (B.common q w)) p ≡ true
      go true e h f = rw (any_not_empty (λ q. B.has q c) (B.common r w) (W.common_cells r w c ∙ rw (e, k)))
      go false e h f = rw (f h) (or-true (not_empty (B.common r w)))

  -- The laws of windows.
  pub window_laws : WindowLaws (space_of B) (window_of B)
  window_laws = record { meets_cell = meets_cell; cell_meets = cell_meets }
