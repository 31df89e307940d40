-- The polygon that step 2 gives: its cells are the old ones and those of the grown rectangle within the parent and outside the siblings.
use Prim.Native.Nat.{◌≤◌}
use mathlib.Core.Bool.{Bool, true, false, ◌&&◌, ◌||◌, not, or-false, false≢true}
use mathlib.Core.Path.{◌≡◌, refl, sym, ap, ◌∙◌, subst}
use mathlib.Core.List.{[], ◌∷◌, ◌++◌, flat_map}
use mathlib.Core.Option.{some}
use lib.ListN.{length}
use native.Mathlib.Omega.{arith}
use Rattle.polygons.specs.Limits.{at_most, most_of_polygon, most_pieces}
use Rattle.polygons.specs.Lists.{any}
use Rattle.polygons.specs.Rules.{cut_each, commons}
use Rattle.polygons.proofs.LimitLaws.{at_most_is, at_most_length}
use Rattle.polygons.proofs.Booleans.{is_false, neither_of, or_left, or_right}
use Rattle.polygons.proofs.ListLaws.{any_append}
use Rattle.tree.specs.Lists.{All}
use Rattle.tree.specs.Space.{Side}
use Rattle.tree.specs.Nodes.{on}
use Rattle.tree.specs.Boxes.{Boxes, any_has, GoodPolygon, clip_poly, Poly}
use Rattle.tree.specs.Search.{Focus}
use Rattle.tree.specs.Step2.{grown_poly}
use Rattle.tree.specs.BoxSpace.{space_of}
use Rattle.tree.proofs.BoxLaws.{BoxLaws}
use Rattle.tree.proofs.Lists.{all_append, all_first, all_second, all_map, all_any, all_flat_map, all_tail}
use Rattle.tree.proofs.Any.{bind_some, any_flat_map, any_same, any_and, any_left}

and_true : (a : Bool) → a ≡ a && true
and_true true = refl
and_true false = refl

module _ (B : Boxes) (W : BoxLaws B) where
  -- the cells of a clipped polygon
  pub clip_poly_lem : (s : Side B.Line) (p : Poly B) (c : B.Cell) → any_has B (clip_poly B s p) c ≡ any_has B p c && on (space_of B) s c
  unfolding any_has any
  clip_poly_lem s p c =
      W.refine_cells (flat_map (B.clip s) p) c ∙ any_flat_map (λ q. B.has q c) (B.clip s) p
      ∙ any_same (λ r. any (λ q. B.has q c) (B.clip s r)) (λ r. B.has r c && on (space_of B) s c) p (λ r. W.clip_cells s r c)
      ∙ any_and (λ r. B.has r c) (on (space_of B) s c) p

  -- the cells of a list cut by rectangles, one after another
  pub cut_each_lem : (l ss m : Poly B) (c : B.Cell) → cut_each B.cut l ss ≡ some m → any_has B m c ≡ any_has B l c && not (any_has B ss c)
  unfolding cut_each any_has any
  cut_each_lem l [] m c h = let e : m ≡ l = cc in rw e (and_true (any (λ r. B.has r c) l))
  cut_each_lem l (s ∷ ss) m c h =
      let f = bind_some (at_most most_pieces (flat_map (λ r. B.cut r s) l)) _ m h in
      let g = at_most_is most_pieces (flat_map (λ r. B.cut r s) l) f.0 f.1 in
      cut_each_lem f.0 ss m c f.2
      ∙ ap (λ (x : Poly B). any (λ r. B.has r c) x && not (any (λ r. B.has r c) ss)) g
      ∙ ap (λ (x : Bool). x && not (any (λ r. B.has r c) ss)) (any_flat_map (λ q. B.has q c) (λ r. B.cut r s) l ∙ any_same (λ r. any (λ q. B.has q c) (B.cut r s)) (λ r. B.has r c && not (B.has s c)) l (λ r. W.cut_cells r s c) ∙ any_and (λ r. B.has r c) (not (B.has s c)) l)
      ∙ neither_of (any (λ r. B.has r c) l) (B.has s c) (any (λ r. B.has r c) ss)

  -- the cells of the common parts
  pub commons_cells : (l p : Poly B) (c : B.Cell) → any_has B (commons B.common l p) c ≡ any_has B l c && any_has B p c
  unfolding any_has any
  commons_cells l p c =
      any_flat_map (λ q. B.has q c) (λ r. flat_map (B.common r) p) l
      ∙ any_same (λ r. any (λ q. B.has q c) (flat_map (B.common r) p)) (λ r. B.has r c && any (λ q. B.has q c) p) l
      (λ r. any_flat_map (λ q. B.has q c) (B.common r) p ∙ any_same (λ s. any (λ q. B.has q c) (B.common r s)) (λ s. B.has r c && B.has s c) p (λ s. W.common_cells r s c) ∙ any_left (λ s. B.has s c) (B.has r c) p)
      ∙ any_and (λ r. B.has r c) (any (λ q. B.has q c) p) l

  -- the cells of the grown polygon
  pub grown_cells : (p ss : Poly B) (k : Focus B.Box) (c : B.Cell) (q : Poly B) → grown_poly B p ss k c ≡ some q
      → (d : B.Cell) → any_has B q d ≡ any_has B k.before d || (((B.has (B.grow k.at c) d && not (any_has B ss d)) && any_has B p d) || any_has B k.after d)
  unfolding grown_poly
  grown_cells p ss k c q h d =
      let f = bind_some (cut_each B.cut (B.grow k.at c ∷ []) ss) _ q h in
      let g = bind_some (at_most most_pieces (commons B.common f.0 p)) _ q f.2 in
      let a = at_most_is most_pieces (commons B.common f.0 p) g.0 g.1 in
      let b = at_most_is most_of_polygon (B.refine (k.before ++ (g.0 ++ k.after))) q g.2 in
      steps q f.0 g.0 b a (cut_each_lem (B.grow k.at c ∷ []) ss f.0 d f.1)
    where
      steps : (q l m : Poly B) → q ≡ B.refine (k.before ++ (m ++ k.after)) → m ≡ commons B.common l p → any_has B l d ≡ any_has B (B.grow k.at c ∷ []) d && not (any_has B ss d)
          → any_has B q d ≡ any_has B k.before d || (((B.has (B.grow k.at c) d && not (any_has B ss d)) && any_has B p d) || any_has B k.after d)
      steps q l m e₁ e₂ e₃ =
          rw (e₁, all_cells_lem (k.before ++ (m ++ k.after)), cells_append k.before, cells_append m, e₂, commons_cells l p d, e₃, one_cell (B.grow k.at c))
        where
          all_cells_lem : (x : Poly B) → any_has B (B.refine x) d ≡ any_has B x d
          all_cells_lem x = unfold any_has in W.refine_cells x d

          cells_append : (x y : Poly B) → any_has B (x ++ y) d ≡ any_has B x d || any_has B y d
          cells_append x y = unfold any_has in any_append (λ r. B.has r d) x y

          one_cell : (r : B.Box) → any_has B (r ∷ []) d ≡ B.has r d
          one_cell r = unfold any_has any in or-false (B.has r d)

  abbrev Valid : Poly B → Type 0
  Valid p = All (λ q. B.valid q ≡ true) p

  -- the new polygon's boxes
  grown_fine : (p ss : Poly B) (k : Focus B.Box) (c : B.Cell) (q : Poly B) → grown_poly B p ss k c ≡ some q → Valid p → Valid k.before → Valid k.after → Valid q × (length q ≤ most_of_polygon)
  unfolding grown_poly
  grown_fine p ss k c q h vp vb va =
      let f = bind_some (cut_each B.cut (B.grow k.at c ∷ []) ss) _ q h in
      let g = bind_some (at_most most_pieces (commons B.common f.0 p)) _ q f.2 in
      let a = at_most_is most_pieces (commons B.common f.0 p) g.0 g.1 in
      let b = at_most_is most_of_polygon (B.refine (k.before ++ (g.0 ++ k.after))) q g.2 in
      let few = at_most_length most_of_polygon (B.refine (k.before ++ (g.0 ++ k.after))) q g.2 in
      let inner : Valid g.0 = subst (λ (x : Poly B). Valid x) (sym a) (commons_valid f.0) in
      (subst (λ (x : Poly B). Valid x) (sym b) (W.refine_valid (k.before ++ (g.0 ++ k.after)) (all_append (λ r. B.valid r ≡ true) k.before (g.0 ++ k.after) vb (all_append (λ r. B.valid r ≡ true) g.0 k.after inner va))), few)
    where
      commons_valid : (l : Poly B) → Valid (commons B.common l p)
      commons_valid l =
          all_flat_map (λ r. B.valid r ≡ true) (λ r. flat_map (B.common r) p) l
          (all_any (λ r. Valid (flat_map (B.common r) p)) l (λ r. all_flat_map (λ q. B.valid q ≡ true) (B.common r) p (all_map (λ q. B.valid q ≡ true) (λ q. Valid (B.common r q)) p (λ q. W.common_valid r q) vp)))

  abbrev pub Sub : Poly B → Poly B → Type 0
  Sub q p = (d : B.Cell) → any_has B q d ≡ true → any_has B p d ≡ true

  abbrev pub Sep : Poly B → Poly B → Type 0
  Sep q p = (d : B.Cell) → any_has B q d ≡ true → any_has B p d ≡ true → ⊥

  -- a polygon with a cell has a rectangle
  pub has_some : (p : Poly B) (c : B.Cell) → any_has B p c ≡ true → 1 ≤ length p
  unfolding any_has any
  has_some [] c h = absurd (false≢true h)
  has_some (r ∷ p) c h = omega arith

  middle : (b g n p a : Bool) → g ≡ true → n ≡ false → p ≡ true → b || (((g && not n) && p) || a) ≡ true
  middle true g n p a h k l = refl
  middle false g n p a h k l = rw (h, k, l)

  from_middle : (P : Type 0) (b g n p a : Bool) → b || (((g && not n) && p) || a) ≡ true → (b ≡ true → P) → (n ≡ false → p ≡ true → P) → (a ≡ true → P) → P
  from_middle P true g n p a h f m l = f refl
  from_middle P false true false true a h f m l = m refl refl
  from_middle P false true false false a h f m l = l h
  from_middle P false true true p a h f m l = l h
  from_middle P false false n p a h f m l = l h

  three : (b g a : Bool) (P : Type 0) → b || (g || a) ≡ true → (b ≡ true → P) → (g ≡ true → P) → (a ≡ true → P) → P
  three true g a P h f m l = f refl
  three false true a P h f m l = m refl
  three false false a P h f m l = l h

  cells_of : (k : Focus B.Box) (d : B.Cell) → any_has B (k.before ++ (k.at ∷ k.after)) d ≡ any_has B k.before d || (B.has k.at d || any_has B k.after d)
  unfolding any_has any
  cells_of k d = any_append (λ r. B.has r d) k.before (k.at ∷ k.after)

  -- the grown polygon, with the siblings' boxes ss
  pub record GrownGood (p ss old q : Poly B) (c : B.Cell) : Type 0 where
    pub cell : any_has B q c ≡ true
    pub keeps : Sub old q
    pub inside : Sub q p
    pub clear : (d : B.Cell) → any_has B ss d ≡ true → any_has B q d ≡ true → ⊥
    pub fine : GoodPolygon B q

  pub grown_good : (p ss old : Poly B) (k : Focus B.Box) (c : B.Cell) (q : Poly B) → grown_poly B p ss k c ≡ some q → old ≡ k.before ++ (k.at ∷ k.after)
      → GoodPolygon B p → GoodPolygon B old → any_has B p c ≡ true → any_has B ss c ≡ false → Sub old p → ((d : B.Cell) → any_has B ss d ≡ true → any_has B old d ≡ true → ⊥) → GrownGood p ss old q c
  grown_good p ss old k c q h e fp fo pc sc w x = record {
    cell = here;
    keeps = λ d t. rw (cells d) (three (any_has B k.before d) (B.has k.at d) (any_has B k.after d) (out d ≡ true) (rw (old_cells d) at t)
        (λ u. or_left _ _ u)
        (λ u. middle (any_has B k.before d) (B.has (B.grow k.at c) d) (any_has B ss d) (any_has B p d) (any_has B k.after d) (W.grow_old k.at c d u) (is_false (any_has B ss d) (λ v. x d v t)) (w d t))
        (λ u. or_right (any_has B k.before d) _ (or_right ((B.has (B.grow k.at c) d && not (any_has B ss d)) && any_has B p d) _ u)));
    inside = λ d t. from_middle (any_has B p d ≡ true) (any_has B k.before d) (B.has (B.grow k.at c) d) (any_has B ss d) (any_has B p d) (any_has B k.after d) (rw (cells d) at t)
        (λ u. w d (was d (or_left _ _ u))) (λ n u. u) (λ u. w d (was d (or_right (any_has B k.before d) _ (or_right (B.has k.at d) _ u))));
    clear = λ d s t. from_middle ⊥ (any_has B k.before d) (B.has (B.grow k.at c) d) (any_has B ss d) (any_has B p d) (any_has B k.after d) (rw (cells d) at t)
        (λ u. x d s (was d (or_left _ _ u))) (λ n u. false≢true (sym n ∙ s)) (λ u. x d s (was d (or_right (any_has B k.before d) _ (or_right (B.has k.at d) _ u))));
    fine = record { lower = has_some q c here; upper = all.1; valid = all.0 };
  }
    where
      out : B.Cell → Bool
      out d = any_has B k.before d || (((B.has (B.grow k.at c) d && not (any_has B ss d)) && any_has B p d) || any_has B k.after d)

      cells : (d : B.Cell) → any_has B q d ≡ out d
      cells d = grown_cells p ss k c q h d

      old_cells : (d : B.Cell) → any_has B old d ≡ any_has B k.before d || (B.has k.at d || any_has B k.after d)
      old_cells d = ap (λ (l : Poly B). any_has B l d) e ∙ cells_of k d

      was : (d : B.Cell) → any_has B k.before d || (B.has k.at d || any_has B k.after d) ≡ true → any_has B old d ≡ true
      was d t = old_cells d ∙ t

      here : any_has B q c ≡ true
      here = cells c ∙ middle (any_has B k.before c) (B.has (B.grow k.at c) c) (any_has B ss c) (any_has B p c) (any_has B k.after c) (W.grow_cell k.at c) sc pc

      valid_old : Valid (k.before ++ (k.at ∷ k.after))
      valid_old = subst (λ (l : Poly B). Valid l) e fo.valid

      all : Valid q × (length q ≤ most_of_polygon)
      all = grown_fine p ss k c q h fp.valid (all_first (λ r. B.valid r ≡ true) k.before (k.at ∷ k.after) valid_old) (all_tail (λ r. B.valid r ≡ true) k.at k.after (all_second (λ r. B.valid r ≡ true) k.before (k.at ∷ k.after) valid_old))
