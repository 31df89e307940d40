-- Step 2 over rectangles gives what the tree asks of it.
use mathlib.Core.Bool.{true, false}
use mathlib.Core.Path.{◌≡◌, refl, ◌∙◌, subst}
use mathlib.Core.List.{List, ◌∷◌, ◌++◌}
use mathlib.Core.Option.{Option, none, some}
use Rattle.polygons.specs.Lists.{any, least}
use Rattle.tree.specs.Lists.{All, Pairs}
use Rattle.tree.specs.Space.{Branch, Chosen}
use Rattle.tree.specs.Boxes.{Boxes, any_has, GoodPolygon, Poly}
use Rattle.tree.specs.Search.{first, Focus, or_else}
use Rattle.tree.specs.Step2.{grown_poly, all_boxes, extras, has_extra, chosen, whole, Growth, sibling_boxes, least_growth, growing, choose}
use Rattle.tree.specs.BoxSpace.{space_of}
use Rattle.tree.proofs.BoxLaws.{BoxLaws}
use Rattle.tree.proofs.Lists.{all_append, all_first, all_second, all_map, pairs_parts, all_head, all_tail, pairs_head}
use Rattle.tree.proofs.Laws.{Chose}
use Rattle.tree.proofs.Any.{bind_some, any_flat_map, first_none, first_some, Found, any_none, any_has_lem, any_from}
use Rattle.tree.proofs.GrownPolygon.{Sub, Sep, grown_good}

-- The rectangle that grows stands in the polygon of one of the branches.
pub record GrowthIn (B : Boxes) {A : Type 0} (bs : List (Branch (Poly B) A)) (g : Growth B A) : Type 0 where
  pub branches : bs ≡ g.branch.before ++ (g.branch.at ∷ g.branch.after)
  pub rects : g.branch.at.poly ≡ g.rect.before ++ (g.rect.at ∷ g.rect.after)

pub growth_in : (B : Boxes) {A : Type 0} (bs : List (Branch (Poly B) A)) (c : B.Cell) (g : Growth B A)
    → least_growth B bs c ≡ some g → GrowthIn B bs g
growth_in B bs c g h =
    let m = least (λ x. x) (extras B bs c) in
    let i = bind_some (first (λ b. any (has_extra B c m b.poly) b.poly) bs) _ g h in
    let j = bind_some (first (has_extra B c m i.0.at.poly) i.0.at.poly) _ g i.2 in
    let e : g ≡ record { branch = i.0; rect = j.0 } = cc j.2 in
    rw e (record { branches = (first_some _ bs i.0 i.1).list; rects = (first_some _ i.0.at.poly j.0 j.1).list })

module _ (B : Boxes) (W : BoxLaws B) where
  -- step 2 is as the tree needs it
  module _ {A : Type 0} (p : Poly B) (bs : List (Branch (Poly B) A)) (c : B.Cell) (fp : GoodPolygon B p) (pc : any_has B p c ≡ true)
      (fs : All (λ b. GoodPolygon B b.poly) bs) (ws : All (λ b. Sub B W b.poly p) bs) (xs : Pairs (λ a b. Sep B W a.poly b.poly) bs) where
    at_of : (P : Branch (Poly B) A → Type 0) (f : Focus (Branch (Poly B) A)) → bs ≡ f.before ++ (f.at ∷ f.after) → All P bs → P f.at
    at_of P f e h = all_head P f.at f.after (all_second P f.before (f.at ∷ f.after) (subst (λ (l : List (Branch (Poly B) A)). All P l) e h))

    rest_of : (P : Branch (Poly B) A → Type 0) (f : Focus (Branch (Poly B) A)) → bs ≡ f.before ++ (f.at ∷ f.after) → All P bs → All P (f.before ++ f.after)
    rest_of P f e h =
        let k = subst (λ (l : List (Branch (Poly B) A)). All P l) e h in
        all_append P f.before f.after (all_first P f.before (f.at ∷ f.after) k) (all_tail P f.at f.after (all_second P f.before (f.at ∷ f.after) k))

    others : (f : Focus (Branch (Poly B) A)) → bs ≡ f.before ++ (f.at ∷ f.after) → All (λ b. Sep B W b.poly f.at.poly) (f.before ++ f.after)
    others f e =
        let k = pairs_parts (λ a b. Sep B W a.poly b.poly) f.before (f.at ∷ f.after) (subst (λ (l : List (Branch (Poly B) A)). Pairs (λ a b. Sep B W a.poly b.poly) l) e xs) in
        all_append (λ b. Sep B W b.poly f.at.poly) f.before f.after
        (all_map (λ b. All (λ a. Sep B W b.poly a.poly) (f.at ∷ f.after)) (λ b. Sep B W b.poly f.at.poly) f.before (λ b. all_head (λ a. Sep B W b.poly a.poly) f.at f.after) k.2)
        (all_map (λ b. Sep B W f.at.poly b.poly) (λ b. Sep B W b.poly f.at.poly) f.after (λ b s d u v. s d v u) (pairs_head (λ a b. Sep B W a.poly b.poly) f.at f.after k.1))

    whole_chose : (f : Focus (Branch (Poly B) A)) → Found (λ b. any_has B b.poly c) bs f → Chose (space_of B) p bs c (chosen B f f.at.poly)
    whole_chose f h = record {
      row = h.list;
      fine = at_of (λ b. GoodPolygon B b.poly) f h.list fs;
      cell = h.passes;
      keeps = λ d t. t;
      inside = at_of (λ b. Sub B W b.poly p) f h.list ws;
      clear = others f h.list;
    }

    -- the boxes of the siblings
    ss_none : (l : List (Branch (Poly B) A)) (d : B.Cell) → All (λ b. any_has B b.poly d ≡ false) l → any_has B (all_boxes B l) d ≡ false
    unfolding any_has any
    ss_none l d h = any_flat_map (λ r. B.has r d) (λ b. b.poly) l ∙ any_none (λ b. any (λ r. B.has r d) b.poly) l h

    ss_has : (l : List (Branch (Poly B) A)) → All (λ b. (d : B.Cell) → any_has B b.poly d ≡ true → any_has B (all_boxes B l) d ≡ true) l
    unfolding any_has any
    ss_has l =
        all_map (λ b. (d : B.Cell) → any (λ r. B.has r d) b.poly ≡ true → any (λ a. any (λ r. B.has r d) a.poly) l ≡ true) (λ b. (d : B.Cell) → any (λ r. B.has r d) b.poly ≡ true → any (λ r. B.has r d) (all_boxes B l) ≡ true) l
        (λ b h d t. any_flat_map (λ r. B.has r d) (λ a. a.poly) l ∙ h d t)
        (any_has_lem (λ (d : B.Cell) b. any (λ r. B.has r d) b.poly) l)

    ss_from : (l : List (Branch (Poly B) A)) (d : B.Cell) (P : Type 0) → All (λ b. any_has B b.poly d ≡ true → P) l → any_has B (all_boxes B l) d ≡ true → P
    unfolding any_has any
    ss_from l d P h t = any_from (λ b. any (λ r. B.has r d) b.poly) P l h (rw (any_flat_map (λ r. B.has r d) (λ b. b.poly) l) at t)

    grown_chose : (f : Focus (Branch (Poly B) A)) (k : Focus B.Box) (q : Poly B) → bs ≡ f.before ++ (f.at ∷ f.after) → f.at.poly ≡ k.before ++ (k.at ∷ k.after)
        → All (λ b. any_has B b.poly c ≡ false) bs → grown_poly B p (all_boxes B (f.before ++ f.after)) k c ≡ some q → Chose (space_of B) p bs c (chosen B f q)
    grown_chose f k q e g n h =
        let ss = all_boxes B (f.before ++ f.after) in
        let o = grown_good B W p ss f.at.poly k c q h g fp (at_of (λ b. GoodPolygon B b.poly) f e fs) pc
        (ss_none (f.before ++ f.after) c (rest_of (λ b. any_has B b.poly c ≡ false) f e n)) (at_of (λ b. Sub B W b.poly p) f e ws)
        (λ d s t. ss_from (f.before ++ f.after) d ⊥ (all_map (λ b. Sep B W b.poly f.at.poly) (λ b. any_has B b.poly d ≡ true → ⊥) (f.before ++ f.after) (λ b x u. x d u t) (others f e)) s) in
        record {
          row = e;
          fine = o.fine;
          cell = o.cell;
          keeps = o.keeps;
          inside = o.inside;
          clear = all_map (λ b. (d : B.Cell) → any_has B b.poly d ≡ true → any_has B ss d ≡ true) (λ b. Sep B W b.poly q) (f.before ++ f.after) (λ b x d u v. o.clear d (x d u) v) (ss_has (f.before ++ f.after));
        }

    -- an accepted step 2
    pub chose : (ch : Chosen (Poly B) A) → choose B p bs c ≡ some ch → Chose (space_of B) p bs c ch
    unfolding choose
    chose ch h = go (first (λ b. any_has B b.poly c) bs) refl h
      where
        go : (m : Option (Focus (Branch (Poly B) A))) → first (λ b. any_has B b.poly c) bs ≡ m → or_else (whole B m) (growing B p bs c) ≡ some ch → Chose (space_of B) p bs c ch
        go (some f) e h = let q : ch ≡ chosen B f f.at.poly = cc in rw q (whole_chose f (first_some (λ b. any_has B b.poly c) bs f e))
        go none e h =
            let i = bind_some (least_growth B bs c) _ ch h in
            let g = growth_in B bs c i.0 i.1 in
            let k = bind_some (grown_poly B p (sibling_boxes B i.0) i.0.rect c) _ ch i.2 in
            let q : ch ≡ chosen B i.0.branch k.0 = cc k.2 in
            rw q (grown_chose i.0.branch i.0.rect k.0 g.branches g.rects (first_none (λ b. any_has B b.poly c) bs e) k.1)

-- Step 2 takes one of the branches.
pub chose_row : (B : Boxes) {A : Type 0} (p : Poly B) (bs : List (Branch (Poly B) A)) (c : B.Cell) (ch : Chosen (Poly B) A) → choose B p bs c ≡ some ch → bs ≡ ch.before ++ (ch.old ∷ ch.after)
unfolding choose
chose_row B {A = A} p bs c ch h = go (first (λ b. any_has B b.poly c) bs) refl h
  where
    go : (m : Option (Focus (Branch (Poly B) A))) → first (λ b. any_has B b.poly c) bs ≡ m → or_else (whole B m) (growing B p bs c) ≡ some ch → bs ≡ ch.before ++ (ch.old ∷ ch.after)
    go (some f) e h = let q : ch ≡ chosen B f f.at.poly = cc in rw q (first_some (λ b. any_has B b.poly c) bs f e).list
    go none e h =
        let i = bind_some (least_growth B bs c) _ ch h in
        let g = growth_in B bs c i.0 i.1 in
        let k = bind_some (grown_poly B p (sibling_boxes B i.0) i.0.rect c) _ ch i.2 in
        let q : ch ≡ chosen B i.0.branch k.0 = cc k.2 in
        rw q g.branches
