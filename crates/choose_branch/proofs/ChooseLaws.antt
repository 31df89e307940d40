-- Step 2's choice among branches goes by their polygons alone: the first that has the cell, or the first of least extra area, grown.
use Prim.Native.Nat.{ℕ, suc, ◌+◌, ◌≤◌, ◌<◌}
use mathlib.Core.Path.{◌≡◌, refl, sym, ap, ◌∙◌}
use mathlib.Core.Bool.{Bool, true, false, or-true}
use mathlib.Core.List.{List, [], ◌∷◌, ◌++◌, map, flat_map, append_assoc, map-append}
use mathlib.Core.Option.{none, some, bind}
use native.Mathlib.Omega.{arith}
use borrow.Author.Tests.{eq-eqb, ne_eqb}
use lib.Dec.{eqb}
use lib.ListN.{length, take, drop, get_or, length-append}
use lib.Seq.{take_at, drop_at, get_or_at}
use Rattle.polygons.specs.Lists.{any, least}
use Rattle.polygons.proofs.ListLaws.{any_append, flat_map_append}
use Rattle.geometry.specs.declared.rect.Cell.{Cell}
use Rattle.geometry.specs.declared.rect.Rect.{Rect}
use Rattle.geometry.specs.Cells.{no_rect}
use Rattle.geometry.specs.Grow.{grown}
use Rattle.area.specs.Lacked.{extra_area}
use Rattle.area.specs.Removed.{removed}
use Rattle.tree.specs.Lists.{All}
use Rattle.tree.specs.Space.{Branch}
use Rattle.tree.specs.Search.{first}
use Rattle.tree.specs.Boxes.{any_has, extra}
use Rattle.tree.specs.Step2.{grown_poly, extras, chosen, Growth, least_growth, choose, removed as tree_removed}
use Rattle.tree.proofs.Any.{any_none}
use Rattle.tree.proofs.Lists.{all_append, all_map, all_second, all_flat_map, all_of_map, all_head, map_all}
use Rattle.plane.specs.Plane.{plane}
use Rattle.plane.specs.Fanout.{fanout}
use Rattle.plane.proofs.Best.{least_low, least_high}
use Rattle.walks.specs.Walks.{has_test}
use Rattle.choose_branch.specs.Least.{extra_in}
use Rattle.choose_branch.specs.Pieces.{rects_all, siblings, focus_at, grown_at, grown_rect}
use Rattle.choose_branch.proofs.LeastLaws.{AtLeast, More, FirstOf}

-- the first that passes, where none before it does
first_at : {A : Type 0} (t : A → Bool) (u v : List A) (a : A) → All (λ x. t x ≡ false) u → t a ≡ true
    → first t (u ++ (a ∷ v)) ≡ some (record { before = u; at = a; after = v })
unfolding first All
first_at t [] v a h e = rw e
first_at t (x ∷ u) v a h e = rw (h.0, first_at t u v a h.1 e)

first_miss : {A : Type 0} (t : A → Bool) (l : List A) → All (λ x. t x ≡ false) l → first t l ≡ none
unfolding first All
first_miss t [] h = refl
first_miss t (x ∷ l) h = rw (h.0, first_miss t l h.1)

-- the rectangles of the branches are those of their polygons
flat_polygons : {A : Type 0} (bs : List (Branch (List Rect) A)) → flat_map (λ b. b.poly) bs ≡ rects_all (map (λ b. b.poly) bs)
unfolding flat_map rects_all
flat_polygons [] = refl
flat_polygons (b ∷ bs) = ap (λ l. b.poly ++ l) (flat_polygons bs)

-- The branch at a place, from the polygons.
pub record BranchAt {A : Type 0} (bs : List (Branch (List Rect) A)) (i : ℕ) (before : List (List Rect)) (q : List Rect) (after : List (List Rect)) : Type 0 where
  pub old : Branch (List Rect) A
  pub below : i < length bs
  pub row : bs ≡ take i bs ++ (old ∷ drop (suc i) bs)
  pub poly : old.poly ≡ q
  pub front : map (λ b. b.poly) (take i bs) ≡ before
  pub back : map (λ b. b.poly) (drop (suc i) bs) ≡ after

pub branch_at : {A : Type 0} (bs : List (Branch (List Rect) A)) (before : List (List Rect)) (q : List Rect) (after : List (List Rect))
    → map (λ b. b.poly) bs ≡ before ++ (q ∷ after) → BranchAt bs (length before) before q after
branch_at [] [] q after e = let z : ◌≡◌ {A = ℕ} 0 1 = cc in absurd (omega arith)
branch_at [] (x ∷ before) q after e = let z : ◌≡◌ {A = ℕ} 0 1 = cc in absurd (omega arith)
branch_at (b ∷ bs) [] q after e = record {
  old = b;
  below = omega arith;
  row = refl;
  poly = cc;
  front = refl;
  back = cc;
}
branch_at (b ∷ bs) (x ∷ before) q after e =
    let p : b.poly ≡ x = cc in
    let s = branch_at bs before q after (cc) in
    let l = s.below in
    record {
      old = s.old;
      below = omega arith;
      row = ap (λ t. b ∷ t) s.row;
      poly = s.poly;
      front = rw (p, s.front);
      back = s.back;
    }

-- the rectangles of all other branches
others : {A : Type 0} {bs : List (Branch (List Rect) A)} {i : ℕ} {before : List (List Rect)} {q : List Rect} {after : List (List Rect)}
    → BranchAt bs i before q after → flat_map (λ b. b.poly) (take i bs ++ drop (suc i) bs) ≡ rects_all (before ++ after)
others {bs = bs} {i = i} s =
    flat_polygons (take i bs ++ drop (suc i) bs) ∙ ap rects_all (map-append (λ b. b.poly) (take i bs) (drop (suc i) bs) ∙ rw (s.front, s.back))

module _ {A : Type 0} (p : List Rect) (c : Cell) (bs : List (Branch (List Rect) A)) where
  -- a branch that has the cell, and none before it has
  pub choose_has : (i : ℕ) (before after : List (List Rect)) (q : List Rect) (s : BranchAt bs i before q after) → All (λ x. has_test c x ≡ false) before
      → has_test c q ≡ true → choose (plane fanout) p bs c ≡ some (record { before = take i bs; old = s.old; grown = q; after = drop (suc i) bs })
  unfolding choose has_test
  choose_has i before after q s h e =
      let t : Branch (List Rect) A → Bool = λ b. any_has (plane fanout) b.poly c in
      let n : All (λ b. t b ≡ false) (take i bs) =
      map_all (λ x. any_has (plane fanout) x c ≡ false) (λ b. b.poly) (take i bs) (rw s.front h) in
      let g : first t bs ≡ some (record { before = take i bs; at = s.old; after = drop (suc i) bs }) =
      ap (first t) s.row ∙ first_at t (take i bs) (drop (suc i) bs) s.old n (rw s.poly e) in
      rw (g, s.poly)

  -- then nothing grows
  pub removed_has : (i : ℕ) (before after : List (List Rect)) (q : List Rect) (s : BranchAt bs i before q after)
      → has_test c q ≡ true → tree_removed (plane fanout) bs c ≡ 0
  unfolding tree_removed has_test any
  removed_has i before after q s e =
      let t : Branch (List Rect) A → Bool = λ b. any_has (plane fanout) b.poly c in
      let h : t s.old ≡ true = rw s.poly e in
      let g : any t bs ≡ true =
      ap (any t) s.row ∙ any_append t (take i bs) (s.old ∷ drop (suc i) bs) ∙ rw h (or-true (any t (take i bs))) in
      rw g

-- the least of a list that has it between others that are not less
least_is : (u v : List ℕ) (a : ℕ) → All (λ x. a ≤ x) u → All (λ x. a ≤ x) v → least (λ x. x) (u ++ (a ∷ v)) ≡ a
unfolding All
least_is u v a h g =
    let l = u ++ (a ∷ v) in
    let z : a ≤ a = omega arith in
    let n : 1 ≤ length l = rw (length-append u (a ∷ v)) (omega arith) in
    let x : a ≤ least (λ y. y) l = least_high (λ y. y) a l n (all_append (λ y. a ≤ y) u (a ∷ v) h (z, g)) in
    let y : least (λ y. y) l ≤ a = all_head (λ y. least (λ w. w) l ≤ y) a v (all_second (λ y. least (λ w. w) l ≤ y) u (a ∷ v) (least_low (λ w. w) l)) in
    omega arith

-- rectangles with more than the least do not have it
none_equal : (extra : Rect → ℕ) (x : ℕ) (l : List Rect) → More extra x l → All (λ r. eqb (extra r) x ≡ false) l
none_equal extra x l h = all_map (λ r. x < extra r) _ l (λ r g. ne_eqb (extra r) x (λ e. omega arith)) h

least_more : (extra : Rect → ℕ) (x : ℕ) (l : List Rect) → More extra x l → AtLeast extra x l
least_more extra x l h = all_map (λ r. x < extra r) _ l (λ r g. omega arith) h

-- the extra areas of a polygon's rectangles, and of some polygons'
abbrev own : Cell → List Rect → List ℕ
own c q = map (extra_in q c) q

unfoldable extras_of : Cell → List (List Rect) → List ℕ
extras_of c ps = flat_map (own c) ps

extras_are : {A : Type 0} (c : Cell) (bs : List (Branch (List Rect) A)) → extras (plane fanout) bs c ≡ extras_of c (map (λ b. b.poly) bs)
unfolding extras_of flat_map extra extra_area
extras_are c [] = refl
extras_are c (b ∷ bs) = ap (λ l. own c b.poly ++ l) (extras_are c bs)

module _ (c : Cell) (ps : List (List Rect)) (limit : ℕ) (f : FirstOf c limit ps) where
  -- the least extra area
  least_found : least (λ x. x) (extras_of c ps) ≡ extra_area f.polygon f.inside.at c
  unfolding extras_of flat_map
  least_found =
      let i = f.inside in
      let q = f.polygon in
      let x = extra_in q c i.at in
      let w : own c q ≡ map (extra_in q c) i.left ++ (x ∷ map (extra_in q c) i.right) = ap (map (extra_in q c)) i.list ∙ map-append (extra_in q c) i.left (i.at ∷ i.right) in
      let e : extras_of c ps ≡ (extras_of c f.before ++ map (extra_in q c) i.left) ++ (x ∷ (map (extra_in q c) i.right ++ extras_of c f.after)) =
      ap (extras_of c) f.row ∙ flat_map_append (own c) f.before (q ∷ f.after) ∙ ap (λ l. extras_of c f.before ++ (l ++ extras_of c f.after)) w ∙ simp append_assoc in
      ap (least (λ y. y)) e
      ∙ least_is (extras_of c f.before ++ map (extra_in q c) i.left) (map (extra_in q c) i.right ++ extras_of c f.after) x
      (all_append _ (extras_of c f.before) (map (extra_in q c) i.left)
      (all_flat_map (λ y. x ≤ y) (own c) f.before (all_map (λ s. More (extra_in s c) x s) (λ s. All (λ y. x ≤ y) (own c s)) f.before (λ s h. all_of_map (λ y. x ≤ y) (extra_in s c) s (least_more (extra_in s c) x s h)) f.before_more))
      (all_of_map (λ y. x ≤ y) (extra_in q c) i.left (least_more (extra_in q c) x i.left i.left_more)))
      (all_append _ (map (extra_in q c) i.right) (extras_of c f.after) (all_of_map (λ y. x ≤ y) (extra_in q c) i.right i.right_least)
      (all_flat_map (λ y. x ≤ y) (own c) f.after (all_map (λ s. AtLeast (extra_in s c) x s) (λ s. All (λ y. x ≤ y) (own c s)) f.after (λ s h. all_of_map (λ y. x ≤ y) (extra_in s c) s h) f.after_least)))

  -- the rectangle in its polygon
  rect_found : first (λ r. eqb (extra_area f.polygon r c) (extra_area f.polygon f.inside.at c)) f.polygon
      ≡ some (record { before = f.inside.left; at = f.inside.at; after = f.inside.right })
  rect_found =
      let i = f.inside in
      ap (first (λ r. eqb (extra_area f.polygon r c) (extra_area f.polygon i.at c))) i.list
      ∙ first_at _ i.left i.right i.at (none_equal (extra_in f.polygon c) (extra_area f.polygon i.at c) i.left i.left_more) (eq-eqb (extra_area f.polygon i.at c) _ refl)

  -- its polygon among the others
  has_least : any (λ r. eqb (extra_area f.polygon r c) (extra_area f.polygon f.inside.at c)) f.polygon ≡ true
  unfolding any
  has_least =
      let i = f.inside in
      let t : Rect → Bool = λ r. eqb (extra_area f.polygon r c) (extra_area f.polygon i.at c) in
      ap (any t) i.list ∙ any_append t i.left (i.at ∷ i.right) ∙ rw (eq-eqb (extra_area f.polygon i.at c) (extra_area f.polygon i.at c) refl) (or-true (any t i.left))

  none_least : All (λ q. any (λ r. eqb (extra_area q r c) (extra_area f.polygon f.inside.at c)) q ≡ false) f.before
  none_least =
      let x = extra_area f.polygon f.inside.at c in
      all_map (λ q. More (extra_in q c) x q) _ f.before (λ q g. any_none (λ r. eqb (extra_area q r c) x) q (none_equal (extra_in q c) x q g)) f.before_more

  -- the place of the polygon, and of the rectangle in it
  pub place_below : length f.before < length ps
  place_below = let e = ap length f.row ∙ length-append f.before (f.polygon ∷ f.after) in omega arith

  pub polygon_at : get_or ps (length f.before) [] ≡ f.polygon
  polygon_at = ap (λ l. get_or l (length f.before) []) f.row ∙ get_or_at f.before f.polygon f.after [] (length f.before) refl

  pub rect_below : length f.inside.left < length f.polygon
  rect_below = let e = ap length f.inside.list ∙ length-append f.inside.left (f.inside.at ∷ f.inside.right) in omega arith

  focus_is : focus_at f.polygon (length f.inside.left) ≡ record { before = f.inside.left; at = f.inside.at; after = f.inside.right }
  focus_is =
      let i = f.inside in
      let n = length i.left in
      let s : (i.left ++ (i.at ∷ [])) ++ i.right ≡ i.left ++ (i.at ∷ i.right) = append_assoc i.left (i.at ∷ []) i.right in
      let k : length (i.left ++ (i.at ∷ [])) ≡ n + 1 = length-append i.left (i.at ∷ []) in
      ap (λ l. focus_at l n) i.list ∙ rw (take_at i.left (i.at ∷ i.right) n refl, get_or_at i.left i.at i.right no_rect n refl, ← s, drop_at (i.left ++ (i.at ∷ [])) i.right (n + 1) k)

  siblings_are : siblings ps (length f.before) ≡ rects_all (f.before ++ f.after)
  unfolding siblings
  siblings_are =
      let b = f.before in
      let n = length b in
      let s : (b ++ (f.polygon ∷ [])) ++ f.after ≡ b ++ (f.polygon ∷ f.after) = append_assoc b (f.polygon ∷ []) f.after in
      let k : length (b ++ (f.polygon ∷ [])) ≡ n + 1 = length-append b (f.polygon ∷ []) in
      ap (λ l. rects_all (take n l ++ drop (n + 1) l)) f.row ∙ rw (take_at b (f.polygon ∷ f.after) n refl, ← s, drop_at (b ++ (f.polygon ∷ [])) f.after (n + 1) k)

  -- the grown polygon, by the places
  grown_is : (p : List Rect) → grown_poly (plane fanout) p (rects_all (f.before ++ f.after)) (record { before = f.inside.left; at = f.inside.at; after = f.inside.right }) c
      ≡ grown_at p ps (length f.before) (length f.inside.left) c
  unfolding grown_at
  grown_is p = sym (ap (λ q. grown_poly (plane fanout) p (siblings ps (length f.before)) (focus_at q (length f.inside.left)) c) polygon_at ∙ rw (siblings_are, focus_is))

  module _ {A : Type 0} (bs : List (Branch (List Rect) A)) (s : BranchAt bs (length f.before) f.before f.polygon f.after) where
    -- the rectangle of least extra area, in its branch
    abbrev growth : Growth (plane fanout) A
    growth = record {
      branch = record { before = take (length f.before) bs; at = s.old; after = drop (suc (length f.before)) bs };
      rect = record { before = f.inside.left; at = f.inside.at; after = f.inside.right };
    }

    module _ (e : map (λ b. b.poly) bs ≡ ps) where
      least_extra : least (λ y. y) (extras (plane fanout) bs c) ≡ extra_area f.polygon f.inside.at c
      least_extra = ap (least (λ y. y)) (extras_are c bs ∙ ap (extras_of c) e) ∙ least_found

      -- step 2 finds it
      growth_found : least_growth (plane fanout) bs c ≡ some growth
      unfolding bind extra extra_area
      growth_found =
          let x = extra_area f.polygon f.inside.at c in
          let n = length f.before in
          let t : Branch (List Rect) A → Bool = λ b. any (λ r. eqb (extra_area b.poly r c) x) b.poly in
          let k : All (λ b. t b ≡ false) (take n bs) =
          map_all (λ q. any (λ r. eqb (extra_area q r c) x) q ≡ false) (λ b. b.poly) (take n bs) (rw s.front none_least) in
          let b : first t bs ≡ some growth.branch =
          ap (first t) s.row ∙ first_at t (take n bs) (drop (suc n) bs) s.old k (rw s.poly has_least) in
          let d : first (λ r. eqb (extra_area s.old.poly r c) x) s.old.poly ≡ some growth.rect = rw s.poly rect_found in
          rw (least_extra, b, d)

      module _ (h : All (λ x. has_test c x ≡ false) ps) where
        none_there : All (λ b. any_has (plane fanout) b.poly c ≡ false) bs
        unfolding has_test
        none_there = map_all (λ x. any_has (plane fanout) x c ≡ false) (λ b. b.poly) bs (rw e h)

        -- no branch has the cell: the first of least extra area
        pub choose_grown : (p : List Rect) → choose (plane fanout) p bs c
            ≡ bind (grown_at p ps (length f.before) (length f.inside.left) c)
            (λ q. some (record { before = take (length f.before) bs; old = s.old; grown = q; after = drop (suc (length f.before)) bs }))
        unfolding choose bind
        choose_grown p =
            rw (first_miss (λ b. any_has (plane fanout) b.poly c) bs none_there, growth_found)
            (ap (λ ss. bind (grown_poly (plane fanout) p ss growth.rect c) (λ q. some (chosen (plane fanout) growth.branch q))) (others s)
            ∙ ap (λ o. bind o (λ q. some (chosen (plane fanout) growth.branch q))) (grown_is p))

        -- and the cells that its siblings remove
        pub removed_grown : tree_removed (plane fanout) bs c
            ≡ removed (grown_rect ps (length f.before) (length f.inside.left) c ∷ [])
            (siblings ps (length f.before))
        unfolding tree_removed removed
        removed_grown =
            let n = length f.inside.left in
            let r : get_or (get_or ps (length f.before) []) n no_rect ≡ f.inside.at =
            ap (λ q. get_or q n no_rect) (polygon_at ∙ f.inside.list) ∙ get_or_at f.inside.left f.inside.at f.inside.right no_rect n refl in
            rw (any_none (λ b. any_has (plane fanout) b.poly c) bs none_there, growth_found)
            (ap (λ ss. removed (grown f.inside.at c ∷ []) ss) (others s ∙ sym siblings_are)
            ∙ ap (λ x. removed (grown x c ∷ []) (siblings ps (length f.before))) (sym r))
