-- The returns of the choice: a branch that has the cell, the branch of least extra area, and refusal 7.
use Prim.Native.Nat.{ℕ, suc, ◌≤◌, ◌<◌}
use mathlib.Core.Path.{◌≡◌, sym, ap, subst, ◌∙◌}
use mathlib.Core.Bool.{true, false}
use mathlib.Core.List.{List, [], ◌∷◌, map}
use mathlib.Core.Option.{none, some, bind}
use native.Mathlib.Omega.{arith}
use native.Mathlib.Numerals.{add-one}
use lib.ListN.{length, take, drop, get_or}
use lib.Seq.{split_at, length-take-le}
use Rattle.std.proofs.Common.{Some, None, Result, Ok, Err, IsErr}
use Rattle.std.specs.List.{position}
use Rattle.std.proofs.lemmas.List.Quantifiers.{position-Some}
use Rattle.geometry.specs.declared.rect.Cell.{Cell}
use Rattle.geometry.specs.declared.rect.Rect.{Rect}
use Rattle.geometry.specs.declared.polygon.Polygon.{Polygon}
use Rattle.geometry.specs.Numbers.{rects_in, rects_of, counted, Written, PolygonOf}
use Rattle.geometry.proofs.NumberLaws.{length_rects}
use Rattle.area.specs.Removed.{removed}
use Rattle.tree.specs.Lists.{All}
use Rattle.tree.specs.Nodes.{Item}
use Rattle.tree.specs.Step2.{choose, removed as tree_removed}
use Rattle.plane.specs.Plane.{plane}
use Rattle.plane.specs.Fanout.{fanout, index_space}
use Rattle.memory.specs.Layout.{part, polygon_in}
use Rattle.layout.specs.Nodes.{count_at, child_at, PolygonPart}
use Rattle.walks.specs.Walks.{has_test}
use Rattle.choose_branch.specs.declared.choosing.Choice.{Choice}
use Rattle.geometry.specs.declared.cut.TooMany.{TooMany}
use Rattle.choose_branch.specs.declared.least.Least.{Least}
use Rattle.choose_branch.specs.Branches.{polygons_in, Branches}
use Rattle.choose_branch.specs.Choose.{ChosenBranch, ChosenAt, ChoiceIs}
use Rattle.choose_branch.specs.Least.{least_all}
use Rattle.choose_branch.specs.Pieces.{siblings, grown_at, grown_rect}
use Rattle.choose_branch.specs.Removed.{RemovedBy, RemovedAt}
use Rattle.choose_branch.proofs.ChildParts.{next_polygon, child_polygon, polygon_there}
use Rattle.choose_branch.proofs.ReadBranches.{polygons_read}
use Rattle.choose_branch.proofs.FirstLoop.{none_passes, none_before}
use Rattle.choose_branch.proofs.LeastLaws.{FoundLeast, least_first}
use Rattle.choose_branch.proofs.PieceLaws.{grown_few}
use Rattle.choose_branch.proofs.ChooseLaws.{BranchAt, branch_at, choose_has, choose_grown, removed_has, removed_grown, place_below, polygon_at, rect_below}

-- a chosen branch, from its place in the row
chosen_branch : (n : ℕ) (b : Item index_space (suc (suc n))) (p : List Rect) (c : Cell) (i : ℕ) (before after : List (List Rect)) (x q : List Rect)
    (s : BranchAt b.child i before x after)
    → choose (plane fanout) p b.child c ≡ some (record { before = take i b.child; old = s.old; grown = q; after = drop (suc i) b.child })
    → ChosenBranch n b p c i q
chosen_branch n b p c i before after x q s e = record {
  old = s.old;
  below = s.below;
  row = rw (add-one i) s.row;
  chosen = rw (add-one i) e;
}

-- the place of the first branch that has the cell
module _ (m : List ℕ) (k : ℕ) (c : Cell) (v : Branches m k) (place : ℕ) (e : Some place ≡ position (has_test c) (polygons_in m k)) where
  place_inside : place < length (polygons_in m k)
  place_inside = (position-Some (has_test c) (polygons_in m k) place [] (sym e)).0

  first_has : has_test c (get_or (polygons_in m k) place []) ≡ true
  first_has = (position-Some (has_test c) (polygons_in m k) place [] (sym e)).1

  pub has_counted : place < count_at m k
  has_counted = let l = place_inside in let z = v.count in omega arith

  pub has_few : place < 8
  has_few = let l = has_counted in let f = v.few in omega arith

  pub has_polygon : (j : ℕ) → j ≡ child_at m k place → PolygonPart m j
  has_polygon j o = child_polygon m k v place j has_counted o

  -- the branch there in the row of a reading
  module _ (n : ℕ) (b : Item index_space (suc (suc n))) (r : map (λ x. x.poly) b.child ≡ polygons_in m k) where
    first_at : BranchAt b.child place (take place (polygons_in m k)) (get_or (polygons_in m k) place []) (drop (suc place) (polygons_in m k))
    first_at =
        let ps = polygons_in m k in
        let l = place_inside in
        subst (λ (i : ℕ). BranchAt b.child i (take place ps) (get_or ps place []) (drop (suc place) ps)) (length-take-le place ps (omega arith))
        (branch_at b.child (take place ps) (get_or ps place []) (drop (suc place) ps) (r ∙ split_at ps place [] l))

  pub has_way : (p : List Rect) (j : ℕ) (q : Polygon) → j ≡ child_at m k place → PolygonOf (polygon_in (part m j)) q → ChosenAt m k p c place q
  has_way p j q o w = record { few = w.fits; each = λ n lo b r. one n b (polygons_read n m lo k b r) }
    where
      one : (n : ℕ) (b : Item index_space (suc (suc n))) → map (λ x. x.poly) b.child ≡ polygons_in m k → ChosenBranch n b p c place (rects_of q)
      one n b r =
          let ps = polygons_in m k in
          let l = place_inside in
          let at : get_or ps place [] ≡ rects_of q = polygon_there m k v place j has_counted o ∙ sym w.list in
          let none_has : All (λ x. has_test c x ≡ false) (take place ps) =
          none_before (has_test c) ps place [] (position-Some (has_test c) ps place [] (sym e)).2 (omega arith) in
          subst (λ (x : List Rect). ChosenBranch n b p c place x) at
          (chosen_branch n b p c place (take place ps) (drop (suc place) ps) (get_or ps place []) (get_or ps place []) (first_at n b r)
          (choose_has p c b.child place (take place ps) (drop (suc place) ps) (get_or ps place []) (first_at n b r) none_has first_has))

  -- then no cell is removed
  pub has_removed : RemovedAt m k c 0
  has_removed = record {
    is = λ n lo b r. sym (removed_has [] c b.child place _ _ _ (first_at n b (polygons_read n m lo k b r)) first_has);
    small = omega arith;
  }

module _ (m : List ℕ) (k : ℕ) (p : List Rect) (c : Cell) (v : Branches m k) where
  module _ (x : Least) (e : x ≡ least_all c (polygons_in m k)) where
    found : FoundLeast c (polygons_in m k) x
    found =
        let s = v.some in
        let q : polygons_in m k ≡ polygon_in (part m (child_at m k 0)) ∷ drop 1 (polygons_in m k) = next_polygon m k v 0 s in
        let o = v.good 0 s in
        let l : 1 ≤ length (polygon_in (part m (child_at m k 0))) = rw (length_rects _ _) o.some_rects in
        rw q (least_first c (polygon_in (part m (child_at m k 0))) (drop 1 (polygons_in m k)) x l (rw q at e))

    pub least_place : x.branch < count_at m k
    least_place =
        let a = place_below c (polygons_in m k) _ found.first in
        let b = found.branch in
        let z = v.count in
        omega arith

    pub least_rect : x.rect < length (get_or (polygons_in m k) x.branch [])
    least_rect =
        let f = found.first in
        let a = rect_below c (polygons_in m k) _ f in
        let b = found.rect in
        let q : get_or (polygons_in m k) x.branch [] ≡ f.polygon = ap (λ i. get_or (polygons_in m k) i []) found.branch ∙ polygon_at c (polygons_in m k) _ f in
        rw q (omega arith)

    module _ (h : position (has_test c) (polygons_in m k) ≡ None) where
      none_has : All (λ y. has_test c y ≡ false) (polygons_in m k)
      none_has = none_passes (has_test c) (polygons_in m k) h

      -- what the choice among the branches gives, by the grown polygon
      module _ (n : ℕ) (b : Item index_space (suc (suc n))) (r : map (λ y. y.poly) b.child ≡ polygons_in m k) where
        taken : BranchAt b.child (length found.first.before) found.first.before found.first.polygon found.first.after
        taken = branch_at b.child found.first.before found.first.polygon found.first.after (r ∙ found.first.row)

        choice : choose (plane fanout) p b.child c
            ≡ bind (grown_at p (polygons_in m k) (length found.first.before) (length found.first.inside.left) c)
            (λ q. some (record { before = take (length found.first.before) b.child; old = taken.old; grown = q; after = drop (suc (length found.first.before)) b.child }))
        choice = choose_grown c (polygons_in m k) _ found.first b.child taken r none_has p

        one_removed : tree_removed (plane fanout) b.child c
            ≡ removed (grown_rect (polygons_in m k) x.branch x.rect c ∷ []) (siblings (polygons_in m k) x.branch)
        one_removed =
            let ps = polygons_in m k in
            removed_grown c ps _ found.first b.child taken r none_has
            ∙ ap (λ (i : ℕ). removed (grown_rect ps i (length found.first.inside.left) c ∷ []) (siblings ps i))
            (sym found.branch)
            ∙ ap (λ (i : ℕ). removed (grown_rect ps x.branch i c ∷ []) (siblings ps x.branch)) (sym found.rect)

        one_none : grown_at p (polygons_in m k) x.branch x.rect c ≡ none → choose (plane fanout) p b.child c ≡ none
        unfolding bind
        one_none o =
            let w : grown_at p (polygons_in m k) (length found.first.before) (length found.first.inside.left) c ≡ none = rw (← found.branch, ← found.rect) o in
            choice ∙ rw w

        one_some : (q : List Rect) → grown_at p (polygons_in m k) x.branch x.rect c ≡ some q → ChosenBranch n b p c x.branch q
        unfolding bind
        one_some q o =
            let w : grown_at p (polygons_in m k) (length found.first.before) (length found.first.inside.left) c ≡ some q = rw (← found.branch, ← found.rect) o in
            rw found.branch (chosen_branch n b p c (length found.first.before) found.first.before found.first.after found.first.polygon q taken (choice ∙ rw w))

      -- the cells that the siblings of the grown one remove
      pub grown_removed : (cells : ℕ)
          → RemovedBy (grown_rect (polygons_in m k) x.branch x.rect c) (siblings (polygons_in m k) x.branch) cells
          → RemovedAt m k c cells
      grown_removed cells z = record {
        is = λ j lo b r. z.is ∙ sym (one_removed j b (polygons_read j m lo k b r));
        small = z.small;
      }

      pub over_way : (l₀ l : List ℕ) (t : TooMany) → Written l₀ (grown_at p (polygons_in m k) x.branch x.rect c) (Err t) l
          → (r : Result Choice TooMany) → IsErr r → ChoiceIs m k p c r
      unfolding counted
      over_way l₀ l t w (Ok y) i = absurd cc
      over_way l₀ l t w (Err y) i =
          let e : grown_at p (polygons_in m k) x.branch x.rect c ≡ none = sym w.list in
          record { each = λ n lo b r. one_none n b (polygons_read n m lo k b r) e }

      module _ (l₀ l : List ℕ) (n : ℕ) (w : Written l₀ (grown_at p (polygons_in m k) x.branch x.rect c) (Ok n) l)
          (left : List Rect) (t : left ≡ rects_in l n) where
        grown : grown_at p (polygons_in m k) x.branch x.rect c ≡ some left
        unfolding counted
        grown = rw t (sym w.list)

        pub rects_few : length left ≤ 16
        rects_few = grown_few p (polygons_in m k) x.branch x.rect c left grown

        pub grown_way : (q : Polygon) → PolygonOf left q → ChosenAt m k p c x.branch q
        grown_way q u = record { few = u.fits; each = λ i lo b r. one_some i b (polygons_read i m lo k b r) (rects_of q) (grown ∙ ap some (sym u.list)) }
