-- Document 01, 'Sound means': each test of specs/SoundTest passes exactly where its clause of Sound holds.
use Prim.Native.Nat.{ℕ, zero, suc}
use mathlib.Core.Path.{◌≡◌, refl, sym, ap, ◌∙◌, subst}
use mathlib.Core.Bool.{Bool, true, ◌&&◌, ◌||◌, not}
use mathlib.Core.List.{List, [], ◌∷◌}
use native.Mathlib.Omega.{arith}
use borrow.Author.Tests.{leb-true, le-leb, eqb-true, eq-eqb, not-true}
use lib.Dec.{leb, eqb}
use lib.ListN.{length}
use Rattle.polygons.specs.Limits.{most_of_polygon}
use Rattle.polygons.specs.Lists.{any}
use Rattle.polygons.proofs.Booleans.{is_false, not_both, both, split_and}
use Rattle.geometry.specs.declared.rect.Cell.{Cell}
use Rattle.geometry.specs.declared.rect.Rect.{Rect}
use Rattle.geometry.specs.Cells.{has_cell, all_valid, any_has}
use Rattle.cover.specs.Tests.{all_pass, pairs_pass, inside_of}
use Rattle.cover.proofs.CoverCells.{inside_cells, cells_inside, apart_cells, cells_apart}
use Rattle.tree.specs.Lists.{All, Pairs}
use Rattle.tree.specs.Nodes.{Item, item_has}
use Rattle.tree.specs.Sound.{Apart, Count, SoundItem}
use Rattle.tree.specs.Tree.{Tree, SoundTree}
use Rattle.tree.specs.Boxes.{any_has as boxes_has}
use Rattle.plane.specs.Plane.{plane_space, plane_root}
use Rattle.plane.proofs.Rects.{all_valid_lem, valid_all, same_cell}
use Rattle.memory.specs.SoundTest.{polygon_fits, count_test, apart_test, item_test, sound_test}

module _ {A : Type 0} (p : A → Bool) (P : A → Type 0) where
  -- where every element passes, what the test stands for holds of every element
  pub all_of_pass : ((a : A) → p a ≡ true → P a) → (l : List A) → all_pass p l ≡ true → All P l
  unfolding all_pass All
  all_of_pass f [] e = tt
  all_of_pass f (a ∷ l) e = let k = split_and (p a) (all_pass p l) e in (f a k.0, all_of_pass f l k.1)

  -- where it holds of every element, every element passes
  pub pass_of_all : ((a : A) → P a → p a ≡ true) → (l : List A) → All P l → all_pass p l ≡ true
  unfolding all_pass All
  pass_of_all f [] h = refl
  pass_of_all f (a ∷ l) h = both _ _ (f a h.0) (pass_of_all f l h.1)

module _ {A : Type 0} (p : A → A → Bool) (R : A → A → Type 0) where
  -- where every two elements pass, what the test stands for holds of every two
  pub pairs_of_pass : ((a b : A) → p a b ≡ true → R a b) → (l : List A) → pairs_pass p l ≡ true → Pairs R l
  unfolding pairs_pass Pairs
  pairs_of_pass f [] e = tt
  pairs_of_pass f (a ∷ l) e =
      let k = split_and (all_pass (p a) l) (pairs_pass p l) e in
      (all_of_pass (p a) (R a) (f a) l k.0, pairs_of_pass f l k.1)

  -- where it holds of every two elements, every two pass
  pub pass_of_pairs : ((a b : A) → R a b → p a b ≡ true) → (l : List A) → Pairs R l → pairs_pass p l ≡ true
  unfolding pairs_pass Pairs
  pass_of_pairs f [] h = refl
  pass_of_pairs f (a ∷ l) h = both _ _ (pass_of_all (p a) (R a) (f a) l h.0) (pass_of_pairs f l h.1)

cell_same : (c : Cell) → eqb c.x c.x && eqb c.y c.y ≡ true
cell_same c = both _ _ (eq-eqb c.x c.x refl) (eq-eqb c.y c.y refl)

module _ (fanout : ℕ) where
  -- the plane's polygons have the cells of their lists of rectangles
  pub has_is : (p : List Rect) (c : Cell) → (plane_space fanout).has p c ≡ any_has p c
  unfolding boxes_has any any_has
  has_is [] c = refl
  has_is (r ∷ p) c = ap (λ b. has_cell r c || b) (has_is p c)

  -- a polygon that passes is '1 to 16 rectangles', all valid
  pub fine_of_fits : (p : List Rect) → polygon_fits p ≡ true → (plane_space fanout).Fine p
  unfolding polygon_fits
  fine_of_fits p e =
      let k = split_and _ (all_valid p) e in
      let n = split_and (leb 1 (length p)) (leb (length p) most_of_polygon) k.0 in
      record { lower = leb-true _ _ n.0; upper = leb-true _ _ n.1; valid = all_valid_lem p k.1 }

  -- a polygon of 1 to 16 valid rectangles passes
  pub fits_of_fine : (p : List Rect) → (plane_space fanout).Fine p → polygon_fits p ≡ true
  unfolding polygon_fits
  fits_of_fine p f = both _ _ (both _ _ (le-leb _ _ f.lower) (le-leb _ _ f.upper)) (valid_all p f.valid)

  -- the rectangles of such a polygon are valid
  pub valid_of_fine : (p : List Rect) → (plane_space fanout).Fine p → all_valid p ≡ true
  valid_of_fine p f = valid_all p f.valid

  -- items that pass share no cell
  pub apart_of_test : (n : ℕ) (a b : Item (plane_space fanout) n) → apart_test fanout n a b ≡ true → Apart (plane_space fanout) n a b
  unfolding apart_test item_has
  apart_of_test zero a b e = λ c h k.
      let p = same_cell _ _ h in
      let q = same_cell _ _ k in
      not_both _ (subst (λ d. eqb a.cell.x d.x && eqb a.cell.y d.y ≡ true) (p ∙ sym q) (cell_same a.cell)) (not-true _ e)
  apart_of_test (suc n) a b e = λ c h k. apart_cells a.poly b.poly e c (sym (has_is a.poly c) ∙ h) (sym (has_is b.poly c) ∙ k)

  -- items that share no cell pass
  pub test_of_apart : (n : ℕ) (a b : Item (plane_space fanout) n) → Apart (plane_space fanout) n a b → apart_test fanout n a b ≡ true
  unfolding apart_test item_has
  test_of_apart zero a b h = ap not (is_false _ (λ e. h b.cell e (cell_same b.cell)))
  test_of_apart (suc n) a b h = cells_apart a.poly b.poly (λ c e f. h c (has_is a.poly c ∙ e) (has_is b.poly c ∙ f))

  -- a list that passes has 1 to 8 elements (8 is the fanout)
  pub count_of_test : {A : Type 0} (l : List A) → count_test fanout l ≡ true → Count (plane_space fanout) l
  unfolding count_test
  count_of_test l e =
      let k = split_and (leb 1 (length l)) (leb (length l) fanout) e in
      (leb-true _ _ k.0, leb-true _ _ k.1)

  -- a list of 1 to 8 elements passes
  pub test_of_count : {A : Type 0} (l : List A) → Count (plane_space fanout) l → count_test fanout l ≡ true
  unfolding count_test
  test_of_count l h = both _ _ (le-leb _ _ h.0) (le-leb _ _ h.1)

  -- an item that passes is sound below the polygon
  pub ok_of_test : (n : ℕ) (p : List Rect) (a : Item (plane_space fanout) n) → item_test fanout n p a ≡ true → SoundItem (plane_space fanout) n p a
  unfolding item_test SoundItem item_has
  ok_of_test zero p a e = λ c h. has_is p c ∙ subst (λ d. any_has p d ≡ true) (same_cell _ _ h) e
  ok_of_test (suc n) p b e =
      let k = split_and _ (pairs_pass (apart_test fanout n) b.child) e in
      let j = split_and _ (all_pass (item_test fanout n b.poly) b.child) k.0 in
      let i = split_and _ (count_test fanout b.child) j.0 in
      let f = split_and (inside_of p b.poly) (polygon_fits b.poly) i.0 in
      record {
        within = λ c h. has_is p c ∙ inside_cells p b.poly f.0 c (sym (has_is b.poly c) ∙ h);
        fine = fine_of_fits b.poly f.1;
        count = count_of_test b.child i.1;
        each = all_of_pass (item_test fanout n b.poly) (SoundItem (plane_space fanout) n b.poly) (ok_of_test n b.poly) b.child j.1;
        apart = pairs_of_pass (apart_test fanout n) (Apart (plane_space fanout) n) (apart_of_test n) b.child k.1;
      }

  -- an item that is sound below the polygon passes
  pub test_of_ok : (n : ℕ) (p : List Rect) (a : Item (plane_space fanout) n) → SoundItem (plane_space fanout) n p a → item_test fanout n p a ≡ true
  unfolding item_test SoundItem item_has
  test_of_ok zero p a h = sym (has_is p a.cell) ∙ h a.cell (cell_same a.cell)
  test_of_ok (suc n) p b h =
      both _ _
      (both _ _
      (both _ _
      (both _ _
      (cells_inside p b.poly (valid_of_fine b.poly h.fine) (λ c e. sym (has_is p c) ∙ h.within c (has_is b.poly c ∙ e)))
      (fits_of_fine b.poly h.fine))
      (test_of_count b.child h.count))
      (pass_of_all (item_test fanout n b.poly) (SoundItem (plane_space fanout) n b.poly) (test_of_ok n b.poly) b.child h.each))
      (pass_of_pairs (apart_test fanout n) (Apart (plane_space fanout) n) (test_of_apart n) b.child h.apart)

  -- a tree that passes is a sound index
  pub sound_tested : (t : Tree (plane_space fanout)) → sound_test fanout t ≡ true → SoundTree (plane_space fanout) (plane_root fanout) t
  unfolding sound_test
  sound_tested t e =
      let k = split_and _ (pairs_pass (apart_test fanout t.level) t.items) e in
      let j = split_and _ (all_pass (item_test fanout t.level t.root) t.items) k.0 in
      let i = split_and _ (count_test fanout t.items) j.0 in
      let f = split_and (eqb (length t.root) 1) (all_valid t.root) i.0 in
      let one : length t.root ≡ 1 = eqb-true _ _ f.0 in
      record {
        fine = record { lower = omega arith; upper = omega arith; valid = all_valid_lem t.root f.1 };
        one = one;
        count = count_of_test t.items i.1;
        items = record {
          each = all_of_pass (item_test fanout t.level t.root) (SoundItem (plane_space fanout) t.level t.root) (ok_of_test t.level t.root) t.items j.1;
          apart = pairs_of_pass (apart_test fanout t.level) (Apart (plane_space fanout) t.level) (apart_of_test t.level) t.items k.1;
        };
      }

  -- a sound index passes
  pub test_of_sound : (t : Tree (plane_space fanout)) → SoundTree (plane_space fanout) (plane_root fanout) t → sound_test fanout t ≡ true
  unfolding sound_test
  test_of_sound t h =
      both _ _
      (both _ _
      (both _ _
      (both _ _ (eq-eqb _ _ h.one) (valid_of_fine t.root h.fine))
      (test_of_count t.items h.count))
      (pass_of_all (item_test fanout t.level t.root) (SoundItem (plane_space fanout) t.level t.root) (test_of_ok t.level t.root) t.items h.items.each))
      (pass_of_pairs (apart_test fanout t.level) (Apart (plane_space fanout) t.level) (test_of_apart t.level) t.items h.items.apart)
