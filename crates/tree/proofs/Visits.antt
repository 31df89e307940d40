-- Visits of a point query: at most the height, and the height where the cell is held.
use Prim.Native.Nat.{ℕ, zero, suc, ◌+◌, ◌≤◌}
use mathlib.Core.Bool.{Bool, true, false, cond}
use mathlib.Core.Path.{◌≡◌, refl, sym, ap, ◌∙◌, subst}
use mathlib.Core.List.{flat_map}
use mathlib.Core.Option.{none, some}
use native.Mathlib.Omega.{arith}
use Rattle.polygons.specs.Lists.{any}
use Rattle.polygons.proofs.Booleans.{is_false, not_both}
use Rattle.tree.specs.Lists.{keep, total, count_of}
use Rattle.tree.specs.Space.{Space}
use Rattle.tree.specs.Nodes.{Item, item_has, held}
use Rattle.tree.specs.Sound.{Apart, SoundItem}
use Rattle.tree.specs.Root.{Root}
use Rattle.tree.specs.Tree.{Index, height, top, Sound}
use Rattle.tree.specs.Depth.{item_polygons}
use Rattle.tree.specs.Query.{of_cell, holds, visits}
use Rattle.tree.proofs.Lists.{all_map, pairs_map}
use Rattle.tree.proofs.Counts.{count_of_cons, count_of_flat_map, total_none, total_one, total_some}
use Rattle.tree.proofs.Any.{any_flat_map, any_from}
use Rattle.tree.proofs.Laws.{Laws}
use Rattle.tree.proofs.Once.{held_inside}
use Rattle.tree.proofs.Depth.{top_sound}

module _ (S : Space) where
  -- A test that passes for a polygon wherever it passes for one within.
  abbrev pub Mono : (S.Poly → Bool) → Type 0
  Mono t = (p q : S.Poly) → ((c : S.Cell) → S.has q c ≡ true → S.has p c ≡ true) → t q ≡ true → t p ≡ true

  pub visits_step : (t : S.Poly → Bool) (n : ℕ) (b : Item S (suc n)) → count_of t (item_polygons S (suc n) b) ≡ cond (t b.poly) 1 0 + total (λ x. count_of t (item_polygons S n x)) b.child
  unfolding item_polygons
  visits_step t n b = count_of_cons t b.poly (flat_map (item_polygons S n) b.child) ∙ ap (λ m. cond (t b.poly) 1 0 + m) (count_of_flat_map t (item_polygons S n) b.child)

  no_visits : (t : S.Poly → Bool) → Mono t → (n : ℕ) (p : S.Poly) (x : Item S n) → SoundItem S n p x → t p ≡ false → count_of t (item_polygons S n x) ≡ 0
  unfolding SoundItem item_has
  no_visits t m zero p e h k = unfold item_polygons keep in refl
  no_visits t m (suc n) p b h k =
      let f : t b.poly ≡ false = is_false (t b.poly) (λ e. not_both (t p) (m p b.poly h.within e) k) in
      let z = total_none (λ x. count_of t (item_polygons S n x)) b.child (all_map (SoundItem S n b.poly) (λ x. count_of t (item_polygons S n x) ≡ 0) b.child (λ x o. no_visits t m n b.poly x o f) h.each) in
      visits_step t n b ∙ rw f (omega arith)

  -- Nothing below a node whose polygon does not pass.
  pub none_below : (t : S.Poly → Bool) → Mono t → (n : ℕ) (p : S.Poly) (b : Item S (suc n)) → SoundItem S (suc n) p b → t b.poly ≡ false → count_of t (item_polygons S (suc n) b) ≡ 0
  unfolding SoundItem item_has
  none_below t m n p b h k = no_visits t m (suc n) b.poly b (record { within = λ c i. i; fine = h.fine; count = h.count; each = h.each; apart = h.apart }) k

  pub mono_cell : (c : S.Cell) → Mono (λ p. S.has p c)
  mono_cell c p q w h = w c h

  few_visits : (c : S.Cell) (n : ℕ) (p : S.Poly) (x : Item S n) → SoundItem S n p x → count_of (λ q. S.has q c) (item_polygons S n x) ≤ n
  unfolding SoundItem
  few_visits c zero p e h = unfold item_polygons keep in omega arith
  few_visits c (suc n) p b h =
      let z = total_one (λ x. count_of (λ q. S.has q c) (item_polygons S n x)) (λ x. item_has S n x c) n b.child
      (all_map (SoundItem S n b.poly) (λ x. item_has S n x c ≡ false → count_of (λ q. S.has q c) (item_polygons S n x) ≡ 0) b.child (none_at n b.poly) h.each)
      (all_map (SoundItem S n b.poly) (λ x. count_of (λ q. S.has q c) (item_polygons S n x) ≤ n) b.child (few_visits c n b.poly) h.each)
      (pairs_map (Apart S n) (λ x y. item_has S n x c ≡ true → item_has S n y c ≡ false) b.child (λ x y r e. is_false (item_has S n y c) (r c e)) h.apart) in
      go (S.has b.poly c) (visits_step (λ q. S.has q c) n b) z
    where
      none_at : (n : ℕ) (p : S.Poly) (x : Item S n) → SoundItem S n p x → item_has S n x c ≡ false → count_of (λ q. S.has q c) (item_polygons S n x) ≡ 0
      none_at zero p e h k = unfold item_polygons keep in refl
      none_at (suc n) p b h k = none_below (λ q. S.has q c) (mono_cell c) n p b h (unfold item_has in k)

      go : (t : Bool) {m k l : ℕ} → k ≡ cond t 1 0 + m → m ≤ l → k ≤ suc l
      go true e h = omega arith
      go false e h = omega arith

  module _ (W : Laws S) where
    -- Where an entry of the cell is held below a node, the node's polygon has the cell.
    pub held_has : (c : S.Cell) (n : ℕ) (p : S.Poly) (b : Item S (suc n)) → SoundItem S (suc n) p b → any (of_cell S c) (held S (suc n) b) ≡ true → S.has b.poly c ≡ true
    held_has c n p b h k =
        any_from (of_cell S c) (S.has b.poly c ≡ true) (held S (suc n) b)
        (all_map (λ e. item_has S (suc n) b e.cell ≡ true) (λ e. of_cell S c e ≡ true → S.has b.poly c ≡ true) (held S (suc n) b)
        (λ e i s. subst (λ (d : S.Cell). S.has b.poly d ≡ true) (W.same_is e.cell c s) (unfold item_has in i)) (held_inside S W (suc n) p b h)) k

    held_visits : (c : S.Cell) (n : ℕ) (p : S.Poly) (x : Item S n) → SoundItem S n p x → any (of_cell S c) (held S n x) ≡ true → n ≤ count_of (λ q. S.has q c) (item_polygons S n x)
    unfolding SoundItem
    held_visits c zero p e h k = omega arith
    held_visits c (suc n) p b h k =
        let here = held_has c n p b h k in
        let z = total_some (λ x. count_of (λ q. S.has q c) (item_polygons S n x)) (λ x. any (of_cell S c) (held S n x)) n b.child
        (all_map (SoundItem S n b.poly) (λ x. any (of_cell S c) (held S n x) ≡ true → n ≤ count_of (λ q. S.has q c) (item_polygons S n x)) b.child (held_visits c n b.poly) h.each)
        (sym (any_flat_map (of_cell S c) (held S n) b.child) ∙ (unfold held in k)) in
        let e = rw here at (visits_step (λ q. S.has q c) n b) in
        omega arith

    module _ (R : Root S) where
      -- "they are at most the height"
      pub visits_height : (i : Index S) → Sound S R i → (c : S.Cell) → visits S c i ≤ height S i
      visits_height none s c = unfold keep in omega arith
      visits_height (some t) s c = few_visits c (suc t.level) t.root (top S t) (top_sound S R t s)

      -- A held cell's visits are the height.
      pub visits_held : (i : Index S) → Sound S R i → (c : S.Cell) → holds S c i ≡ true → visits S c i ≡ height S i
      visits_held none s c h = unfold any in absurd (not_both false h refl)
      visits_held (some t) s c h =
          let a = few_visits c (suc t.level) t.root (top S t) (top_sound S R t s) in
          let b = held_visits c (suc t.level) t.root (top S t) (top_sound S R t s) (unfold held in h) in
          omega arith
