-- Each entry is held once: it lies among its item's cells, no two entries have one cell, and exactly one leaf has it.
use Prim.Native.Nat.{ℕ, zero, suc}
use mathlib.Core.Bool.{true}
use mathlib.Core.Path.{◌≡◌, subst}
use mathlib.Core.List.{List, flat_map}
use Rattle.tree.specs.Lists.{All, Pairs}
use Rattle.tree.specs.Space.{Space}
use Rattle.tree.specs.Nodes.{EntryOf, Item, item_has, held}
use Rattle.tree.specs.Sound.{Apart, SoundItem}
use Rattle.tree.proofs.Lists.{all_map, all_any, all_flat_map, Across, pairs_map, pairs_flat_map_all, pairs_with}
use Rattle.tree.proofs.Laws.{Laws}

module _ (S : Space) (W : Laws S) where
  -- an entry lies in its item
  pub held_inside : (n : ℕ) (p : S.Poly) (x : Item S n) → SoundItem S n p x → All (λ e. item_has S n x e.cell ≡ true) (held S n x)
  unfolding held SoundItem item_has All
  held_inside zero p e h = (W.same_self e.cell, tt)
  held_inside (suc n) p b h =
      all_flat_map (λ e. S.has b.poly e.cell ≡ true) (held S n) b.child
      (all_map (SoundItem S n b.poly) (λ x. All (λ e. S.has b.poly e.cell ≡ true) (held S n x)) b.child
      (λ x o. all_map (λ e. item_has S n x e.cell ≡ true) (λ e. S.has b.poly e.cell ≡ true) (held S n x) (λ e i. within n b.poly x o e.cell i) (held_inside n b.poly x o)) h.each)
    where
      within : (n : ℕ) (p : S.Poly) (x : Item S n) → SoundItem S n p x → (c : S.Cell) → item_has S n x c ≡ true → S.has p c ≡ true
      within zero p e o = o
      within (suc n) p b o = o.within

  -- no two entries of a tree have one cell: each is in one leaf alone, once
  pub once : (n : ℕ) (p : S.Poly) (l : List (Item S n)) → All (SoundItem S n p) l → Pairs (Apart S n) l → Pairs (Apart S zero) (flat_map (held S n) l)
  unfolding SoundItem
  once zero p es h k = pairs_flat_map_all (Apart S zero) (held S zero) es (all_any (λ e. Pairs (Apart S zero) (held S zero e)) es (λ e. unfold held Pairs All in (tt, tt))) (pairs_map (Apart S zero) (λ a b. Across (Apart S zero) (held S zero a) (held S zero b)) es (λ a b r. unfold held All in ((r, tt), tt)) k)
  once (suc n) p bs h k =
      pairs_flat_map_all (Apart S zero) (held S (suc n)) bs
      (all_map (SoundItem S (suc n) p) (λ b. Pairs (Apart S zero) (held S (suc n) b)) bs (λ b o. held_of n b (once n b.poly b.child o.each o.apart)) h)
      (pairs_with (SoundItem S (suc n) p) (Apart S (suc n)) (λ a b. Across (Apart S zero) (held S (suc n) a) (held S (suc n) b)) bs (across n p) h k)
    where
      held_of : (n : ℕ) (b : Item S (suc n)) → Pairs (Apart S zero) (flat_map (held S n) b.child) → Pairs (Apart S zero) (held S (suc n) b)
      held_of n b h = unfold held in h

      across : (n : ℕ) (p : S.Poly) (a b : Item S (suc n)) → SoundItem S (suc n) p a → SoundItem S (suc n) p b → Apart S (suc n) a b → Across (Apart S zero) (held S (suc n) a) (held S (suc n) b)
      across n p a b i j r =
          all_map (λ e. item_has S (suc n) a e.cell ≡ true) (λ e. All (Apart S zero e) (held S (suc n) b)) (held S (suc n) a)
          (λ e u. all_map (λ f. item_has S (suc n) b f.cell ≡ true) (Apart S zero e) (held S (suc n) b) (λ f v c s t. r c (at a e c s u) (at b f c t v)) (held_inside (suc n) p b j))
          (held_inside (suc n) p a i)
        where
          at : (x : Item S (suc n)) (e : EntryOf S) (c : S.Cell) → item_has S zero e c ≡ true → item_has S (suc n) x e.cell ≡ true → item_has S (suc n) x c ≡ true
          at x e c s u = subst (λ (d : S.Cell). item_has S (suc n) x d ≡ true) (W.same_is e.cell c (unfold item_has in s)) u
