-- An item with some entries left out and its polygons changed: it keeps the entries that pass, in order, and is sound. Halves and removal are both of this kind.
use Prim.Native.Nat.{ℕ, zero, suc, ◌≤◌}
use mathlib.Core.Bool.{Bool, true, false, cond}
use mathlib.Core.Path.{◌≡◌, refl, sym, ◌∙◌, subst}
use mathlib.Core.List.{List, [], ◌∷◌, append-nil, flat_map}
use lib.ListN.{length}
use native.Mathlib.Omega.{arith}
use Rattle.polygons.proofs.ListLaws.{length_flat_map}
use Rattle.tree.specs.Lists.{keep, All, Pairs}
use Rattle.tree.specs.Space.{Space}
use Rattle.tree.specs.Nodes.{EntryOf, Item, item_has, held}
use Rattle.tree.specs.Sound.{Apart, SoundItem, SoundItems}
use Rattle.tree.specs.Split.{branch_if}
use Rattle.tree.specs.Remove.{prune}
use Rattle.tree.proofs.Lists.{flat_map_same, flat_map_flat_map, keep_flat_map, all_map, all_flat_map, Across, pairs_flat_map, pairs_one}
use Rattle.tree.proofs.Laws.{Laws}

module _ (S : Space) (W : Laws S) where
  -- an item has a cell
  pub sound_cell : (n : ℕ) (p : S.Poly) (x : Item S n) → SoundItem S n p x → (c : S.Cell) × (S.has p c ≡ true)
  unfolding SoundItem item_has All
  sound_cell zero p e h = (e.cell, h e.cell (W.same_self e.cell))
  sound_cell (suc n) p b h = go b.child h.count.0 h.each (sound_cell n b.poly)
    where
      go : (l : List (Item S n)) → 1 ≤ length l → All (SoundItem S n b.poly) l → ((x : Item S n) → SoundItem S n b.poly x → (c : S.Cell) × (S.has b.poly c ≡ true)) → (c : S.Cell) × (S.has p c ≡ true)
      go [] o k f = absurd (omega arith)
      go (x ∷ l) o k f = let g = f x k.0 in (g.0, h.within g.0 g.1)

module _ (S : Space) (t : EntryOf S → Bool) (q : S.Poly → S.Poly) where
  one_if : {A : Type 0} (p : S.Poly) (l : List A) → length (branch_if S p l) ≤ 1
  one_if p [] = omega arith
  one_if p (x ∷ l) = omega arith

  pub prune_one : (n : ℕ) (x : Item S n) → length (prune S n t q x) ≤ 1
  unfolding prune
  prune_one zero e = go (t e)
    where
      go : (b : Bool) → length (cond b (e ∷ []) []) ≤ 1
      go true = omega arith
      go false = omega arith
  prune_one (suc n) b = one_if (q b.poly) (flat_map (prune S n t q) b.child)

  held_if : (n : ℕ) (p : S.Poly) (l : List (Item S n)) → flat_map (held S (suc n)) (branch_if S p l) ≡ flat_map (held S n) l
  unfolding flat_map held
  held_if n p [] = refl
  held_if n p (x ∷ l) = append-nil _

  -- the entries that pass, in their order
  pub held_prune : (n : ℕ) (x : Item S n) → flat_map (held S n) (prune S n t q x) ≡ keep t (held S n x)
  unfolding prune held keep flat_map
  held_prune zero e = go (t e)
    where
      go : (b : Bool) → flat_map (held S zero) (cond b (e ∷ []) []) ≡ cond b (e ∷ []) []
      go true = refl
      go false = refl
  held_prune (suc n) b =
      held_if n (q b.poly) (flat_map (prune S n t q) b.child)
      ∙ flat_map_flat_map (held S n) (prune S n t q) b.child
      ∙ flat_map_same (λ x. flat_map (held S n) (prune S n t q x)) (λ x. keep t (held S n x)) b.child (held_prune n)
      ∙ sym (keep_flat_map t (held S n) b.child)

  pub held_prunes : (n : ℕ) (l : List (Item S n)) → flat_map (held S n) (flat_map (prune S n t q) l) ≡ keep t (flat_map (held S n) l)
  held_prunes n l =
      flat_map_flat_map (held S n) (prune S n t q) l
      ∙ flat_map_same (λ x. flat_map (held S n) (prune S n t q x)) (λ x. keep t (held S n x)) l (held_prune n)
      ∙ sym (keep_flat_map t (held S n) l)

  -- q p has the cells of p that pass u, and entries that pass have such cells
  module _ (W : Laws S) (u : S.Cell → Type 0)
      (q_old : (p : S.Poly) (c : S.Cell) → S.has (q p) c ≡ true → S.has p c ≡ true)
      (q_on : (p : S.Poly) (c : S.Cell) → S.has (q p) c ≡ true → u c)
      (q_has : (p : S.Poly) (c : S.Cell) → S.has p c ≡ true → u c → S.has (q p) c ≡ true)
      (q_fine : (p : S.Poly) (c : S.Cell) → S.Fine p → S.has (q p) c ≡ true → S.Fine (q p))
      (t_on : (e : EntryOf S) → t e ≡ true → u e.cell) where
    abbrev Sub : (n : ℕ) → Item S n → Item S n → Type 0
    Sub n x y = (c : S.Cell) → item_has S n y c ≡ true → item_has S n x c ≡ true

    sub_if : (n : ℕ) (b : Item S (suc n)) (l : List (Item S n)) → All (Sub (suc n) b) (branch_if S (q b.poly) l)
    unfolding All item_has
    sub_if n b [] = tt
    sub_if n b (x ∷ l) = (q_old b.poly, tt)

    prune_sub : (n : ℕ) (x : Item S n) → All (Sub n x) (prune S n t q x)
    unfolding prune All
    prune_sub zero e = go (t e)
      where
        go : (b : Bool) → All (Sub zero e) (cond b (e ∷ []) [])
        go true = (λ c k. k, tt)
        go false = tt
    prune_sub (suc n) b = sub_if n b (flat_map (prune S n t q) b.child)

    on_if : (n : ℕ) (b : Item S (suc n)) (l : List (Item S n)) → All (λ y. (c : S.Cell) → item_has S (suc n) y c ≡ true → u c) (branch_if S (q b.poly) l)
    unfolding All item_has
    on_if n b [] = tt
    on_if n b (x ∷ l) = (q_on b.poly, tt)

    -- what is left has only cells that pass u
    pub prune_on : (n : ℕ) (x : Item S n) → All (λ y. (c : S.Cell) → item_has S n y c ≡ true → u c) (prune S n t q x)
    unfolding prune All item_has
    prune_on zero e = go (t e) refl
      where
        go : (b : Bool) → t e ≡ b → All (λ y. (c : S.Cell) → item_has S zero y c ≡ true → u c) (cond b (e ∷ []) [])
        go true o = (λ c k. subst (λ d. u d) (W.same_is e.cell c k) (t_on e o), tt)
        go false o = tt
    prune_on (suc n) b = on_if n b (flat_map (prune S n t q) b.child)

    apart_prune : (n : ℕ) (x y : Item S n) → Apart S n x y → Across (Apart S n) (prune S n t q x) (prune S n t q y)
    apart_prune n x y h =
        all_map (Sub n x) (λ a. All (Apart S n a) (prune S n t q y)) (prune S n t q x)
        (λ a i. all_map (Sub n y) (Apart S n a) (prune S n t q y) (λ b j c k m. h c (i c k) (j c m)) (prune_sub n y))
        (prune_sub n x)

    apart_prunes : (n : ℕ) (l : List (Item S n)) → Pairs (Apart S n) l → Pairs (Apart S n) (flat_map (prune S n t q) l)
    apart_prunes n l h = pairs_flat_map (Apart S n) (Apart S n) (prune S n t q) l (λ a. pairs_one (Apart S n) (prune S n t q a) (prune_one n a)) (apart_prune n) h

    sound_if : (n : ℕ) (p : S.Poly) (r : S.Poly) (l : List (Item S n)) → ((c : S.Cell) → S.has (q r) c ≡ true → S.has p c ≡ true)
        → S.Fine r → length l ≤ S.most → All (SoundItem S n (q r)) l → Pairs (Apart S n) l → All (SoundItem S (suc n) p) (branch_if S (q r) l)
    unfolding All SoundItem item_has
    sound_if n p r [] w f m a h = tt
    sound_if n p r (x ∷ l) w f m a h = let g = sound_cell S W n (q r) x a.0 in (record { within = w; fine = q_fine r g.0 f g.1; count = (omega arith, m); each = a; apart = h }, tt)

    pub sound_prune : (n : ℕ) (p : S.Poly) (x : Item S n) → SoundItem S n p x → All (SoundItem S n (q p)) (prune S n t q x)
    unfolding prune SoundItem All item_has
    sound_prune zero p e h = go (t e) refl
      where
        go : (b : Bool) → t e ≡ b → All (SoundItem S zero (q p)) (cond b (e ∷ []) [])
        go true o = (λ c k. q_has p c (h c k) (subst (λ d. u d) (W.same_is e.cell c k) (t_on e o)), tt)
        go false o = tt
    sound_prune (suc n) p b h =
        let few = length_flat_map (prune S n t q) b.child (prune_one n) in
        let m = h.count.1 in
        sound_if n (q p) b.poly (flat_map (prune S n t q) b.child)
        (λ c k. q_has p c (h.within c (q_old b.poly c k)) (q_on b.poly c k))
        h.fine (omega arith)
        (all_flat_map (SoundItem S n (q b.poly)) (prune S n t q) b.child (all_map (SoundItem S n b.poly) (λ x. All (SoundItem S n (q b.poly)) (prune S n t q x)) b.child (sound_prune n b.poly) h.each))
        (apart_prunes n b.child h.apart)

    pub row_prune : (n : ℕ) (p : S.Poly) (l : List (Item S n)) → SoundItems S n p l → SoundItems S n (q p) (flat_map (prune S n t q) l)
    row_prune n p l r = record {
      each = all_flat_map (SoundItem S n (q p)) (prune S n t q) l (all_map (SoundItem S n p) (λ x. All (SoundItem S n (q p)) (prune S n t q x)) l (sound_prune n p) r.each);
      apart = apart_prunes n l r.apart;
    }
