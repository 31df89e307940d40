-- Nodes of equal depth share no cell, all leaves are equally deep, and the polygons of all nodes are as many as the nodes.
use Prim.Native.Nat.{ℕ, zero, suc, ◌+◌}
use mathlib.Core.Bool.{true}
use mathlib.Core.Path.{◌≡◌, refl, ap, ◌∙◌}
use mathlib.Core.List.{map, List, [], ◌∷◌, flat_map}
use mathlib.Core.Option.{none, some}
use lib.ListN.{length, length-append}
use native.Mathlib.Omega.{arith}
use Rattle.tree.specs.Lists.{total, All, Pairs, nth}
use Rattle.tree.specs.Space.{Space}
use Rattle.tree.specs.Nodes.{Item, item_has, nodes}
use Rattle.tree.specs.Sound.{Apart, SoundItem}
use Rattle.tree.specs.Root.{Root}
use Rattle.tree.specs.Tree.{Tree, SoundTree, Sound, Index, height, node_count, top}
use Rattle.tree.specs.Depth.{item_edges, edges, item_polygons, item_polygons_at, item_depths, polygons, leaf_depths, polygons_at}
use Rattle.tree.proofs.Lists.{all_append, all_of_map, all_map, all_any, all_flat_map, Across, pairs_flat_map_all, pairs_with, all_nth}

pairs_at : {A : Type 0} (R : A → A → Type 0) (l : List A) (i j : ℕ) (a b : A) → ((x y : A) → R x y → R y x) → Pairs R l → nth l i ≡ some a → nth l j ≡ some b → (R a b → ⊥) → i ≡ j
unfolding Pairs nth
pairs_at R [] i j a b s h e f n = let z : ◌≡◌ {A = ℕ} 0 1 = cc in absurd (omega arith)
pairs_at R (x ∷ l) zero zero a b s h e f n = refl
pairs_at R (x ∷ l) zero (suc j) a b s h e f n = let q : a ≡ x = cc in absurd (n (rw q (all_nth (R x) l j b f h.0)))
pairs_at R (x ∷ l) (suc i) zero a b s h e f n = let q : b ≡ x = cc in absurd (n (rw q (s x a (all_nth (R x) l i a e h.0))))
pairs_at R (x ∷ l) (suc i) (suc j) a b s h e f n = ap suc (pairs_at R l i j a b s h.1 e f n)

flat_map_total : {A B : Type 0} (f : A → List B) (g : A → ℕ) (l : List A) → ((a : A) → length (f a) ≡ g a) → length (flat_map f l) ≡ total g l
unfolding flat_map total
flat_map_total f g [] h = refl
flat_map_total f g (a ∷ l) h = length-append (f a) (flat_map f l) ∙ rw (h a, flat_map_total f g l h)

module _ (S : Space) where
  -- The two polygons share no cell.
  abbrev pub Separate : S.Poly → S.Poly → Type 0
  Separate p q = (c : S.Cell) → S.has p c ≡ true → S.has q c ≡ true → ⊥

  -- An item's cells lie in the polygon of its node.
  pub item_within : (n : ℕ) (p : S.Poly) (x : Item S n) → SoundItem S n p x → (c : S.Cell) → item_has S n x c ≡ true → S.has p c ≡ true
  unfolding SoundItem
  item_within zero p e h = h
  item_within (suc n) p b h = h.within

  -- The polygons below lie in the item's cells.
  abbrev In : (n : ℕ) → Item S n → S.Poly → Type 0
  In n x q = (c : S.Cell) → S.has q c ≡ true → item_has S n x c ≡ true

  polygons_in_lem : (n d : ℕ) (p : S.Poly) (x : Item S n) → SoundItem S n p x → All (In n x) (item_polygons_at S n d x)
  unfolding item_polygons_at All SoundItem item_has
  polygons_in_lem zero d p e h = tt
  polygons_in_lem (suc n) zero p b h = (λ c k. k, tt)
  polygons_in_lem (suc n) (suc d) p b h =
      all_flat_map (In (suc n) b) (item_polygons_at S n d) b.child
      (all_map (SoundItem S n b.poly) (λ x. All (In (suc n) b) (item_polygons_at S n d x)) b.child
      (λ x o. all_map (In n x) (In (suc n) b) (item_polygons_at S n d x) (λ q w c k. item_within n b.poly x o c (w c k)) (polygons_in_lem n d b.poly x o)) h.each)

  pub separate_below : (n d : ℕ) (p : S.Poly) (x : Item S n) → SoundItem S n p x → Pairs Separate (item_polygons_at S n d x)
  unfolding item_polygons_at All Pairs SoundItem
  separate_below zero d p e h = tt
  separate_below (suc n) zero p b h = (tt, tt)
  separate_below (suc n) (suc d) p b h =
      pairs_flat_map_all Separate (item_polygons_at S n d) b.child
      (all_map (SoundItem S n b.poly) (λ x. Pairs Separate (item_polygons_at S n d x)) b.child (separate_below n d b.poly) h.each)
      (pairs_with (SoundItem S n b.poly) (Apart S n) (λ x y. Across Separate (item_polygons_at S n d x) (item_polygons_at S n d y)) b.child
      (λ x y i j r. all_map (In n x) (λ q. All (Separate q) (item_polygons_at S n d y)) (item_polygons_at S n d x)
      (λ q w. all_map (In n y) (Separate q) (item_polygons_at S n d y) (λ q' w' c u v. r c (w c u) (w' c v)) (polygons_in_lem n d b.poly y j))
      (polygons_in_lem n d b.poly x i))
      h.each h.apart)

  -- The depth of every leaf.
  depths_below : (n d : ℕ) (b : Item S (suc n)) → All (λ k. k ≡ d + n) (item_depths S n d b)
  unfolding item_depths All
  depths_below zero d b = (omega arith, tt)
  depths_below (suc n) d b =
      all_flat_map (λ k. k ≡ d + suc n) (item_depths S n (suc d)) b.child
      (all_any (λ x. All (λ k. k ≡ d + suc n) (item_depths S n (suc d) x)) b.child
      (λ x. all_map (λ k. k ≡ suc d + n) (λ k. k ≡ d + suc n) (item_depths S n (suc d) x) (λ k e. omega arith) (depths_below n (suc d) x)))

  -- The polygons are as many as the nodes.
  polygons_count : (n : ℕ) (x : Item S n) → length (item_polygons S n x) ≡ nodes S n x
  unfolding item_polygons nodes
  polygons_count zero e = refl
  polygons_count (suc n) b = let i = flat_map_total (item_polygons S n) (nodes S n) b.child (polygons_count n) in omega arith

  -- Each child below a branch is within its parent.
  edges_below : (n : ℕ) (p : S.Poly) (b : Item S (suc n)) → SoundItem S (suc n) p b → All (λ e. (c : S.Cell) → S.has e.below c ≡ true → S.has e.parent c ≡ true) (item_edges S n b)
  unfolding item_edges SoundItem
  edges_below zero p b h = unfold All in tt
  edges_below (suc n) p b h =
      all_append (λ e. (c : S.Cell) → S.has e.below c ≡ true → S.has e.parent c ≡ true) (map (λ x. record { parent = b.poly; below = x.poly }) b.child) (flat_map (item_edges S n) b.child)
      (all_of_map (λ e. (c : S.Cell) → S.has e.below c ≡ true → S.has e.parent c ≡ true) (λ x. record { parent = b.poly; below = x.poly }) b.child
      (all_map (SoundItem S (suc n) b.poly) (λ x. (c : S.Cell) → S.has x.poly c ≡ true → S.has b.poly c ≡ true) b.child (λ x o. child_within n b.poly x o) h.each))
      (all_flat_map (λ e. (c : S.Cell) → S.has e.below c ≡ true → S.has e.parent c ≡ true) (item_edges S n) b.child
      (all_map (SoundItem S (suc n) b.poly) (λ x. All (λ e. (c : S.Cell) → S.has e.below c ≡ true → S.has e.parent c ≡ true) (item_edges S n x)) b.child (edges_below n b.poly) h.each))
    where
      child_within : (n : ℕ) (p : S.Poly) (x : Item S (suc n)) → SoundItem S (suc n) p x → (c : S.Cell) → S.has x.poly c ≡ true → S.has p c ≡ true
      child_within n p x o c k = item_within (suc n) p x o c (unfold item_has in k)

  -- "all leaves are equally deep": the depth of each is the height less one.
  pub equally_deep : (i : Index S) → All (λ k. suc k ≡ height S i) (leaf_depths S i)
  equally_deep none = unfold All in tt
  equally_deep (some t) = all_map (λ k. k ≡ 0 + t.level) (λ k. suc k ≡ suc t.level) (item_depths S t.level 0 (top S t)) (λ k e. omega arith) (depths_below t.level 0 (top S t))

  -- Each node has its polygon in the list.
  pub polygon_each : (i : Index S) → length (polygons S i) ≡ node_count S i
  polygon_each none = refl
  polygon_each (some t) = polygons_count (suc t.level) (top S t) ∙ unfold nodes in refl

-- The root, taken as a branch, is sound.
pub top_sound : (S : Space) (R : Root S) (t : Tree S) → SoundTree S R t → SoundItem S (suc t.level) t.root (top S t)
unfolding SoundItem item_has
top_sound S R t s = record { within = λ c k. k; fine = s.fine; count = s.count; each = s.items.each; apart = s.items.apart }

module _ (S : Space) (R : Root S) where
  -- Every two polygons of one depth share no cell.
  pub separate : (i : Index S) → Sound S R i → (d : ℕ) → Pairs (Separate S) (polygons_at S d i)
  separate none s d = unfold Pairs in tt
  separate (some t) s d = separate_below S (suc t.level) d t.root (top S t) (top_sound S R t s)

  -- "no cell lies in the polygons of two different nodes of equal depth": by places in the list of a depth's polygons.
  pub equal_depth : (i : Index S) → Sound S R i → (d j k : ℕ) (p q : S.Poly) (c : S.Cell) → nth (polygons_at S d i) j ≡ some p → nth (polygons_at S d i) k ≡ some q
      → S.has p c ≡ true → S.has q c ≡ true → j ≡ k
  equal_depth i s d j k p q c e f h m = pairs_at (Separate S) (polygons_at S d i) j k p q (λ x y r v a b. r v b a) (separate i s d) e f (λ r. r c h m)

  -- "every child stays within its parent"
  pub within_parent : (i : Index S) → Sound S R i → All (λ e. (c : S.Cell) → S.has e.below c ≡ true → S.has e.parent c ≡ true) (edges S i)
  within_parent none s = unfold All in tt
  within_parent (some t) s = edges_below S t.level t.root (top S t) (top_sound S R t s)
