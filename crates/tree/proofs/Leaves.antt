-- The leaves hold the entries: each in exactly one leaf, whose polygon has its cell.
use Prim.Native.Nat.{ℕ, zero, suc, ◌+◌}
use mathlib.Core.Bool.{Bool, true, false, cond}
use mathlib.Core.Path.{◌≡◌, refl, sym, ap, ◌∙◌}
use mathlib.Core.List.{List, [], ◌∷◌, flat_map}
use mathlib.Core.Option.{none, some}
use Rattle.polygons.specs.Lists.{any}
use Rattle.polygons.proofs.Booleans.{is_false}
use Rattle.tree.specs.Lists.{keep, total, All, count_of}
use Rattle.tree.specs.Space.{Space}
use Rattle.tree.specs.Nodes.{EntryOf, Item, item_has, held}
use Rattle.tree.specs.Sound.{Apart, SoundItem}
use Rattle.tree.specs.Root.{Root}
use Rattle.tree.specs.Tree.{Index, entries, top, Sound}
use Rattle.tree.specs.Depth.{item_leaves, leaves}
use Rattle.tree.specs.Query.{of_cell, holds}
use Rattle.tree.specs.Claim.{leaf_holds, leaf_covers}
use Rattle.tree.proofs.Lists.{all_map, all_flat_map, flat_map_one, flat_map_same, flat_map_flat_map, pairs_map, pairs_with}
use Rattle.tree.proofs.Counts.{count_of_cons, count_of_flat_map, total_same, total_exact}
use Rattle.tree.proofs.Any.{any_flat_map}
use Rattle.tree.proofs.Laws.{Laws}
use Rattle.tree.proofs.InsertEntries.{held_zero}
use Rattle.tree.proofs.Once.{once}
use Rattle.tree.proofs.Depth.{top_sound}
use Rattle.tree.proofs.Visits.{held_has}

count_of_total : {A : Type 0} (q : A → Bool) (l : List A) → count_of q l ≡ total (λ a. cond (q a) 1 0) l
unfolding total keep
count_of_total q [] = refl
count_of_total q (a ∷ l) = count_of_cons q a l ∙ ap (λ m. cond (q a) 1 0 + m) (count_of_total q l)

module _ (S : Space) where
  child_leaves : (n : ℕ) (b : Item S (suc n)) → held S (suc n) b ≡ flat_map (λ x. x.child) (item_leaves S n b)
  unfolding held item_leaves
  child_leaves zero b = held_zero S b.child ∙ sym (flat_map_one (λ (x : Item S 1). x.child) b)
  child_leaves (suc n) b =
      flat_map_same (held S (suc n)) (λ x. flat_map (λ y. y.child) (item_leaves S n x)) b.child (child_leaves n)
      ∙ sym (flat_map_flat_map (λ x. x.child) (item_leaves S n) b.child)

  -- The entries of the index are those of its leaves, in order.
  pub leaf_entries_lem : (i : Index S) → entries S i ≡ flat_map (λ b. b.child) (leaves S i)
  leaf_entries_lem none = unfold flat_map in refl
  leaf_entries_lem (some t) = (let e : entries S (some t) ≡ held S (suc t.level) (top S t) = unfold held in refl in e) ∙ child_leaves t.level (top S t)

  module _ (W : Laws S) where
    covers_below : (n : ℕ) (p : S.Poly) (b : Item S (suc n)) → SoundItem S (suc n) p b → All (leaf_covers S) (item_leaves S n b)
    unfolding item_leaves SoundItem All
    covers_below zero p b h = (all_map (SoundItem S zero b.poly) (λ e. S.has b.poly e.cell ≡ true) b.child (λ e k. k e.cell (unfold item_has in W.same_self e.cell)) h.each, tt)
    covers_below (suc n) p b h =
        all_flat_map (leaf_covers S) (item_leaves S n) b.child (all_map (SoundItem S (suc n) b.poly) (λ x. All (leaf_covers S) (item_leaves S n x)) b.child (covers_below n b.poly) h.each)

    one_below : (c : S.Cell) (n : ℕ) (p : S.Poly) (b : Item S (suc n)) → SoundItem S (suc n) p b → count_of (leaf_holds S c) (item_leaves S n b) ≡ cond (any (of_cell S c) (held S (suc n) b)) 1 0
    unfolding item_leaves SoundItem held
    one_below c zero p b h =
        count_of_total (leaf_holds S c) (b ∷ [])
        ∙ unfold total in last (any (of_cell S c) b.child) ∙ ap (λ (l : List (EntryOf S)). cond (any (of_cell S c) l) 1 0) (sym (held_zero S b.child))
      where
        last : (v : Bool) → cond v 1 0 + 0 ≡ cond v 1 0
        last true = refl
        last false = refl
    one_below c (suc n) p b h =
        count_of_flat_map (leaf_holds S c) (item_leaves S n) b.child
        ∙ total_same (λ x. count_of (leaf_holds S c) (item_leaves S n x)) (λ x. cond (any (of_cell S c) (held S (suc n) x)) 1 0) b.child
        (all_map (SoundItem S (suc n) b.poly) (λ x. count_of (leaf_holds S c) (item_leaves S n x) ≡ cond (any (of_cell S c) (held S (suc n) x)) 1 0) b.child (one_below c n b.poly) h.each)
        ∙ total_exact (λ x. any (of_cell S c) (held S (suc n) x)) b.child
        (pairs_with (SoundItem S (suc n) b.poly) (Apart S (suc n)) (λ x y. any (of_cell S c) (held S (suc n) x) ≡ true → any (of_cell S c) (held S (suc n) y) ≡ false) b.child
        (λ x y i j r e. is_false (any (of_cell S c) (held S (suc n) y)) (λ f. r c (held_here c n b.poly x i e) (held_here c n b.poly y j f))) h.each h.apart)
        ∙ ap (λ (v : Bool). cond v 1 0) (sym (any_flat_map (of_cell S c) (held S (suc n)) b.child))
      where
        held_here : (c : S.Cell) (n : ℕ) (p : S.Poly) (x : Item S (suc n)) → SoundItem S (suc n) p x → any (of_cell S c) (held S (suc n) x) ≡ true → item_has S (suc n) x c ≡ true
        held_here c n p x i e = unfold item_has in held_has S W c n p x i e

    module _ (R : Root S) where
      -- "the polygon of that leaf has its cell"
      pub leaves_cover : (i : Index S) → Sound S R i → All (leaf_covers S) (leaves S i)
      leaves_cover none s = unfold All in tt
      leaves_cover (some t) s = covers_below t.level t.root (top S t) (top_sound S R t s)

      -- "Each is in exactly one leaf": the leaves with an entry of the cell are one where the cell is held, and none otherwise.
      pub one_leaf : (i : Index S) → Sound S R i → (c : S.Cell) → count_of (leaf_holds S c) (leaves S i) ≡ cond (holds S c i) 1 0
      one_leaf none s c = unfold keep any in refl
      one_leaf (some t) s c = one_below c t.level t.root (top S t) (top_sound S R t s) ∙ unfold held in refl

      -- "no cell has two entries": the entries of a cell are one where it is held, and none otherwise.
      pub cell_once : (i : Index S) → Sound S R i → (c : S.Cell) → count_of (of_cell S c) (entries S i) ≡ cond (holds S c i) 1 0
      cell_once none s c = unfold keep any in refl
      cell_once (some t) s c =
          count_of_total (of_cell S c) (entries S (some t))
          ∙ total_exact (of_cell S c) (entries S (some t))
          (pairs_map (Apart S zero) (λ x y. of_cell S c x ≡ true → of_cell S c y ≡ false) (entries S (some t)) (λ x y r e. is_false (of_cell S c y) (λ f. r c (unfold item_has in e) (unfold item_has in f)))
          (once S W t.level t.root t.items s.items.each s.items.apart))
