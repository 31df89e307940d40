-- What lies on one side has nothing on the other; the two halves have all the items and at least as many nodes.
use Prim.Native.Nat.{ℕ, zero, suc, ◌+◌, ◌≤◌}
use mathlib.Core.Bool.{Bool, true, false, not, cond}
use mathlib.Core.Path.{◌≡◌, refl}
use mathlib.Core.List.{List, [], ◌∷◌, flat_map}
use lib.ListN.{length, length-append}
use native.Mathlib.Omega.{arith}
use Rattle.tree.specs.Lists.{total, All}
use Rattle.tree.specs.Space.{Space, Side, left, right}
use Rattle.tree.specs.Nodes.{EntryOf, Item, on, nodes}
use Rattle.tree.specs.Sound.{SoundItem}
use Rattle.tree.specs.Split.{branch_if, half}
use Rattle.tree.proofs.Counts.{flat_map_none, total_append}
use Rattle.tree.proofs.Lists.{all_map, all_any, all_flat_map}

module _ (S : Space) where
  -- a branch to some items is one branch
  pub length_branch_if : {A : Type 0} (p : S.Poly) (l : List A) → 1 ≤ length l → length (branch_if S p l) ≡ 1
  length_branch_if p [] h = absurd (omega arith)
  length_branch_if p (x ∷ l) h = omega arith

  none_branch_if : {A : Type 0} (p : S.Poly) (l : List A) → l ≡ [] → branch_if S p l ≡ []
  none_branch_if p l h = rw h

  -- what lies on one side has nothing on the other
  none_pick : (l : S.Line) (e : EntryOf S) (b : Bool) → S.below l e.cell ≡ b → All (λ y. half S zero (right l) y ≡ []) (cond b (e ∷ []) [])
  unfolding All half
  none_pick l e true h = (rw h, tt)
  none_pick l e false h = tt

  none_pick_2 : (l : S.Line) (e : EntryOf S) (b : Bool) → S.below l e.cell ≡ b → All (λ y. half S zero (left l) y ≡ []) (cond (not b) (e ∷ []) [])
  unfolding All half
  none_pick_2 l e true h = tt
  none_pick_2 l e false h = (rw h, tt)

  none_if : (n : ℕ) (s : Side S.Line) (q : S.Poly) (l : List (Item S n)) → All (λ y. half S n s y ≡ []) l → All (λ y. half S (suc n) s y ≡ []) (branch_if S q l)
  unfolding All half
  none_if n s q [] h = tt
  none_if n s q (x ∷ l) h = (none_branch_if (S.clip s q) (flat_map (half S n s) (x ∷ l)) (flat_map_none (half S n s) (x ∷ l) h), tt)

  pub none_right : (n : ℕ) (l : S.Line) (x : Item S n) → All (λ y. half S n (right l) y ≡ []) (half S n (left l) x)
  unfolding half
  none_right zero l e = none_pick l e (S.below l e.cell) refl
  none_right (suc n) l b = none_if n (right l) (S.clip (left l) b.poly) (flat_map (half S n (left l)) b.child) (all_flat_map (λ y. half S n (right l) y ≡ []) (half S n (left l)) b.child (all_any (λ x. All (λ y. half S n (right l) y ≡ []) (half S n (left l) x)) b.child (none_right n l)))

  pub none_left : (n : ℕ) (l : S.Line) (x : Item S n) → All (λ y. half S n (left l) y ≡ []) (half S n (right l) x)
  unfolding half
  none_left zero l e = none_pick_2 l e (S.below l e.cell) refl
  none_left (suc n) l b = none_if n (left l) (S.clip (right l) b.poly) (flat_map (half S n (right l)) b.child) (all_flat_map (λ y. half S n (left l) y ≡ []) (half S n (right l)) b.child (all_any (λ x. All (λ y. half S n (left l) y ≡ []) (half S n (right l) x)) b.child (none_left n l)))

  -- what lies on a side is still there on that side
  again_pick : (s : Side S.Line) (e : EntryOf S) (b : Bool) → on S s e.cell ≡ b → All (λ y. length (half S zero s y) ≡ 1) (cond b (e ∷ []) [])
  unfolding All half
  again_pick s e true h = (rw h, tt)
  again_pick s e false h = tt

  again_if : (n : ℕ) (s : Side S.Line) (q : S.Poly) (l : List (Item S n)) → All (λ y. length (half S n s y) ≡ 1) l → All (λ y. length (half S (suc n) s y) ≡ 1) (branch_if S q l)
  unfolding All half flat_map
  again_if n s q [] h = tt
  again_if n s q (x ∷ l) h =
      let one = h.0 in
      let m = length-append (half S n s x) (flat_map (half S n s) l) in
      (length_branch_if (S.clip s q) (flat_map (half S n s) (x ∷ l)) (omega arith), tt)

  pub again : (n : ℕ) (s : Side S.Line) (x : Item S n) → All (λ y. length (half S n s y) ≡ 1) (half S n s x)
  unfolding half
  again zero s e = again_pick s e (on S s e.cell) refl
  again (suc n) s b = again_if n s (S.clip s b.poly) (flat_map (half S n s) b.child) (all_flat_map (λ y. length (half S n s y) ≡ 1) (half S n s) b.child (all_any (λ x. All (λ y. length (half S n s y) ≡ 1) (half S n s x)) b.child (again n s)))

  -- an item with entries is on a side
  not_empty_flat_map : {A B : Type 0} (f g : A → List B) (l : List A) → All (λ a. 1 ≤ length (f a) + length (g a)) l → length l ≤ length (flat_map f l) + length (flat_map g l)
  unfolding flat_map All
  not_empty_flat_map f g [] h = omega arith
  not_empty_flat_map f g (a ∷ l) h =
      let i = not_empty_flat_map f g l h.1 in let k = h.0 in
      simp length-append (omega arith)

  not_empty_pick : (e : EntryOf S) (b : Bool) → 1 ≤ length (cond b (e ∷ []) []) + length (cond (not b) (e ∷ []) [])
  not_empty_pick e true = omega arith
  not_empty_pick e false = omega arith

  not_empty_if : {A : Type 0} (p q : S.Poly) (l m : List A) → 1 ≤ length l + length m → 1 ≤ length (branch_if S p l) + length (branch_if S q m)
  not_empty_if p q [] [] h = h
  not_empty_if p q [] (x ∷ m) h = omega arith
  not_empty_if p q (x ∷ l) [] h = omega arith
  not_empty_if p q (x ∷ l) (y ∷ m) h = omega arith

  pub half_not_empty : (n : ℕ) (l : S.Line) (p : S.Poly) (x : Item S n) → SoundItem S n p x → 1 ≤ length (half S n (left l) x) + length (half S n (right l) x)
  unfolding half SoundItem
  half_not_empty zero l p e h = not_empty_pick e (S.below l e.cell)
  half_not_empty (suc n) l p b h =
      let c = h.count.0 in
      let k = not_empty_flat_map (half S n (left l)) (half S n (right l)) b.child (all_map (SoundItem S n b.poly) (λ x. 1 ≤ length (half S n (left l) x) + length (half S n (right l) x)) b.child (half_not_empty n l b.poly) h.each) in
      not_empty_if (S.clip (left l) b.poly) (S.clip (right l) b.poly) (flat_map (half S n (left l)) b.child) (flat_map (half S n (right l)) b.child) (omega arith)

  -- nodes: the halves have at least as many
  pub nodes_flat_map : (n : ℕ) (f g : Item S n → List (Item S n)) (l : List (Item S n)) → All (λ x. nodes S n x ≤ total (nodes S n) (f x) + total (nodes S n) (g x)) l
      → total (nodes S n) l ≤ total (nodes S n) (flat_map f l) + total (nodes S n) (flat_map g l)
  unfolding flat_map All total
  nodes_flat_map n f g [] h = omega arith
  nodes_flat_map n f g (a ∷ l) h =
      let i = nodes_flat_map n f g l h.1 in let k = h.0 in
      rw (total_append (nodes S n) (f a) (flat_map f l), total_append (nodes S n) (g a) (flat_map g l)) (omega arith)

  nodes_if : (n : ℕ) (p q : S.Poly) (l m : List (Item S n)) → 1 ≤ length l + length m
      → 1 + (total (nodes S n) l + total (nodes S n) m) ≤ total (nodes S (suc n)) (branch_if S p l) + total (nodes S (suc n)) (branch_if S q m)
  unfolding total nodes
  nodes_if n p q [] [] h = absurd (omega arith)
  nodes_if n p q [] (x ∷ m) h = omega arith
  nodes_if n p q (x ∷ l) [] h = omega arith
  nodes_if n p q (x ∷ l) (y ∷ m) h = omega arith

  pub nodes_halves : (n : ℕ) (l : S.Line) (p : S.Poly) (x : Item S n) → SoundItem S n p x
      → nodes S n x ≤ total (nodes S n) (half S n (left l) x) + total (nodes S n) (half S n (right l) x)
  unfolding half SoundItem nodes
  nodes_halves zero l p e h = omega arith
  nodes_halves (suc n) l p b h =
      let k = not_empty_flat_map (half S n (left l)) (half S n (right l)) b.child (all_map (SoundItem S n b.poly) (λ x. 1 ≤ length (half S n (left l) x) + length (half S n (right l) x)) b.child (half_not_empty n l b.poly) h.each) in
      let i = nodes_flat_map n (half S n (left l)) (half S n (right l)) b.child (all_map (SoundItem S n b.poly) (λ x. nodes S n x ≤ total (nodes S n) (half S n (left l) x) + total (nodes S n) (half S n (right l) x)) b.child (nodes_halves n l b.poly) h.each) in
      let c = h.count.0 in
      let d = nodes_if n (S.clip (left l) b.poly) (S.clip (right l) b.poly) (flat_map (half S n (left l)) b.child) (flat_map (half S n (right l)) b.child) (omega arith) in
      omega arith
