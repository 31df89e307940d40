-- A split node and a node with a branch replaced are sound; the line of the split below fits the node above.
use Prim.Native.Nat.{ℕ, zero, suc, ◌+◌, ◌<◌, ◌≤◌}
use mathlib.Core.Bool.{Bool, true, false, cond}
use mathlib.Core.Path.{◌≡◌, refl, subst}
use mathlib.Core.List.{List, [], ◌∷◌, ◌++◌, flat_map}
use lib.ListN.{length, length-append}
use lib.Dec.{leb}
use native.Mathlib.Omega.{arith}
use borrow.Author.Tests.{leb-true, leb-false}
use Rattle.polygons.proofs.ListLaws.{flat_map_append, length_flat_map}
use Rattle.tree.specs.Lists.{All, Pairs}
use Rattle.tree.specs.Space.{Space, Side, left, right, Chosen}
use Rattle.tree.specs.Nodes.{Item, item_has}
use Rattle.tree.specs.Sound.{Apart, Count, SoundItem, SoundItems}
use Rattle.tree.specs.Split.{branch_if, half, half_items, line_of, halves, split}
use Rattle.tree.proofs.Lists.{all_append, all_first, all_second, all_map, Across, pairs_append, pairs_parts, pairs_one, all_tail, pairs_tail}
use Rattle.tree.proofs.Laws.{Laws, Chose, Steps}
use Rattle.tree.proofs.Halves.{half_one, row_half, apart_sides}
use Rattle.tree.proofs.Prune.{sound_cell}
use Rattle.tree.proofs.Sides.{none_left, none_right, again, length_branch_if}
use Rattle.tree.proofs.Fits.{FitAt}

module _ (S : Space) where
  -- one branch, or two that some line parts
  pub data Shape (n : ℕ) : List (Item S n) → Type 0 where
    one : (b : Item S n) → Shape n (b ∷ [])
    two : (l : S.Line) (a b : Item S n) → half S n (right l) a ≡ [] → half S n (left l) b ≡ [] → length (half S n (left l) a) ≡ 1 → length (half S n (right l) b) ≡ 1 → Shape n (a ∷ b ∷ [])

  pub record Good (n : ℕ) (p : S.Poly) (got : List (Item S (suc n))) : Type 0 where
    pub row : SoundItems S (suc n) p got
    pub shape : Shape (suc n) got

  abbrev pub Sub : S.Poly → S.Poly → Type 0
  Sub q p = (c : S.Cell) → S.has q c ≡ true → S.has p c ≡ true

  -- sound in a polygon, so in a wider one
  pub sound_wider : (n : ℕ) (p q : S.Poly) (x : Item S n) → Sub p q → SoundItem S n p x → SoundItem S n q x
  unfolding SoundItem
  sound_wider zero p q e w h = λ c k. w c (h c k)
  sound_wider (suc n) p q b w h = record { within = λ c k. w c (h.within c k); fine = h.fine; count = h.count; each = h.each; apart = h.apart }

  module _ (W : Laws S) (T : Steps S) where
    -- two halves
    two_shape : (n : ℕ) (l : S.Line) (x : Item S n) (ls bs : List (Item S n)) → length ls ≡ 1 → length bs ≡ 1
        → All (λ y. half S n (right l) y ≡ []) ls → All (λ y. half S n (left l) y ≡ []) bs
        → All (λ y. length (half S n (left l) y) ≡ 1) ls → All (λ y. length (half S n (right l) y) ≡ 1) bs → Shape n (ls ++ bs)
    unfolding All
    two_shape n l x [] bs h k p q r s = absurd (omega arith)
    two_shape n l x (a ∷ a' ∷ ls) bs h k p q r s = absurd (omega arith)
    two_shape n l x (a ∷ []) [] h k p q r s = absurd (omega arith)
    two_shape n l x (a ∷ []) (b ∷ b' ∷ bs) h k p q r s = absurd (omega arith)
    two_shape n l x (a ∷ []) (b ∷ []) h k p q r s = two l a b p.0 q.0 r.0 s.0

    sound_if : (n : ℕ) (p q : S.Poly) (l : List (Item S n)) → Sub q p → ((c : S.Cell) → S.has q c ≡ true → S.Fine q) → Count S l → SoundItems S n q l → All (SoundItem S (suc n) p) (branch_if S q l)
    unfolding All SoundItem item_has
    sound_if n p q [] w f m r = tt
    sound_if n p q (x ∷ l) w f m r = let g = sound_cell S W n q x r.each.0 in (record { within = w; fine = f g.0 g.1; count = m; each = r.each; apart = r.apart }, tt)

    sound_whole : (n : ℕ) (p : S.Poly) (l : List (Item S n)) → S.Fine p → Count S l → SoundItems S n p l → All (SoundItem S (suc n) p) (record { poly = p; child = l } ∷ [])
    unfolding All SoundItem item_has
    sound_whole n p l f m r = (record { within = λ c k. k; fine = f; count = m; each = r.each; apart = r.apart }, tt)

    halves_good : (n : ℕ) (p : S.Poly) (items : List (Item S n)) (l : S.Line) → S.Fine p → SoundItems S n p items → FitAt S n l items → Good n p (halves S n l (record { poly = p; child = items }))
    halves_good n p items l fine r f =
        let b : Item S (suc n) = record { poly = p; child = items } in
        record {
          row = record {
            each = all_append (SoundItem S (suc n) p) (half S (suc n) (left l) b) (half S (suc n) (right l) b) (half_good (left l) f.lefts) (half_good (right l) f.rights);
            apart = pairs_append (Apart S (suc n)) (half S (suc n) (left l) b) (half S (suc n) (right l) b)
                (pairs_one (Apart S (suc n)) (half S (suc n) (left l) b) (half_one S (suc n) (left l) b)) (pairs_one (Apart S (suc n)) (half S (suc n) (right l) b) (half_one S (suc n) (right l) b))
                (apart_sides S W (suc n) l b b);
          };
          shape = two_shape (suc n) l b (half S (suc n) (left l) b) (half S (suc n) (right l) b) (single (left l) f.lefts) (single (right l) f.rights)
              (none_right S (suc n) l b) (none_left S (suc n) l b) (again S (suc n) (left l) b) (again S (suc n) (right l) b);
        }
      where
        half_good : (s : Side S.Line) → Count S (half_items S n s items) → All (SoundItem S (suc n) p) (half S (suc n) s (record { poly = p; child = items }))
        half_good s m = unfold half in sound_if n p (S.clip s p) (half_items S n s items) (W.clip_old s p) (λ c. W.clip_fine s p c fine) m (row_half S W n s p items r)

        single : (s : Side S.Line) → Count S (half_items S n s items) → length (half S (suc n) s (record { poly = p; child = items })) ≡ 1
        single s m = unfold half in length_branch_if S (S.clip s p) (half_items S n s items) m.0

    -- a split node is sound, if its line fits where it has one too many
    pub split_good : (n : ℕ) (p : S.Poly) (items : List (Item S n)) → S.Fine p → SoundItems S n p items → 1 ≤ length items → (S.most < length items → FitAt S n (line_of S n items) items) → Good n p (split S n p items)
    unfolding split
    split_good n p items fine r o f = go (leb (length items) S.most) refl
      where
        whole : Item S (suc n)
        whole = record { poly = p; child = items }

        go : (b : Bool) → leb (length items) S.most ≡ b → Good n p (cond b (whole ∷ []) (halves S n (line_of S n items) whole))
        go true h =
            let m = leb-true (length items) S.most h in
            record { row = record { each = sound_whole n p items fine (o, m) r; apart = pairs_one (Apart S (suc n)) (whole ∷ []) (omega arith) }; shape = one whole }
        go false h = let m = leb-false (length items) S.most h in halves_good n p items (line_of S n items) fine r (f (omega arith))

    -- one level up
    abbrev pub Clear : (n : ℕ) → S.Poly → Item S (suc n) → Type 0
    Clear n g b = (d : S.Cell) → S.has b.poly d ≡ true → S.has g d ≡ true → ⊥

    inside_got : (n : ℕ) (g : S.Poly) (got : List (Item S (suc n))) → All (SoundItem S (suc n) g) got → All (λ y. Sub y.poly g) got
    inside_got n g got h = all_map (SoundItem S (suc n) g) (λ y. Sub y.poly g) got (λ y k. unfold SoundItem item_has in k.within) h

    clear_got : (n : ℕ) (g : S.Poly) (l got : List (Item S (suc n))) → All (Clear n g) l → All (λ y. Sub y.poly g) got → Across (Apart S (suc n)) l got
    unfolding item_has
    clear_got n g l got h k =
        all_map (Clear n g) (λ b. All (Apart S (suc n) b) got) l
        (λ b i. all_map (λ y. Sub y.poly g) (Apart S (suc n) b) got (λ y w c u v. i c u (w c v)) k) h

    clear_got_2 : (n : ℕ) (g : S.Poly) (got l : List (Item S (suc n))) → All (Clear n g) l → All (λ y. Sub y.poly g) got → Across (Apart S (suc n)) got l
    unfolding item_has
    clear_got_2 n g got l h k =
        all_map (λ y. Sub y.poly g) (λ y. All (Apart S (suc n) y) l) got
        (λ y w. all_map (Clear n g) (Apart S (suc n) y) l (λ b i c u v. i c v (w c u)) h) k

    across_append : {A : Type 0} (R : A → A → Type 0) (l m k : List A) → Across R l m → Across R l k → Across R l (m ++ k)
    unfolding All
    across_append R [] m k h i = tt
    across_append R (a ∷ l) m k h i = (all_append (R a) m k h.0 i.0, across_append R l m k h.1 i.1)

    -- the branches of a node with the chosen one replaced are sound
    pub replaced_row : (n : ℕ) (p : S.Poly) (ch : Chosen S.Poly (Item S n)) (got : List (Item S (suc n))) (bs : List (Item S (suc n))) (c : S.Cell)
        → SoundItems S (suc n) p bs → Chose S p bs c ch → SoundItems S (suc n) ch.grown got → SoundItems S (suc n) p (ch.before ++ (got ++ ch.after))
    replaced_row n p ch got bs c r k g =
        let r' : SoundItems S (suc n) p (ch.before ++ (ch.old ∷ ch.after)) = subst (λ (l : List (Item S (suc n))). SoundItems S (suc n) p l) k.row r in
        let b = ch.before in let a = ch.after in
        let e_b = all_first (SoundItem S (suc n) p) b (ch.old ∷ a) r'.each in
        let e_a : All (SoundItem S (suc n) p) a = all_tail (SoundItem S (suc n) p) ch.old a (all_second (SoundItem S (suc n) p) b (ch.old ∷ a) r'.each) in
        let e_g = all_map (SoundItem S (suc n) ch.grown) (SoundItem S (suc n) p) got (λ y. sound_wider (suc n) ch.grown p y k.inside) g.each in
        let q = pairs_parts (Apart S (suc n)) b (ch.old ∷ a) r'.apart in
        let p_a : Pairs (Apart S (suc n)) a = pairs_tail (Apart S (suc n)) ch.old a q.1 in
        let x_ba : Across (Apart S (suc n)) b a = all_map (λ y. All (Apart S (suc n) y) (ch.old ∷ a)) (λ y. All (Apart S (suc n) y) a) b (λ y. all_tail (Apart S (suc n) y) ch.old a) q.2 in
        let c_b = all_first (Clear n ch.grown) b a k.clear in
        let c_a = all_second (Clear n ch.grown) b a k.clear in
        let w = inside_got n ch.grown got g.each in
        record {
          each = all_append (SoundItem S (suc n) p) b (got ++ a) e_b (all_append (SoundItem S (suc n) p) got a e_g e_a);
          apart = pairs_append (Apart S (suc n)) b (got ++ a) q.0
              (pairs_append (Apart S (suc n)) got a g.apart p_a (clear_got_2 n ch.grown got a c_a w))
              (across_append (Apart S (suc n)) b got a (clear_got n ch.grown b got c_b w) x_ba);
        }

    length_half_items_le : (n : ℕ) (s : Side S.Line) (l : List (Item S n)) → length (half_items S n s l) ≤ length l
    length_half_items_le n s l = length_flat_map (half S n s) l (half_one S n s)

    -- how many of a row are on a side, with one of two gone
    around : (n : ℕ) (s : Side S.Line) (b a : List (Item S n)) (x y : Item S n) → length (half S n s x) + length (half S n s y) ≡ 1
        → (1 ≤ length (half_items S n s (b ++ ((x ∷ y ∷ []) ++ a)))) × (length (half_items S n s (b ++ ((x ∷ y ∷ []) ++ a))) ≤ suc (length b + length a))
    unfolding flat_map
    around n s b a x y h =
        let i = length_half_items_le n s b in let j = length_half_items_le n s a in
        simp (flat_map_append, length-append) (omega arith)

    -- the line of the split below fits
    pub below_fits : (n : ℕ) (b got a : List (Item S n)) → Shape n got → length b + suc (length a) ≤ S.most → S.most < length (b ++ (got ++ a)) → (l : S.Line) × FitAt S n l (b ++ (got ++ a))
    below_fits n b _ a (one x) m o = absurd (let e = length-append b (x ∷ a) in omega arith)
    below_fits n b _ a (two l x y p q r s) m o =
        let u = around n (left l) b a x y (rw q (omega arith)) in
        let v = around n (right l) b a x y (rw p (omega arith)) in
        (l, record { lefts = (u.0, omega arith); rights = (v.0, omega arith) })
