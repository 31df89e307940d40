-- Insertion below a node: what takes its place is sound.
use Prim.Native.Nat.{ℕ, zero, suc, ◌+◌, ◌<◌, ◌≤◌}
use mathlib.Core.Bool.{true, false}
use mathlib.Core.Path.{◌≡◌, ap, ◌∙◌, subst}
use mathlib.Core.List.{List, [], ◌∷◌, ◌++◌, map, flat_map}
use mathlib.Core.Option.{some}
use lib.ListN.{length, length-append}
use native.Mathlib.Omega.{arith}
use Rattle.tree.specs.Lists.{All, Pairs}
use Rattle.tree.specs.Space.{Space, Chosen}
use Rattle.tree.specs.Nodes.{EntryOf, Item, item_has, held}
use Rattle.tree.specs.Sound.{Apart, Count, SoundItem, SoundItems}
use Rattle.tree.specs.Split.{split}
use Rattle.tree.specs.Insert.{insert_at}
use Rattle.tree.proofs.Lists.{all_append, all_second, all_map, all_flat_map, pairs_append, flat_map_all, all_head, all_of_map}
use Rattle.tree.proofs.Laws.{Laws, Chose, Steps}
use Rattle.tree.proofs.Fits.{line_fits, leaf_line_fits}
use Rattle.tree.proofs.Keeps.{Good, Shape, one, two, sound_wider, split_good, replaced_row, below_fits}
use Rattle.tree.proofs.InsertEntries.{step, leaf_step, held_zero}

module _ (S : Space) where
  -- No entry has the cell of e.
  abbrev pub Fresh : EntryOf S → List (EntryOf S) → Type 0
  Fresh e l = All (λ f. S.same f.cell e.cell ≡ false) l

  module _ (W : Laws S) (T : Steps S) where
    -- At a leaf: the entries with the new one are sound.
    apart_new : (f e : EntryOf S) → S.same f.cell e.cell ≡ false → Apart S zero f e
    unfolding item_has
    apart_new f e h c u v =
        let a = W.same_is f.cell c u in let b = W.same_is e.cell c v in
        let t : S.same f.cell e.cell ≡ true = rw (a, b) (W.same_self c) in
        let z : ◌≡◌ {A = ℕ} 0 1 = cc in absurd (omega arith)

    pub leaf_row : (p : S.Poly) (es : List (EntryOf S)) (e : EntryOf S) → SoundItems S zero p es → S.has p e.cell ≡ true → Fresh e es → SoundItems S zero p (es ++ (e ∷ []))
    unfolding All Pairs SoundItem item_has
    leaf_row p es e r i f = record {
      each = all_append (SoundItem S zero p) es (e ∷ []) r.each ((λ c k. subst (λ d. S.has p d ≡ true) (W.same_is e.cell c k) i), tt);
      apart = pairs_append (Apart S zero) es (e ∷ []) r.apart (tt, tt) (all_map (λ g. S.same g.cell e.cell ≡ false) (λ g. All (Apart S zero g) (e ∷ [])) es (λ g k. (apart_new g e k, tt)) f);
    }

    leaf_good : (p : S.Poly) (es : List (EntryOf S)) (e : EntryOf S) → S.Fine p → SoundItems S zero p es → Count S es → S.has p e.cell ≡ true → Fresh e es → Good S zero p (split S zero p (es ++ (e ∷ [])))
    leaf_good p es e fine r m i f =
        let row = leaf_row p es e r i f in
        let a = length-append es (e ∷ []) in
        let b = m.1 in
        split_good S W T zero p (es ++ (e ∷ [])) fine row (omega arith) (λ (o : S.most < length (es ++ (e ∷ []))). leaf_line_fits S T (es ++ (e ∷ [])) (omega arith) row.apart)

    -- entries lie in the polygon, so in the grid
    pub held_in : (n : ℕ) (p : S.Poly) (x : Item S n) → SoundItem S n p x → All (λ e. S.has p e.cell ≡ true) (held S n x)
    unfolding held SoundItem item_has All
    held_in zero p e h = (h e.cell (W.same_self e.cell), tt)
    held_in (suc n) p b h =
        all_flat_map (λ e. S.has p e.cell ≡ true) (held S n) b.child
        (all_map (SoundItem S n b.poly) (λ x. All (λ e. S.has p e.cell ≡ true) (held S n x)) b.child
        (λ x o. all_map (λ e. S.has b.poly e.cell ≡ true) (λ e. S.has p e.cell ≡ true) (held S n x) (λ e. h.within e.cell) (held_in n b.poly x o)) h.each)

    pub all_real : (n : ℕ) (p : S.Poly) (l : List (Item S n)) → S.Fine p → All (SoundItem S n p) l → All (λ g. All (λ e. S.Real e.cell) g) (map (held S n) l)
    all_real n p l f h =
        all_of_map (λ g. All (λ e. S.Real e.cell) g) (held S n) l
        (all_map (SoundItem S n p) (λ x. All (λ e. S.Real e.cell) (held S n x)) l (λ x o. all_map (λ e. S.has p e.cell ≡ true) (λ e. S.Real e.cell) (held S n x) (λ e. W.fine_real p e.cell f) (held_in n p x o)) h)

    -- At a routing node: the branches with those from below are sound, and so is what their split gives.
    node_good : (n : ℕ) (p : S.Poly) (bs : List (Item S (suc n))) (c : S.Cell) (ch : Chosen S.Poly (Item S n)) (sub : List (Item S (suc n)))
        → S.Fine p → SoundItems S (suc n) p bs → Count S bs → Chose S p bs c ch → Good S n ch.grown sub → Good S (suc n) p (split S (suc n) p (ch.before ++ (sub ++ ch.after)))
    node_good n p bs c ch sub fine r m k g =
        let row = replaced_row S W T n p ch sub bs c r k g.row in
        let len : length bs ≡ length ch.before + suc (length ch.after) = ap length k.row ∙ length-append ch.before (ch.old ∷ ch.after) in
        let most = m.1 in
        split_good S W T (suc n) p (ch.before ++ (sub ++ ch.after)) fine row (nonempty ch.before ch.after sub g.shape)
        (λ (o : S.most < length (ch.before ++ (sub ++ ch.after))).
        let f = below_fits S W T (suc n) ch.before sub ch.after g.shape (omega arith) o in
        line_fits S T n (ch.before ++ (sub ++ ch.after)) f.0 (all_real (suc n) p (ch.before ++ (sub ++ ch.after)) fine row.each) f.1)
      where
        nonempty : (b a l : List (Item S (suc n))) → Shape S (suc n) l → 1 ≤ length (b ++ (l ++ a))
        nonempty b a _ (one x) = let e = length-append b (x ∷ a) in omega arith
        nonempty b a _ (two l x y p q u v) = let e = length-append b (x ∷ y ∷ a) in omega arith

    pub chose_at : (n : ℕ) (p : S.Poly) (bs : List (Item S (suc n))) (e : EntryOf S) (ch : Chosen S.Poly (Item S n)) → S.choose p bs e.cell ≡ some ch → S.Fine p → SoundItems S (suc n) p bs → S.has p e.cell ≡ true → Chose S p bs e.cell ch
    unfolding SoundItem item_has
    chose_at n p bs e ch h fine r i = T.chosen p bs e.cell ch h fine i
        (all_map (SoundItem S (suc n) p) (λ b. S.Fine b.poly) bs (λ b k. k.fine) r.each)
        (all_map (SoundItem S (suc n) p) (λ b. (d : S.Cell) → S.has b.poly d ≡ true → S.has p d ≡ true) bs (λ b k. k.within) r.each)
        r.apart

    -- the same facts one level down
    pub down : (n : ℕ) (p : S.Poly) (bs : List (Item S (suc n))) (e : EntryOf S) (ch : Chosen S.Poly (Item S n)) → Chose S p bs e.cell ch → SoundItems S (suc n) p bs → Fresh e (flat_map (held S (suc n)) bs)
        → SoundItems S n ch.grown ch.old.child × Count S ch.old.child × Fresh e (flat_map (held S n) ch.old.child)
    unfolding SoundItem held
    down n p bs e ch k r f =
        let each : All (SoundItem S (suc n) p) (ch.before ++ (ch.old ∷ ch.after)) = subst (λ (l : List (Item S (suc n))). All (SoundItem S (suc n) p) l) k.row r.each in
        let o = all_head (SoundItem S (suc n) p) ch.old ch.after (all_second (SoundItem S (suc n) p) ch.before (ch.old ∷ ch.after) each) in
        let fs : All (λ b. All (λ g. S.same g.cell e.cell ≡ false) (held S (suc n) b)) (ch.before ++ (ch.old ∷ ch.after)) = subst (λ (l : List (Item S (suc n))). All (λ b. All (λ g. S.same g.cell e.cell ≡ false) (held S (suc n) b)) l) k.row (flat_map_all (λ g. S.same g.cell e.cell ≡ false) (held S (suc n)) bs f) in (
          record { each = all_map (SoundItem S n ch.old.poly) (SoundItem S n ch.grown) ch.old.child (λ x. sound_wider S n ch.old.poly ch.grown x k.keeps) o.each; apart = o.apart },
          o.count,
          all_head (λ b. All (λ g. S.same g.cell e.cell ≡ false) (held S (suc n) b)) ch.old ch.after (all_second (λ b. All (λ g. S.same g.cell e.cell ≡ false) (held S (suc n) b)) ch.before (ch.old ∷ ch.after) fs),
        )

    -- For a cell that is not held, in the polygon p of a sound node: the one or two branches are sound within p.
    pub insert_good : (n : ℕ) (p : S.Poly) (items : List (Item S n)) (e : EntryOf S) (got : List (Item S (suc n))) → insert_at S n p items e ≡ some got
        → S.Fine p → SoundItems S n p items → Count S items → S.has p e.cell ≡ true → Fresh e (flat_map (held S n) items) → Good S n p got
    insert_good zero p es e got h fine r m i f =
        rw (leaf_step S p es e got h) (leaf_good p es e fine r m i (rw (held_zero S es) at f))
    insert_good (suc n) p bs e got h fine r m i f =
        let s = step S n p bs e got h in
        let k = chose_at n p bs e s.ch s.chose fine r i in
        let d = down n p bs e s.ch k r f in
        rw s.gives (node_good n p bs e.cell s.ch s.sub fine r m k (insert_good n s.ch.grown s.ch.old.child e s.sub s.below k.fine d.0 d.1 k.cell d.2))
