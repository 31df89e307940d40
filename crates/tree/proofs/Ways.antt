-- The way of an insertion: what soundness gives at each of its nodes, for the plan of its splits.
use Prim.Native.Nat.{ℕ, zero, suc, ◌+◌, ◌<◌, ◌≤◌}
use mathlib.Core.Bool.{Bool, true}
use mathlib.Core.Path.{◌≡◌, sym, ap, ◌∙◌}
use mathlib.Core.List.{List, [], ◌∷◌, ◌++◌, map, flat_map}
use mathlib.Core.Option.{some, bind}
use lib.ListN.{length, length-append}
use native.Mathlib.Omega.{arith}
use Rattle.polygons.proofs.ListLaws.{flat_map_append}
use Rattle.tree.specs.Lists.{All, count_of, Bag}
use Rattle.tree.specs.Space.{Space, Chosen}
use Rattle.tree.specs.Nodes.{EntryOf, Item, item_has, held}
use Rattle.tree.specs.Sound.{Count, SoundItem, SoundItems}
use Rattle.tree.specs.Split.{split, line_of}
use Rattle.tree.specs.Insert.{insert_at}
use Rattle.tree.specs.Plan.{Way, descend, row, build}
use Rattle.tree.specs.Pass.{way_held}
use Rattle.tree.proofs.Lists.{all_map, all_of_map}
use Rattle.tree.proofs.Counts.{count_of_append}
use Rattle.tree.proofs.Any.{bind_some}
use Rattle.tree.proofs.Laws.{Laws, Chose, Steps}
use Rattle.tree.proofs.Keeps.{Good, replaced_row, below_fits}
use Rattle.tree.proofs.Fits.{FitAt, line_fits, leaf_line_fits}
use Rattle.tree.proofs.OnePass.{insert_is}
use Rattle.tree.proofs.InsertAt.{Fresh, insert_good, leaf_row, chose_at, down, all_real}
use Rattle.tree.proofs.InsertEntries.{held_zero}
use Rattle.tree.proofs.RemoveIndex.{held_some}
use Rattle.tree.proofs.GoodWays.{GoodWay}

module _ (S : Space) where
  -- One step of the descent taken apart.
  pub record Descent (n : ℕ) (p : S.Poly) (bs : List (Item S (suc n))) (e : EntryOf S) (w : Way S (suc n)) : Type 0 where
    pub ch : Chosen S.Poly (Item S n)
    pub chose : S.choose p bs e.cell ≡ some ch
    pub under : Way S n
    pub next : descend S n ch.grown ch.old.child e ≡ some under
    pub is : w ≡ record { before = ch.before; grown = ch.grown; below = under; after = ch.after }

  pub descent : (n : ℕ) (p : S.Poly) (bs : List (Item S (suc n))) (e : EntryOf S) (w : Way S (suc n)) → descend S (suc n) p bs e ≡ some w → Descent n p bs e w
  unfolding descend
  descent n p bs e w h =
      let a = bind_some (S.choose p bs e.cell) _ w h in
      let b = bind_some (descend S n a.0.grown a.0.old.child e) _ w a.2 in
      record { ch = a.0; chose = a.1; under = b.0; next = b.1; is = cc b.2 }

  pub descend_leaf : (p : S.Poly) (es : List (EntryOf S)) (e : EntryOf S) (w : Way S zero) → descend S zero p es e ≡ some w → w ≡ es ++ (e ∷ [])
  unfolding descend
  descend_leaf p es e w h = cc

  module _ (W : Laws S) (T : Steps S) where
    -- what soundness gives of a way
    pub record SoundWay (n : ℕ) (p : S.Poly) (w : Way S n) : Type 0 where
      pub way : GoodWay S n w
      pub items : SoundItems S n p (row S n w)
      pub good : Good S n p (build S n p w)

    built : (n : ℕ) (p : S.Poly) (items : List (Item S n)) (e : EntryOf S) (w : Way S n) → descend S n p items e ≡ some w → insert_at S n p items e ≡ some (build S n p w)
    unfolding bind
    built n p items e w h = insert_is S n p items e ∙ rw h

    entry_in_lem : (p : S.Poly) (e : EntryOf S) → SoundItem S zero p e → S.has p e.cell ≡ true
    unfolding SoundItem item_has
    entry_in_lem p e h = h e.cell (W.same_self e.cell)

    full_row : (n : ℕ) (p : S.Poly) (l : List (Item S n)) → All (SoundItem S n p) l → All (λ g. 1 ≤ length g) (map (held S n) l)
    full_row n p l h = all_of_map (λ g. 1 ≤ length g) (held S n) l (all_map (SoundItem S n p) (λ x. 1 ≤ length (held S n x)) l (λ x o. held_some S n p x o) h)

    leaf_way : (p : S.Poly) (es : List (EntryOf S)) → SoundItems S zero p es → S.Fine p → 1 ≤ length es → length es ≤ suc S.most → GoodWay S zero es
    unfolding GoodWay All
    leaf_way p es r fine x y = record {
      some = x;
      few = y;
      real = all_map (SoundItem S zero p) (λ e. S.Real e.cell) es (λ e o. W.fine_real p e.cell fine (entry_in_lem p e o)) r.each;
      apart = r.apart;
      fits = λ o. leaf_line_fits S T es (omega arith) r.apart;
    }

    leaf_items : (p : S.Poly) (es : List (EntryOf S)) → SoundItems S zero p es → SoundItems S zero p (row S zero es)
    unfolding row
    leaf_items p es r = r

    around : (n : ℕ) (ch : Chosen S.Poly (Item S n)) (e : EntryOf S) (u : Way S n) (q : EntryOf S → Bool) → count_of q (way_held S n u) ≡ count_of q (flat_map (held S n) ch.old.child ++ (e ∷ []))
        → count_of q (flat_map (held S (suc n)) ch.before) + (count_of q (way_held S n u) + count_of q (flat_map (held S (suc n)) ch.after))
        ≡ count_of q (flat_map (held S (suc n)) ch.before) + count_of q (flat_map (held S (suc n)) (ch.old ∷ ch.after)) + count_of q (e ∷ [])
    unfolding flat_map held
    around n ch e u q i =
        let a = count_of_append q (flat_map (held S n) ch.old.child) (e ∷ []) in
        let b = count_of_append q (flat_map (held S n) ch.old.child) (flat_map (held S (suc n)) ch.after) in
        omega arith

    abbrev turn : (n : ℕ) → Chosen S.Poly (Item S n) → Way S n → Way S (suc n)
    turn n ch u = record { before = ch.before; grown = ch.grown; below = u; after = ch.after }

    node_items : (n : ℕ) (p : S.Poly) (ch : Chosen S.Poly (Item S n)) (u : Way S n) (bs : List (Item S (suc n))) (c : S.Cell)
        → SoundItems S (suc n) p bs → Chose S p bs c ch → Good S n ch.grown (build S n ch.grown u) → SoundItems S (suc n) p (row S (suc n) (turn n ch u))
    unfolding row
    node_items n p ch u bs c r k g = replaced_row S W T n p ch (split S n ch.grown (row S n u)) bs c r k g.row

    node_fits : (n : ℕ) (p : S.Poly) (ch : Chosen S.Poly (Item S n)) (u : Way S n) → S.Fine p → length ch.before + suc (length ch.after) ≤ S.most
        → Good S n ch.grown (build S n ch.grown u) → SoundItems S (suc n) p (row S (suc n) (turn n ch u))
        → S.most < length (row S (suc n) (turn n ch u)) → FitAt S (suc n) (line_of S (suc n) (row S (suc n) (turn n ch u))) (row S (suc n) (turn n ch u))
    unfolding row
    node_fits n p ch u fine m g items o =
        let f = below_fits S W T (suc n) ch.before (build S n ch.grown u) ch.after g.shape m o in
        line_fits S T n (ch.before ++ (build S n ch.grown u ++ ch.after)) f.0 (all_real S W T (suc n) p (ch.before ++ (build S n ch.grown u ++ ch.after)) fine items.each) f.1

    node_way : (n : ℕ) (p : S.Poly) (ch : Chosen S.Poly (Item S n)) (u : Way S n) → S.Fine p → length ch.before + suc (length ch.after) ≤ S.most
        → GoodWay S n u → Good S n ch.grown (build S n ch.grown u) → SoundItems S (suc n) p (row S (suc n) (turn n ch u)) → GoodWay S (suc n) (turn n ch u)
    unfolding GoodWay
    node_way n p ch u fine m w g items = record {
      below = w;
      room = m;
      shape = g.shape;
      real = all_real S W T (suc n) p (row S (suc n) (turn n ch u)) fine items.each;
      full = full_row (suc n) p (row S (suc n) (turn n ch u)) items.each;
      fits = λ o. node_fits n p ch u fine m g items o;
    }

    -- For a cell that is not held, in the polygon p of a sound node.
    pub sound_way : (n : ℕ) (p : S.Poly) (items : List (Item S n)) (e : EntryOf S) (w : Way S n) → descend S n p items e ≡ some w
        → S.Fine p → SoundItems S n p items → Count S items → S.has p e.cell ≡ true → Fresh S e (flat_map (held S n) items) → SoundWay n p w
    sound_way zero p es e w h fine r m i f =
        let q = descend_leaf p es e w h in
        let g = insert_good S W T zero p es e (build S zero p w) (built zero p es e w h) fine r m i f in
        let s = leaf_row S W T p es e r i (rw (held_zero S es) at f) in
        let a = length-append es (e ∷ []) in
        let b = m.1 in
        record { way = rw q (leaf_way p (es ++ (e ∷ [])) s fine (omega arith) (omega arith)); items = rw q (leaf_items p (es ++ (e ∷ [])) s); good = g }
    sound_way (suc n) p bs e w h fine r m i f =
        let d = descent n p bs e w h in
        let k = chose_at S W T n p bs e d.ch d.chose fine r i in
        let b = down S W T n p bs e d.ch k r f in
        let s = sound_way n d.ch.grown d.ch.old.child e d.under d.next k.fine b.0 b.1 k.cell b.2 in
        let len : length bs ≡ length d.ch.before + suc (length d.ch.after) = ap length k.row ∙ length-append d.ch.before (d.ch.old ∷ d.ch.after) in
        let most = m.1 in
        let items = node_items n p d.ch d.under bs e.cell r k s.good in
        let way = node_way n p d.ch d.under fine (omega arith) s.way s.good items in
        record {
          way = rw d.is way;
          items = rw d.is items;
          good = insert_good S W T (suc n) p bs e (build S (suc n) p w) (built (suc n) p bs e w h) fine r m i f;
        }

    turn_entries : (n : ℕ) (ch : Chosen S.Poly (Item S n)) (e : EntryOf S) (u : Way S n) (q : EntryOf S → Bool) → count_of q (way_held S n u) ≡ count_of q (flat_map (held S n) ch.old.child ++ (e ∷ []))
        → count_of q (way_held S (suc n) (turn n ch u)) ≡ count_of q (flat_map (held S (suc n)) (ch.before ++ (ch.old ∷ ch.after)) ++ (e ∷ []))
    unfolding way_held
    turn_entries n ch e u q i = simp (flat_map_append, count_of_append) (around n ch e u q i)

    -- The entries below a way are those of the node before and the new one, in some order.
    pub way_entries : (n : ℕ) (p : S.Poly) (items : List (Item S n)) (e : EntryOf S) (w : Way S n) → descend S n p items e ≡ some w → Bag (way_held S n w) (flat_map (held S n) items ++ (e ∷ []))
    unfolding way_held
    way_entries zero p es e w h q = rw (descend_leaf p es e w h, held_zero S es)
    way_entries (suc n) p bs e w h q =
        let d = descent n p bs e w h in
        let i = way_entries n d.ch.grown d.ch.old.child e d.under d.next q in
        let k = T.chosen_row p bs e.cell d.ch d.chose in
        ap (λ (v : Way S (suc n)). count_of q (way_held S (suc n) v)) d.is ∙ turn_entries n d.ch e d.under q i
        ∙ ap (λ (l : List (Item S (suc n))). count_of q (flat_map (held S (suc n)) l ++ (e ∷ []))) (sym k)
