-- Insertion below a node adds the one entry: every test is passed by as many as before, and by the new entry.
use Prim.Native.Nat.{ℕ, zero, suc, ◌+◌}
use mathlib.Core.Bool.{Bool, true, false, not, cond}
use mathlib.Core.Path.{◌≡◌, refl, sym, ap, ◌∙◌}
use mathlib.Core.List.{List, [], ◌∷◌, ◌++◌, append-nil, flat_map}
use mathlib.Core.Option.{some}
use lib.ListN.{length}
use lib.Dec.{leb}
use native.Mathlib.Omega.{arith}
use Rattle.polygons.proofs.ListLaws.{flat_map_append}
use Rattle.tree.specs.Lists.{keep, count_of}
use Rattle.tree.specs.Space.{Space, left, right, Chosen}
use Rattle.tree.specs.Nodes.{EntryOf, Item, entry_on, held}
use Rattle.tree.specs.Split.{half, line_of, halves, split}
use Rattle.tree.specs.Insert.{insert_at}
use Rattle.tree.proofs.Lists.{flat_map_single, all_any}
use Rattle.tree.proofs.Laws.{Steps}
use Rattle.tree.proofs.Halves.{held_half}
use Rattle.tree.proofs.Counts.{count_of_append}
use Rattle.tree.proofs.Any.{bind_some}

module _ (S : Space) where
  pub held_zero : (es : List (EntryOf S)) → flat_map (held S zero) es ≡ es
  unfolding held
  held_zero es = flat_map_single (held S zero) es (all_any _ es (λ a. refl))

  -- the entries: those before and the new one
  pub count_of_sides : (q : EntryOf S → Bool) (l : S.Line) (es : List (EntryOf S)) → count_of q (keep (entry_on S (left l)) es) + count_of q (keep (entry_on S (right l)) es) ≡ count_of q es
  unfolding keep
  count_of_sides q l [] = omega arith
  count_of_sides q l (e ∷ es) = go (S.below l e.cell) (q e) refl (count_of_sides q l es)
    where
      go : (b t : Bool) → q e ≡ t → count_of q (keep (entry_on S (left l)) es) + count_of q (keep (entry_on S (right l)) es) ≡ count_of q es
          → count_of q (cond b (e ∷ keep (entry_on S (left l)) es) (keep (entry_on S (left l)) es)) + count_of q (cond (not b) (e ∷ keep (entry_on S (right l)) es) (keep (entry_on S (right l)) es)) ≡ length (cond t (e ∷ keep q es) (keep q es))
      go true true h i = rw h (omega arith)
      go true false h i = rw h (omega arith)
      go false true h i = rw h (omega arith)
      go false false h i = rw h (omega arith)

  count_of_split : (n : ℕ) (p : S.Poly) (items : List (Item S n)) (q : EntryOf S → Bool) → count_of q (flat_map (held S (suc n)) (split S n p items)) ≡ count_of q (flat_map (held S n) items)
  unfolding split
  count_of_split n p items q = go (leb (length items) S.most)
    where
      whole : Item S (suc n)
      whole = record { poly = p; child = items }

      l : S.Line
      l = line_of S n items

      go : (b : Bool) → count_of q (flat_map (held S (suc n)) (cond b (whole ∷ []) (halves S n l whole))) ≡ count_of q (flat_map (held S n) items)
      go true = unfold flat_map held in ap (count_of q) (append-nil (flat_map (held S n) items))
      go false =
          ap (count_of q) (flat_map_append (held S (suc n)) (half S (suc n) (left l) whole) (half S (suc n) (right l) whole))
          ∙ count_of_append q (flat_map (held S (suc n)) (half S (suc n) (left l) whole)) (flat_map (held S (suc n)) (half S (suc n) (right l) whole))
          ∙ rw (held_half S (suc n) (left l) whole, held_half S (suc n) (right l) whole) (count_of_sides q l (held S (suc n) whole) ∙ unfold held in refl)

  node_adds : (n : ℕ) (p : S.Poly) (ch : Chosen S.Poly (Item S n)) (got : List (Item S (suc n))) (e : EntryOf S) (q : EntryOf S → Bool)
      → count_of q (flat_map (held S (suc n)) got) ≡ count_of q (flat_map (held S n) ch.old.child) + count_of q (e ∷ [])
      → count_of q (flat_map (held S (suc (suc n))) (split S (suc n) p (ch.before ++ (got ++ ch.after)))) ≡ count_of q (flat_map (held S (suc n)) (ch.before ++ (ch.old ∷ ch.after))) + count_of q (e ∷ [])
  node_adds n p ch got e q h =
      count_of_split (suc n) p (ch.before ++ (got ++ ch.after)) q
      ∙ simp (flat_map_append, count_of_append) (go h)
    where
      o : flat_map (held S (suc n)) (ch.old ∷ ch.after) ≡ flat_map (held S n) ch.old.child ++ flat_map (held S (suc n)) ch.after
      o = unfold flat_map held in refl

      go : count_of q (flat_map (held S (suc n)) got) ≡ count_of q (flat_map (held S n) ch.old.child) + count_of q (e ∷ [])
          → count_of q (flat_map (held S (suc n)) ch.before) + (count_of q (flat_map (held S (suc n)) got) + count_of q (flat_map (held S (suc n)) ch.after))
          ≡ count_of q (flat_map (held S (suc n)) ch.before) + count_of q (flat_map (held S (suc n)) (ch.old ∷ ch.after)) + count_of q (e ∷ [])
      go k = let a = count_of_append q (flat_map (held S n) ch.old.child) (flat_map (held S (suc n)) ch.after) in rw o (omega arith)

  -- what an accepted insertion at a routing node is made of
  pub record Step (n : ℕ) (p : S.Poly) (bs : List (Item S (suc n))) (e : EntryOf S) (got : List (Item S (suc (suc n)))) : Type 0 where
    pub ch : Chosen S.Poly (Item S n)
    pub sub : List (Item S (suc n))
    pub chose : S.choose p bs e.cell ≡ some ch
    pub below : insert_at S n ch.grown ch.old.child e ≡ some sub
    pub gives : got ≡ split S (suc n) p (ch.before ++ (sub ++ ch.after))

  pub step : (n : ℕ) (p : S.Poly) (bs : List (Item S (suc n))) (e : EntryOf S) (got : List (Item S (suc (suc n)))) → insert_at S (suc n) p bs e ≡ some got → Step n p bs e got
  unfolding insert_at
  step n p bs e got h =
      let f = bind_some (S.choose p bs e.cell) _ got h in
      let k = bind_some (insert_at S n f.0.grown f.0.old.child e) _ got f.2 in
      record { ch = f.0; sub = k.0; chose = f.1; below = k.1; gives = cc k.2 }

  pub leaf_step : (p : S.Poly) (es : List (EntryOf S)) (e : EntryOf S) (got : List (Item S (suc zero))) → insert_at S zero p es e ≡ some got → got ≡ split S zero p (es ++ (e ∷ []))
  unfolding insert_at
  leaf_step p es e got h = cc

  module _ (T : Steps S) where
    -- The entries of the branches that take the node's place: the old ones and the new one, in some order.
    pub insert_adds : (n : ℕ) (p : S.Poly) (items : List (Item S n)) (e : EntryOf S) (got : List (Item S (suc n))) → insert_at S n p items e ≡ some got
        → (q : EntryOf S → Bool) → count_of q (flat_map (held S (suc n)) got) ≡ count_of q (flat_map (held S n) items) + count_of q (e ∷ [])
    insert_adds zero p es e got h q =
        rw (leaf_step p es e got h, count_of_split zero p (es ++ (e ∷ [])) q, held_zero (es ++ (e ∷ [])), held_zero es) (count_of_append q es (e ∷ []))
    insert_adds (suc n) p bs e got h q =
        let s = step n p bs e got h in
        let ih = insert_adds n s.ch.grown s.ch.old.child e s.sub s.below q in
        ap (λ (l : List (Item S (suc (suc n)))). count_of q (flat_map (held S (suc (suc n))) l)) s.gives ∙ node_adds n p s.ch s.sub e q ih
        ∙ ap (λ (l : List (Item S (suc n))). count_of q (flat_map (held S (suc n)) l) + count_of q (e ∷ [])) (sym (T.chosen_row p bs e.cell s.ch s.chose))
