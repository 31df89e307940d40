-- Nodes never fall during an insertion: what takes a node's place has at least as many nodes as were there, and one more
-- for each node that is split. So where parts run out on the way up, the tree after would exceed N nodes too; and where
-- fewer parts are free than nodes are split, it would, without counting: to refuse then is to refuse by 8.
use Prim.Native.Nat.{ℕ, zero, suc, ◌+◌, ◌<◌, ◌≤◌}
use mathlib.Core.Bool.{Bool, true, false, cond}
use mathlib.Core.Path.{◌≡◌, refl, ap, ◌∙◌}
use mathlib.Core.List.{List, [], ◌∷◌, ◌++◌, flat_map}
use mathlib.Core.Option.{some}
use lib.Dec.{leb}
use lib.ListN.{length}
use native.Mathlib.Omega.{arith}
use borrow.Author.Tests.{leb-false}
use Rattle.tree.specs.Lists.{total, All}
use Rattle.tree.specs.Space.{Space, left, right}
use Rattle.tree.specs.Nodes.{EntryOf, Item, held, nodes}
use Rattle.tree.specs.Sound.{Count, SoundItem, SoundItems}
use Rattle.tree.specs.Split.{branch_if, half, halves, line_of, split}
use Rattle.tree.specs.Plan.{Way, descend, row, few, build}
use Rattle.tree.proofs.Counts.{total_append}
use Rattle.tree.proofs.Lists.{all_map}
use Rattle.tree.proofs.Laws.{Laws, Steps}
use Rattle.tree.proofs.Sides.{nodes_halves, nodes_flat_map}
use Rattle.tree.proofs.Fits.{FitAt}
use Rattle.tree.proofs.InsertAt.{Fresh, chose_at, down}
use Rattle.tree.proofs.GoodWays.{GoodWay, way_fits}
use Rattle.tree.proofs.Ways.{descent, descend_leaf, sound_way}
use Rattle.tree.proofs.OnePass.{few_row}

module _ (S : Space) where
  -- How many nodes on the way are split.
  unfoldable pub splits : (n : ℕ) → Way S n → ℕ
  splits zero es = cond (few S zero es) 0 1
  splits (suc n) w = cond (few S (suc n) w) 0 1 + splits n w.below

  -- two halves, none of them empty
  nodes_two : (n : ℕ) (p q : S.Poly) (l m : List (Item S n)) → 1 ≤ length l → 1 ≤ length m
      → 2 + (total (nodes S n) l + total (nodes S n) m) ≤ total (nodes S (suc n)) (branch_if S p l) + total (nodes S (suc n)) (branch_if S q m)
  unfolding total nodes
  nodes_two n p q [] m h k = absurd (omega arith)
  nodes_two n p q (x ∷ l) [] h k = absurd (omega arith)
  nodes_two n p q (x ∷ l) (y ∷ m) h k = omega arith

  -- The halves of a node at a line that fits have a node more than it.
  nodes_fit : (n : ℕ) (l : S.Line) (p : S.Poly) (items : List (Item S n)) → FitAt S n l items
      → All (SoundItem S n p) items
      → 2 + total (nodes S n) items ≤ total (nodes S (suc n)) (halves S n l (record { poly = p; child = items }))
  unfolding half
  nodes_fit n l p items f h =
      let ls = flat_map (half S n (left l)) items in
      let rs = flat_map (half S n (right l)) items in
      let each =
      all_map (SoundItem S n p) (λ x. nodes S n x ≤ total (nodes S n) (half S n (left l) x) + total (nodes S n) (half S n (right l) x)) items (nodes_halves S n l p) h in
      let i = nodes_flat_map S n (half S n (left l)) (half S n (right l)) items each in
      let d = nodes_two n (S.clip (left l) p) (S.clip (right l) p) ls rs f.lefts.0 f.rights.0 in
      rw (total_append (nodes S (suc n)) (branch_if S (S.clip (left l) p) ls) (branch_if S (S.clip (right l) p) rs)) (omega arith)

  -- What takes a node's place has its nodes, and one more where it is split.
  split_more : (n : ℕ) (p : S.Poly) (items : List (Item S n)) → All (SoundItem S n p) items
      → (S.most < length items → FitAt S n (line_of S n items) items)
      → cond (leb (length items) S.most) 0 1 + (1 + total (nodes S n) items) ≤ total (nodes S (suc n)) (split S n p items)
  unfolding split
  split_more n p items h f = go (leb (length items) S.most) refl
    where
      whole : Item S (suc n)
      whole = record { poly = p; child = items }

      go : (b : Bool) → leb (length items) S.most ≡ b
          → cond b 0 1 + (1 + total (nodes S n) items) ≤ total (nodes S (suc n)) (cond b (whole ∷ []) (halves S n (line_of S n items) whole))
      go true e = unfold total nodes in omega arith
      go false e =
          let o = leb-false (length items) S.most e in
          let k = nodes_fit n (line_of S n items) p items (f (omega arith)) h in
          omega arith

  module _ (W : Laws S) (T : Steps S) where
    -- one node of the way
    build_more : (n : ℕ) (p : S.Poly) (w : Way S n) → GoodWay S n w → SoundItems S n p (row S n w)
        → cond (few S n w) 0 1 + (1 + total (nodes S n) (row S n w)) ≤ total (nodes S (suc n)) (build S n p w)
    build_more n p w g r = rw (few_row S n w) (split_more n p (row S n w) r.each (way_fits S n w g))

    -- The node and all below it, against the one or two branches that take its place.
    pub way_nodes : (n : ℕ) (p : S.Poly) (items : List (Item S n)) (e : EntryOf S) (w : Way S n)
        → descend S n p items e ≡ some w
        → S.Fine p → SoundItems S n p items → Count S items → S.has p e.cell ≡ true
        → Fresh S e (flat_map (held S n) items)
        → splits n w + (1 + total (nodes S n) items) ≤ total (nodes S (suc n)) (build S n p w)
    unfolding splits
    way_nodes zero p es e w h fine r m i f =
        let s = sound_way S W T zero p es e w h fine r m i f in
        let k = build_more zero p w s.way s.items in
        let leaf : row S zero w ≡ es ++ (e ∷ []) = unfold row in descend_leaf S p es e w h in
        let a : total (nodes S zero) (row S zero w) ≡ total (nodes S zero) es + total (nodes S zero) (e ∷ []) =
        ap (total (nodes S zero)) leaf ∙ total_append (nodes S zero) es (e ∷ []) in
        omega arith
    way_nodes (suc n) p bs e w h fine r m i f =
        let d = descent S n p bs e w h in
        let ch = d.ch in
        let k = chose_at S W T n p bs e ch d.chose fine r i in
        let b = down S W T n p bs e ch k r f in
        let ih =
        way_nodes n ch.grown ch.old.child e d.under d.next k.fine b.0 b.1 k.cell b.2 in
        let s = sound_way S W T (suc n) p bs e w h fine r m i f in
        let here = build_more (suc n) p w s.way s.items in
        let old : total (nodes S (suc n)) bs ≡ total (nodes S (suc n)) ch.before + (nodes S (suc n) ch.old + total (nodes S (suc n)) ch.after) =
        ap (total (nodes S (suc n))) k.row ∙ total_append (nodes S (suc n)) ch.before (ch.old ∷ ch.after)
        ∙ unfold total in refl in
        let one : nodes S (suc n) ch.old ≡ 1 + total (nodes S n) ch.old.child = unfold nodes in refl in
        let got = build S n ch.grown d.under in
        let turn : Way S (suc n) =
        record { before = ch.before; grown = ch.grown; below = d.under; after = ch.after } in
        let turned : row S (suc n) turn ≡ ch.before ++ (got ++ ch.after) = unfold row in refl in
        let a = total_append (nodes S (suc n)) ch.before (got ++ ch.after) in
        let g = total_append (nodes S (suc n)) got ch.after in
        let new : total (nodes S (suc n)) (row S (suc n) w) ≡ total (nodes S (suc n)) (ch.before ++ (got ++ ch.after)) =
        ap (λ (v : Way S (suc n)). total (nodes S (suc n)) (row S (suc n) v)) d.is
        ∙ ap (total (nodes S (suc n))) turned in
        let below : splits n w.below ≡ splits n d.under =
        ap (λ (v : Way S (suc n)). splits n v.below) d.is in
        omega arith
