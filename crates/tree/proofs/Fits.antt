-- A line fits a node: counted by the items that are left, or by the entries that branches hold.
use Prim.Native.Nat.{ℕ, zero, suc, ◌+◌, ◌≤◌}
use mathlib.Core.Bool.{Bool, true, false, cond}
use mathlib.Core.Path.{◌≡◌, refl, ap, ◌∙◌}
use mathlib.Core.List.{List, [], ◌∷◌, ◌++◌, append-nil, map, flat_map}
use lib.ListN.{length, length-append}
use native.Mathlib.Omega.{arith}
use Rattle.tree.specs.Lists.{keep, All, Pairs, not_empty}
use Rattle.tree.specs.Space.{Space, Side, left, right}
use Rattle.tree.specs.Nodes.{EntryOf, Item, on, entry_on, held}
use Rattle.tree.specs.Sound.{Apart, Count}
use Rattle.tree.specs.Split.{branch_if, half, half_items, line_of}
use Rattle.tree.proofs.Laws.{Fit, Steps, on_side}
use Rattle.tree.proofs.Lists.{all_any, all_flat_map}
use Rattle.tree.proofs.Halves.{half_one, held_half}

module _ (S : Space) where
  -- the two ways to count
  pub half_items_zero : (s : Side S.Line) (es : List (EntryOf S)) → half_items S zero s es ≡ keep (entry_on S s) es
  unfolding flat_map keep half
  half_items_zero s [] = refl
  half_items_zero s (e ∷ es) = go (on S s e.cell) (half_items_zero s es)
    where
      go : (b : Bool) → flat_map (half S zero s) es ≡ keep (entry_on S s) es → cond b (e ∷ []) [] ++ flat_map (half S zero s) es ≡ cond b (e ∷ keep (entry_on S s) es) (keep (entry_on S s) es)
      go true h = ap (λ x. e ∷ x) h
      go false h = h

  holds_if : (n : ℕ) (q : S.Poly) (l : List (Item S n)) → All (λ y. not_empty (held S n y) ≡ true) l → All (λ y. not_empty (held S (suc n) y) ≡ true) (branch_if S q l)
  unfolding All held flat_map
  holds_if n q [] h = tt
  holds_if n q (x ∷ l) h = (go (held S n x) h.0, tt)
    where
      go : (es : List (EntryOf S)) → not_empty es ≡ true → not_empty (es ++ flat_map (held S n) l) ≡ true
      go [] k = let z : ◌≡◌ {A = ℕ} 0 1 = cc in absurd (omega arith)
      go (e ∷ es) k = refl

  pub half_holds : (n : ℕ) (s : Side S.Line) (x : Item S n) → All (λ y. not_empty (held S n y) ≡ true) (half S n s x)
  unfolding half held All
  half_holds zero s e = go (on S s e.cell)
    where
      go : (b : Bool) → All (λ y. not_empty (held S zero y) ≡ true) (cond b (e ∷ []) [])
      go true = (refl, tt)
      go false = tt
  half_holds (suc n) s b = holds_if n (S.clip s b.poly) (flat_map (half S n s) b.child) (all_flat_map (λ y. not_empty (held S n y) ≡ true) (half S n s) b.child (all_any (λ x. All (λ y. not_empty (held S n y) ≡ true) (half S n s x)) b.child (half_holds n s)))

  count_one : (n : ℕ) (l : List (Item S n)) → length l ≤ 1 → All (λ y. not_empty (held S n y) ≡ true) l → length l ≡ cond (not_empty (flat_map (held S n) l)) 1 0
  unfolding All flat_map
  count_one n [] o h = refl
  count_one n (x ∷ []) o h = rw (append-nil (held S n x), h.0)
  count_one n (x ∷ y ∷ l) o h = absurd (omega arith)

  pub length_half : (n : ℕ) (s : Side S.Line) (x : Item S n) → length (half S n s x) ≡ cond (on_side S s (held S n x)) 1 0
  length_half n s x = count_one n (half S n s x) (half_one S n s x) (half_holds n s x) ∙ ap (λ es. cond (not_empty es) 1 0) (held_half S n s x)

  pub length_half_items : (n : ℕ) (s : Side S.Line) (l : List (Item S n)) → length (half_items S n s l) ≡ length (keep (on_side S s) (map (held S n) l))
  unfolding flat_map keep
  length_half_items n s [] = refl
  length_half_items n s (x ∷ l) = length-append (half S n s x) (flat_map (half S n s) l) ∙ go (length_half_items n s l) (on_side S s (held S n x)) (length_half n s x)
    where
      go : length (flat_map (half S n s) l) ≡ length (keep (on_side S s) (map (held S n) l)) → (b : Bool) → length (half S n s x) ≡ cond b 1 0
          → length (half S n s x) + length (flat_map (half S n s) l) ≡ length (cond b (held S n x ∷ keep (on_side S s) (map (held S n) l)) (keep (on_side S s) (map (held S n) l)))
      go ih true h = omega arith
      go ih false h = omega arith

  -- a line fits a node's items
  pub record FitAt (n : ℕ) (l : S.Line) (items : List (Item S n)) : Type 0 where
    pub lefts : Count S (half_items S n (left l) items)
    pub rights : Count S (half_items S n (right l) items)

  to_groups : (n : ℕ) (l : S.Line) (items : List (Item S n)) → FitAt n l items → Fit S (on_side S) l (map (held S n) items)
  to_groups n l items f = record { lefts = rw (← length_half_items n (left l) items) f.lefts; rights = rw (← length_half_items n (right l) items) f.rights }

  from_groups : (n : ℕ) (l : S.Line) (items : List (Item S n)) → Fit S (on_side S) l (map (held S n) items) → FitAt n l items
  from_groups n l items f = record { lefts = rw (length_half_items n (left l) items) f.lefts; rights = rw (length_half_items n (right l) items) f.rights }

  module _ (T : Steps S) where
    pub line_fits : (n : ℕ) (bs : List (Item S (suc n))) (l : S.Line) → All (λ g. All (λ e. S.Real e.cell) g) (map (held S (suc n)) bs) → FitAt (suc n) l bs → FitAt (suc n) (line_of S (suc n) bs) bs
    line_fits n bs l re f = from_groups (suc n) (S.node_line (map (held S (suc n)) bs)) bs (T.node_fits (map (held S (suc n)) bs) l re (to_groups (suc n) l bs f))

    pub leaf_line_fits : (es : List (Item S zero)) → length es ≡ suc S.most → Pairs (Apart S zero) es → FitAt zero (line_of S zero es) es
    leaf_line_fits es m h =
        let f = T.leaf_fits es m h in
        record { lefts = rw (half_items_zero (left (S.leaf_line es)) es) f.lefts; rights = rw (half_items_zero (right (S.leaf_line es)) es) f.rights }
