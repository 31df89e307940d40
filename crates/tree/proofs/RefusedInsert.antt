-- An insertion of a cell that is not held is refused by 7 exactly where step 2 refuses at a node on the way, by 8 exactly where the tree after would exceed N nodes, and by nothing else.
use Prim.Native.Nat.{ℕ, zero, suc, ◌<◌}
use mathlib.Core.Bool.{Bool, true, false, cond}
use mathlib.Core.Path.{◌≡◌, refl}
use mathlib.Core.List.{List, ◌++◌}
use mathlib.Core.Logic.{◌⊎◌, inl, inr}
use mathlib.Core.Option.{Option, none, some, bind}
use lib.Dec.{leb}
use native.Mathlib.Omega.{arith}
use borrow.Author.Tests.{leb-false}
use Rattle.tree.specs.Space.{Space, Chosen}
use Rattle.tree.specs.Nodes.{EntryOf, Item}
use Rattle.tree.specs.Root.{Root}
use Rattle.tree.specs.Tree.{Tree, Index, node_count}
use Rattle.tree.specs.Split.{split}
use Rattle.tree.specs.Insert.{Outcome, insert_at, refused, accepted, limited, insert_tree, insert}

module _ (S : Space) (e : EntryOf S) where
  -- Step 2 refuses at this node, or it goes on to a branch and refuses below.
  pub data Stuck : (n : ℕ) → S.Poly → List (Item S n) → Type 0 where
    here : (n : ℕ) (p : S.Poly) (bs : List (Item S (suc n))) → S.choose p bs e.cell ≡ none → Stuck (suc n) p bs
    below : (n : ℕ) (p : S.Poly) (bs : List (Item S (suc n))) (ch : Chosen S.Poly (Item S n)) → S.choose p bs e.cell ≡ some ch → Stuck n ch.grown ch.old.child → Stuck (suc n) p bs

  -- No branches come back only where step 2 refused on the way,
  pub none_stuck : (n : ℕ) (p : S.Poly) (items : List (Item S n)) → insert_at S n p items e ≡ none → Stuck n p items
  unfolding insert_at
  none_stuck zero p es h = let z : ◌≡◌ {A = ℕ} 0 1 = cc in absurd (omega arith)
  none_stuck (suc n) p bs h = go (S.choose p bs e.cell) refl (λ ch. none_stuck n ch.grown ch.old.child) h
    where
      inner : (ch : Chosen S.Poly (Item S n)) (m : Option (List (Item S (suc n)))) → bind m (λ got. some (split S (suc n) p (ch.before ++ (got ++ ch.after)))) ≡ none → m ≡ none
      inner ch none h = refl
      inner ch (some got) h = unfold bind in let z : ◌≡◌ {A = ℕ} 0 1 = cc in absurd (omega arith)

      go : (m : Option (Chosen S.Poly (Item S n))) → S.choose p bs e.cell ≡ m → ((ch : Chosen S.Poly (Item S n)) → insert_at S n ch.grown ch.old.child e ≡ none → Stuck n ch.grown ch.old.child)
          → bind m (λ ch. bind (insert_at S n ch.grown ch.old.child e) λ got. some (split S (suc n) p (ch.before ++ (got ++ ch.after)))) ≡ none → Stuck (suc n) p bs
      go none k f h = here n p bs k
      go (some ch) k f h = below n p bs ch k (f ch (inner ch (insert_at S n ch.grown ch.old.child e) (unfold bind in h)))

  -- and wherever it did.
  pub stuck_none : (n : ℕ) (p : S.Poly) (items : List (Item S n)) → Stuck n p items → insert_at S n p items e ≡ none
  unfolding insert_at bind
  stuck_none _ _ _ (here n p bs h) = rw h
  stuck_none _ _ _ (below n p bs ch h k) = rw (h, stuck_none n ch.grown ch.old.child k)

module _ (S : Space) (R : Root S) (N : ℕ) (i : Index S) (e : EntryOf S) where
  -- By 7: step 2 refused.
  pub refused_seven : insert S R N i e ≡ refused 7 → insert_tree S R i e ≡ none
  refused_seven h = go (insert_tree S R i e) h
    where
      kept : (t : Tree S) (b : Bool) → cond {A = Outcome S} b (accepted (some t)) (refused 8) ≡ refused 7 → some t ≡ none
      kept t true h = let z : ◌≡◌ {A = ℕ} 0 1 = cc in absurd (omega arith)
      kept t false h = let z : ◌≡◌ {A = ℕ} 8 7 = cc in absurd (omega arith)

      go : (m : Option (Tree S)) → limited S N m ≡ refused 7 → m ≡ none
      go none h = refl
      go (some t) h = kept t (leb (node_count S (some t)) N) h

  -- By 8: the tree after has more than N nodes.
  pub refused_eight : insert S R N i e ≡ refused 8 → (t : Tree S) × (insert_tree S R i e ≡ some t) × (N < node_count S (some t))
  refused_eight h = go (insert_tree S R i e) h
    where
      kept : (t : Tree S) (b : Bool) → leb (node_count S (some t)) N ≡ b → cond {A = Outcome S} b (accepted (some t)) (refused 8) ≡ refused 8 → N < node_count S (some t)
      kept t true k h = let z : ◌≡◌ {A = ℕ} 0 1 = cc in absurd (omega arith)
      kept t false k h = leb-false (node_count S (some t)) N k

      go : (m : Option (Tree S)) → limited S N m ≡ refused 8 → (t : Tree S) × (m ≡ some t) × (N < node_count S (some t))
      go none h = let z : ◌≡◌ {A = ℕ} 7 8 = cc in absurd (omega arith)
      go (some t) h = (t, refl, kept t (leb (node_count S (some t)) N) refl h)

  -- By no other number.
  pub refused_only : (k : ℕ) → insert S R N i e ≡ refused k → (k ≡ 7) ⊎ (k ≡ 8)
  refused_only k h = go (insert_tree S R i e) h
    where
      kept : (t : Tree S) (b : Bool) → cond {A = Outcome S} b (accepted (some t)) (refused 8) ≡ refused k → (k ≡ 7) ⊎ (k ≡ 8)
      kept t true h = let z : ◌≡◌ {A = ℕ} 0 1 = cc in absurd (omega arith)
      kept t false h = let z : k ≡ 8 = cc in inr z

      go : (m : Option (Tree S)) → limited S N m ≡ refused k → (k ≡ 7) ⊎ (k ≡ 8)
      go none h = let z : k ≡ 7 = cc in inl z
      go (some t) h = kept t (leb (node_count S (some t)) N) h
