-- Insertion into the whole index: what is accepted is sound, has room, and holds the old entries and the new one.
use Prim.Native.Nat.{ℕ, zero, suc, ◌+◌, ◌≤◌}
use mathlib.Core.Bool.{Bool, true, false, cond}
use mathlib.Core.Path.{◌≡◌, refl, sym, subst, ◌∙◌}
use mathlib.Core.List.{List, [], ◌∷◌, flat_map, append-nil}
use mathlib.Core.Logic.{◌⊎◌, inl, inr}
use mathlib.Core.Option.{Option, none, some, bind, some-injective}
use lib.Dec.{leb}
use native.Mathlib.Omega.{arith}
use borrow.Author.Tests.{leb-true}
use Rattle.tree.specs.Lists.{keep, total, All, Pairs, count_of}
use Rattle.tree.specs.Space.{Space}
use Rattle.tree.specs.Nodes.{EntryOf, Item, item_has, held, nodes}
use Rattle.tree.specs.Sound.{SoundItem, SoundItems}
use Rattle.tree.specs.Root.{Root}
use Rattle.tree.specs.Tree.{Tree, Index, entries, node_count, SoundTree, Sound, height}
use Rattle.tree.specs.Insert.{Outcome, insert_at, rooted, refused, accepted, limited, insert_tree, insert}
use Rattle.tree.specs.Plan.{Way, descend, build}
use Rattle.tree.specs.Query.{of_cell, holds}
use Rattle.tree.proofs.Lists.{all_map}
use Rattle.tree.proofs.Laws.{Laws, Steps, RootLaws}
use Rattle.tree.proofs.Keeps.{Good, Shape, one, two, sound_wider}
use Rattle.tree.proofs.InsertAt.{Fresh, insert_good}
use Rattle.tree.proofs.Any.{bind_some, any_false}
use Rattle.tree.proofs.InsertEntries.{insert_adds}
use Rattle.tree.proofs.OnePass.{insert_is}
use Rattle.tree.proofs.NodesGrow.{splits, way_nodes}

module _ (S : Space) where
  rooted_entries : (n : ℕ) (p : S.Poly) (got : List (Item S (suc n))) → entries S (some (rooted S n p got)) ≡ flat_map (held S (suc n)) got
  unfolding flat_map held
  rooted_entries n p [] = refl
  rooted_entries n p (b ∷ []) = sym (append-nil (flat_map (held S n) b.child))
  rooted_entries n p (a ∷ b ∷ l) = refl

  rooted_nodes : (n : ℕ) (p : S.Poly) (got : List (Item S (suc n))) → total (nodes S (suc n)) got ≤ node_count S (some (rooted S n p got))
  unfolding total nodes
  rooted_nodes n p [] = omega arith
  rooted_nodes n p (b ∷ []) = omega arith
  rooted_nodes n p (a ∷ b ∷ l) = omega arith

  module _ (W : Laws S) (T : Steps S) (R : Root S) (X : RootLaws S R) (wide : 2 ≤ S.most) where
    rooted_sound : (n : ℕ) (p : S.Poly) (got : List (Item S (suc n))) → S.Fine p → R.One p → Good S n p got → SoundTree S R (rooted S n p got)
    unfolding All SoundItem item_has
    rooted_sound n p got fine o g = go got g.shape g.row
      where
        go : (l : List (Item S (suc n))) → Shape S (suc n) l → SoundItems S (suc n) p l → SoundTree S R (rooted S n p l)
        go _ (one b) r = record {
          fine = fine;
          one = o;
          count = r.each.0.count;
          items = record { each = all_map (SoundItem S n b.poly) (SoundItem S n p) b.child (λ x. sound_wider S n b.poly p x r.each.0.within) r.each.0.each; apart = r.each.0.apart };
        }
        go _ (two l a b u v x y) r = record { fine = fine; one = o; count = (omega arith, omega arith); items = r }

    leaf_sound : (e : EntryOf S) → S.Real e.cell → SoundTree S R (record { level = zero; root = R.leaf_of e.cell; items = e ∷ [] })
    unfolding All Pairs SoundItem item_has
    leaf_sound e on = record {
      fine = X.leaf_fine e.cell on;
      one = X.leaf_one e.cell;
      count = (omega arith, omega arith);
      items = record { each = (λ c k. subst (λ (d : S.Cell). S.has (R.leaf_of e.cell) d ≡ true) (W.same_is e.cell c k) (X.leaf_has e.cell), tt); apart = (tt, tt) };
    }

    -- What an accepted insertion below the root is made of.
    record Below (t : Tree S) (e : EntryOf S) (t' : Tree S) : Type 0 where
      got : List (Item S (suc t.level))
      inserted : insert_at S t.level (R.grow_root t.root e.cell) t.items e ≡ some got
      gives : t' ≡ rooted S t.level (R.grow_root t.root e.cell) got

    below : (t : Tree S) (e : EntryOf S) (t' : Tree S) → insert_tree S R (some t) e ≡ some t' → Below t e t'
    unfolding insert_tree
    below t e t' h =
        let i = bind_some (insert_at S t.level (R.grow_root t.root e.cell) t.items e) _ t' h in
        record { got = i.0; inserted = i.1; gives = cc i.2 }

    leaf_is : (e : EntryOf S) (t' : Tree S) → insert_tree S R none e ≡ some t' → t' ≡ record { level = zero; root = R.leaf_of e.cell; items = e ∷ [] }
    unfolding insert_tree
    leaf_is e t' h = cc

    grown_items_lem : (t : Tree S) (e : EntryOf S) → SoundTree S R t → SoundItems S t.level (R.grow_root t.root e.cell) t.items
    grown_items_lem t e s = record {
      each = all_map (SoundItem S t.level t.root) (SoundItem S t.level (R.grow_root t.root e.cell)) t.items (λ x. sound_wider S t.level t.root (R.grow_root t.root e.cell) x (X.grow_old t.root e.cell)) s.items.each;
      apart = s.items.apart;
    }

    fresh : (i : Index S) (e : EntryOf S) → holds S e.cell i ≡ false → Fresh S e (entries S i)
    fresh i e h = any_false (of_cell S e.cell) (entries S i) h

    -- Insertion of a cell that is not held into a sound index gives a sound one.
    pub insert_sound : (i : Index S) (e : EntryOf S) (t' : Tree S) → insert_tree S R i e ≡ some t' → Sound S R i → S.Real e.cell → holds S e.cell i ≡ false → SoundTree S R t'
    insert_sound none e t' h s on f = rw (leaf_is e t' h) (leaf_sound e on)
    insert_sound (some t) e t' h s on f =
        let b = below t e t' h in
        let fine = X.grow_fine t.root e.cell on s.fine in
        let good = insert_good S W T t.level (R.grow_root t.root e.cell) t.items e b.got b.inserted fine (grown_items_lem t e s) s.count (X.grow_has t.root e.cell s.one) (fresh (some t) e f) in
        rw b.gives (rooted_sound t.level (R.grow_root t.root e.cell) b.got fine (X.grow_one t.root e.cell s.one) good)

    -- Its entries are the old ones and the new one, in some order.
    pub insert_entries : (i : Index S) (e : EntryOf S) (t' : Tree S) → insert_tree S R i e ≡ some t' → (q : EntryOf S → Bool) → count_of q (entries S (some t')) ≡ count_of q (entries S i) + count_of q (e ∷ [])
    insert_entries none e t' h q = rw (leaf_is e t' h) (unfold flat_map held keep in omega arith)
    insert_entries (some t) e t' h q =
        let b = below t e t' h in
        rw (b.gives, rooted_entries t.level (R.grow_root t.root e.cell) b.got) (insert_adds S T t.level (R.grow_root t.root e.cell) t.items e b.got b.inserted q)

    -- The tree after has the nodes of the tree before, and one more for each node on the way that is split, at least.
    pub nodes_after : (t : Tree S) (e : EntryOf S) (w : Way S t.level)
        → descend S t.level (R.grow_root t.root e.cell) t.items e ≡ some w
        → SoundTree S R t → S.Real e.cell → holds S e.cell (some t) ≡ false
        → (t' : Tree S) × (insert_tree S R (some t) e ≡ some t') × (splits S t.level w + node_count S (some t) ≤ node_count S (some t'))
    nodes_after t e w h s on f =
        let p = R.grow_root t.root e.cell in
        let got = build S t.level p w in
        let fine = X.grow_fine t.root e.cell on s.fine in
        let has = X.grow_has t.root e.cell s.one in
        let a = way_nodes S W T t.level p t.items e w h fine (grown_items_lem t e s) s.count has (fresh (some t) e f) in
        let b = rooted_nodes t.level p got in
        let gives : insert_tree S R (some t) e ≡ some (rooted S t.level p got) =
        unfold insert_tree bind in rw (insert_is S t.level p t.items e, h) in
        (rooted S t.level p got, gives, unfold nodes in omega arith)

    -- Nodes do not fall.
    pub nodes_grow : (i : Index S) (e : EntryOf S) (t' : Tree S) → insert_tree S R i e ≡ some t' → Sound S R i → S.Real e.cell → holds S e.cell i ≡ false → node_count S i ≤ node_count S (some t')
    nodes_grow none e t' h s on f = omega arith
    nodes_grow (some t) e t' h s on f =
        let b = below t e t' h in
        let p = R.grow_root t.root e.cell in
        let d = bind_some (descend S t.level p t.items e) _ b.got (sym (insert_is S t.level p t.items e) ∙ b.inserted) in
        let a = nodes_after t e d.0 d.1 s on f in
        let same : a.0 ≡ t' = some-injective a.0 t' (sym a.1 ∙ h) in
        let k = a.2 in
        rw (← same) (omega arith)

    -- The height stays or rises by one.
    pub insert_height : (i : Index S) (e : EntryOf S) (t' : Tree S) → insert_tree S R i e ≡ some t' → (height S (some t') ≡ height S i) ⊎ (height S (some t') ≡ suc (height S i))
    insert_height none e t' h = inr (rw (leaf_is e t' h))
    insert_height (some t) e t' h = let b = below t e t' h in rw b.gives (go b.got)
      where
        go : (got : List (Item S (suc t.level))) → (height S (some (rooted S t.level (R.grow_root t.root e.cell) got)) ≡ suc t.level) ⊎ (height S (some (rooted S t.level (R.grow_root t.root e.cell) got)) ≡ suc (suc t.level))
        go [] = inr refl
        go (x ∷ []) = inl refl
        go (x ∷ y ∷ l) = inr refl

    -- An accepted insertion with room for N nodes.
    pub record Inserted (N : ℕ) (i : Index S) (e : EntryOf S) (j : Index S) : Type 0 where
      pub sound : Sound S R j
      pub room : node_count S j ≤ N
      pub adds : (q : EntryOf S → Bool) → count_of q (entries S j) ≡ count_of q (entries S i) + count_of q (e ∷ [])
      pub grows : node_count S i ≤ node_count S j

    -- Insertion of a cell on the grid that is not held, into a sound index, where it is not refused.
    pub insert_accepted : (N : ℕ) (i : Index S) (e : EntryOf S) (j : Index S) → insert S R N i e ≡ accepted j → Sound S R i → S.Real e.cell → holds S e.cell i ≡ false → Inserted N i e j
    insert_accepted N i e j h s on f = go (insert_tree S R i e) refl h
      where
        kept : (t' : Tree S) → insert_tree S R i e ≡ some t' → (b : Bool) → leb (node_count S (some t')) N ≡ b → cond {A = Outcome S} b (accepted (some t')) (refused 8) ≡ accepted j → Inserted N i e j
        kept t' k true m h =
            let q : j ≡ some t' = cc in
            rw q (record { sound = insert_sound i e t' k s on f; room = leb-true (node_count S (some t')) N m; adds = insert_entries i e t' k; grows = nodes_grow i e t' k s on f })
        kept t' k false m h = let z : ◌≡◌ {A = ℕ} 0 1 = cc in absurd (omega arith)

        go : (m : Option (Tree S)) → insert_tree S R i e ≡ m → limited S N m ≡ accepted j → Inserted N i e j
        go none k h = let z : ◌≡◌ {A = ℕ} 0 1 = cc in absurd (omega arith)
        go (some t') k h = kept t' k (leb (node_count S (some t')) N) refl h
