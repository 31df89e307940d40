-- The walk gives a query's visits and entries, in order.
use Prim.Native.Nat.{ℕ, zero, suc, ◌+◌}
use mathlib.Core.Bool.{Bool, true, false, cond}
use mathlib.Core.Path.{◌≡◌, refl, sym, ap, ◌∙◌, subst}
use mathlib.Core.List.{List, [], head?}
use mathlib.Core.Option.{none, some}
use native.Mathlib.Omega.{arith}
use Rattle.polygons.proofs.Booleans.{is_false, not_both}
use Rattle.tree.specs.Lists.{keep, total, count_of}
use Rattle.tree.specs.Space.{Space}
use Rattle.tree.specs.Nodes.{EntryOf, Item, item_has, held, nodes}
use Rattle.tree.specs.Sound.{SoundItem}
use Rattle.tree.specs.Root.{Root}
use Rattle.tree.specs.Tree.{Index, entries, top, Sound}
use Rattle.tree.specs.Depth.{item_polygons, polygons}
use Rattle.tree.specs.Query.{Window, of_cell, entry_at, visits, matching, matches, window_visits}
use Rattle.tree.specs.Walk.{node_walk_visits, walk_visits, node_walk_entries, walk_entries}
use Rattle.tree.proofs.Lists.{all_map, all_any, keep_flat_map, flat_map_same_all}
use Rattle.tree.proofs.Counts.{total_none, total_same, keep_none}
use Rattle.tree.proofs.Laws.{Laws, WindowLaws}
use Rattle.tree.proofs.Once.{held_inside}
use Rattle.tree.proofs.Depth.{top_sound}
use Rattle.tree.proofs.InsertEntries.{held_zero}
use Rattle.tree.proofs.Visits.{Mono, mono_cell, visits_step, none_below}

-- A walk by the test t for entries that pass u: a polygon passes with any polygon within, and with any such entry in it.
module _ (S : Space) (W : Laws S) (t : S.Poly → Bool) (mono : Mono S t) (u : EntryOf S → Bool) (meet : (p : S.Poly) (e : EntryOf S) → S.has p e.cell ≡ true → u e ≡ true → t p ≡ true) where
  visits_from_lem : (n : ℕ) (p : S.Poly) (b : Item S (suc n)) → SoundItem S (suc n) p b
      → node_walk_visits S t n b.child ≡ 1 + total (λ x. count_of t (item_polygons S n x)) b.child → cond (t b.poly) (node_walk_visits S t n b.child) 0 ≡ count_of t (item_polygons S (suc n) b)
  visits_from_lem n p b h i = go (t b.poly) refl
    where
      go : (v : Bool) → t b.poly ≡ v → cond v (node_walk_visits S t n b.child) 0 ≡ count_of t (item_polygons S (suc n) b)
      go true e = i ∙ sym (visits_step S t n b ∙ rw e)
      go false e = sym (none_below S t mono n p b h e)

  walk_visits_lem : (n : ℕ) (p : S.Poly) (b : Item S (suc n)) → SoundItem S (suc n) p b → cond (t b.poly) (node_walk_visits S t n b.child) 0 ≡ count_of t (item_polygons S (suc n) b)
  unfolding node_walk_visits SoundItem
  walk_visits_lem zero p b h = visits_from_lem zero p b h
      (let z = total_none (λ x. count_of t (item_polygons S zero x)) b.child (all_any (λ x. count_of t (item_polygons S zero x) ≡ 0) b.child (λ x. unfold item_polygons keep in refl)) in
      omega arith)
  walk_visits_lem (suc n) p b h = visits_from_lem (suc n) p b h
      (let z = total_same (λ x. cond (t x.poly) (node_walk_visits S t n x.child) 0) (λ x. count_of t (item_polygons S (suc n) x)) b.child
      (all_map (SoundItem S (suc n) b.poly) (λ x. cond (t x.poly) (node_walk_visits S t n x.child) 0 ≡ count_of t (item_polygons S (suc n) x)) b.child (walk_visits_lem n b.poly) h.each) in
      omega arith)

  entries_from_lem : (n : ℕ) (p : S.Poly) (b : Item S (suc n)) → SoundItem S (suc n) p b → node_walk_entries S t u n b.child ≡ keep u (held S (suc n) b) → cond (t b.poly) (node_walk_entries S t u n b.child) [] ≡ keep u (held S (suc n) b)
  entries_from_lem n p b h i = go (t b.poly) refl
    where
      go : (v : Bool) → t b.poly ≡ v → cond v (node_walk_entries S t u n b.child) [] ≡ keep u (held S (suc n) b)
      go true e = i
      go false e = sym (keep_none u (held S (suc n) b)
          (all_map (λ f. item_has S (suc n) b f.cell ≡ true) (λ f. u f ≡ false) (held S (suc n) b)
          (λ f k. is_false (u f) (λ j. not_both (t b.poly) (meet b.poly f (unfold item_has in k) j) e)) (held_inside S W (suc n) p b h)))

  walk_entries_lem : (n : ℕ) (p : S.Poly) (b : Item S (suc n)) → SoundItem S (suc n) p b → cond (t b.poly) (node_walk_entries S t u n b.child) [] ≡ keep u (held S (suc n) b)
  unfolding node_walk_entries SoundItem held
  walk_entries_lem zero p b h = entries_from_lem zero p b h (ap (keep u) (sym (held_zero S b.child)))
  walk_entries_lem (suc n) p b h = entries_from_lem (suc n) p b h
      (flat_map_same_all (λ x. cond (t x.poly) (node_walk_entries S t u n x.child) []) (λ x. keep u (held S (suc n) x)) b.child
      (all_map (SoundItem S (suc n) b.poly) (λ x. cond (t x.poly) (node_walk_entries S t u n x.child) [] ≡ keep u (held S (suc n) x)) b.child (walk_entries_lem n b.poly) h.each)
      ∙ sym (keep_flat_map u (held S (suc n)) b.child))

  module _ (R : Root S) where
    pub index_visits : (i : Index S) → Sound S R i → walk_visits S t i ≡ count_of t (polygons S i)
    index_visits none s = unfold keep in refl
    index_visits (some x) s = walk_visits_lem x.level x.root (top S x) (top_sound S R x s)

    pub index_entries : (i : Index S) → Sound S R i → walk_entries S t u i ≡ keep u (entries S i)
    index_entries none s = unfold keep in refl
    index_entries (some x) s = walk_entries_lem x.level x.root (top S x) (top_sound S R x s) ∙ unfold held in refl

module _ (S : Space) (W : Laws S) (R : Root S) (i : Index S) (s : Sound S R i) where
  cell_in : (c : S.Cell) (p : S.Poly) (e : EntryOf S) → S.has p e.cell ≡ true → of_cell S c e ≡ true → S.has p c ≡ true
  cell_in c p e h k = subst (λ (d : S.Cell). S.has p d ≡ true) (W.same_is e.cell c k) h

  -- The walk into the nodes that have the cell visits as many nodes as a point query counts.
  pub point_visits : (c : S.Cell) → walk_visits S (λ p. S.has p c) i ≡ visits S c i
  point_visits c = index_visits S W (λ p. S.has p c) (mono_cell S c) (of_cell S c) (cell_in c) R i s

  -- It meets the entries of that cell, and no others.
  pub point_entries : (c : S.Cell) → walk_entries S (λ p. S.has p c) (of_cell S c) i ≡ keep (of_cell S c) (entries S i)
  point_entries c = index_entries S W (λ p. S.has p c) (mono_cell S c) (of_cell S c) (cell_in c) R i s

  -- So it answers the point query.
  pub point_found_lem : (c : S.Cell) → head? (walk_entries S (λ p. S.has p c) (of_cell S c) i) ≡ entry_at S c i
  point_found_lem c = ap head? (point_entries c)

  module _ (Win : Window S) (X : WindowLaws S Win) (w : Win.W) where
    mono_window : Mono S (λ p. Win.meets p w)
    mono_window p q h k = let m = X.meets_cell q w k in X.cell_meets p w m.0 (h m.0 m.1) m.2

    -- The walk into the nodes that meet the window visits as many nodes as a window query counts.
    pub window_visits_lem : walk_visits S (λ p. Win.meets p w) i ≡ window_visits S Win w i
    window_visits_lem = index_visits S W (λ p. Win.meets p w) mono_window (matching S Win w) (λ p e. X.cell_meets p w e.cell) R i s

    -- It meets the matching entries, in depth-first order.
    pub window_entries : walk_entries S (λ p. Win.meets p w) (matching S Win w) i ≡ matches S Win w i
    window_entries = index_entries S W (λ p. Win.meets p w) mono_window (matching S Win w) (λ p e. X.cell_meets p w e.cell) R i s

-- Entries are no nodes.
pub leaf_nodes : (S : Space) (es : List (EntryOf S)) → total (nodes S zero) es ≡ 0
unfolding nodes
leaf_nodes S es = total_none (nodes S zero) es (all_any (λ e. nodes S zero e ≡ 0) es (λ e. refl))

-- A walk by a test that every polygon passes enters all nodes.
module _ (S : Space) (t : S.Poly → Bool) (every : (p : S.Poly) → t p ≡ true) where
  pub walk_every : (n : ℕ) (items : List (Item S n)) → node_walk_visits S t n items ≡ suc (total (nodes S n) items)
  unfolding node_walk_visits nodes
  walk_every zero es = let z = leaf_nodes S es in omega arith
  walk_every (suc n) bs =
      let z = total_same (λ b. cond (t b.poly) (node_walk_visits S t n b.child) 0) (nodes S (suc n)) bs
      (all_any (λ b. cond (t b.poly) (node_walk_visits S t n b.child) 0 ≡ nodes S (suc n) b) bs (λ b. rw (every b.poly) (let i = walk_every n b.child in omega arith))) in
      omega arith
