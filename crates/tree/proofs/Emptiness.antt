-- The emptiness query: yes exactly where the window query has no match, and visits that are at most its visits.
use Prim.Native.Nat.{ℕ, zero, suc, ◌+◌, ◌≤◌}
use mathlib.Core.Bool.{Bool, true, false, not, cond, ◌||◌, or_assoc, false≢true}
use mathlib.Core.Path.{◌≡◌, refl, sym, ap, ◌∙◌}
use mathlib.Core.List.{List, [], ◌∷◌, flat_map, foldl}
use mathlib.Core.Option.{none, some}
use native.Mathlib.Omega.{arith}
use lib.Dec.{eqb}
use lib.ListN.{length}
use Rattle.tree.specs.Lists.{total, not_empty}
use Rattle.tree.specs.Space.{Space}
use Rattle.tree.specs.Nodes.{EntryOf, Item}
use Rattle.tree.specs.Root.{Root}
use Rattle.tree.specs.Tree.{Index, Sound}
use Rattle.tree.specs.Query.{Window, matching, matches, window_visits}
use Rattle.tree.specs.Emptiness.{ToMatch, at_start, node_to_match, walk_to_match, is_empty, empty_visits}
use Rattle.tree.specs.Walk.{node_walk_visits, walk_visits, node_walk_entries, walk_entries}
use Rattle.tree.proofs.Any.{kept_any}
use Rattle.tree.proofs.Laws.{Laws, WindowLaws}
use Rattle.tree.proofs.Lists.{not_empty_append, not_not_empty}
use Rattle.tree.proofs.Walk.{window_visits_lem, window_entries}

module _ (S : Space) (Win : Window S) (w : Win.W) where
  abbrev meets_w : S.Poly → Bool
  meets_w p = Win.meets p w

  abbrev to_match : (n : ℕ) → ℕ → List (Item S n) → ToMatch
  to_match n v items = node_to_match S Win w n v items

  -- the window query's walk: the matching entries that it meets below a node, and the nodes that it enters there
  abbrev entries_below : (n : ℕ) → List (Item S n) → List (EntryOf S)
  entries_below n items = node_walk_entries S meets_w (matching S Win w) n items

  abbrev visits_below : (n : ℕ) → List (Item S n) → ℕ
  visits_below n items = node_walk_visits S meets_w n items

  -- one child, from how far the walk has come
  abbrev pub to_branch : (n : ℕ) → ToMatch → Item S (suc n) → ToMatch
  to_branch n u b = cond u.found u (cond (meets_w b.poly) (to_match n u.entered b.child) u)

  -- at a child
  abbrev entries_of : (n : ℕ) → Item S (suc n) → List (EntryOf S)
  entries_of n b = cond (meets_w b.poly) (entries_below n b.child) []

  abbrev visits_of : (n : ℕ) → Item S (suc n) → ℕ
  visits_of n b = cond (meets_w b.poly) (visits_below n b.child) 0

  -- where a match was met, nothing more is entered
  pub stays_found : (n : ℕ) (u : ToMatch) (bs : List (Item S (suc n))) → u.found ≡ true → foldl (to_branch n) u bs ≡ u
  stays_found n u [] h = refl
  stays_found n u (b ∷ bs) h =
      let e : to_branch n u b ≡ u = rw h in
      ap (λ (x : ToMatch). foldl (to_branch n) x bs) e ∙ stays_found n u bs h

  -- along the children: a match is found exactly if the window query's walk meets an entry
  along_found : (n : ℕ)
      → ((v : ℕ) (b : Item S (suc n)) → (to_match n v b.child).found ≡ not_empty (entries_below n b.child))
      → (bs : List (Item S (suc n))) (u : ToMatch)
      → (foldl (to_branch n) u bs).found ≡ u.found || not_empty (flat_map (entries_of n) bs)
  unfolding flat_map
  along_found n h [] u = go u.found
    where
      go : (t : Bool) → t ≡ t || false
      go true = refl
      go false = refl
  along_found n h (b ∷ bs) u =
      along_found n h bs (to_branch n u b)
      ∙ ap (λ (t : Bool). t || not_empty (flat_map (entries_of n) bs)) (one u.found refl (meets_w b.poly))
      ∙ or_assoc u.found (not_empty (entries_of n b)) (not_empty (flat_map (entries_of n) bs))
      ∙ ap (λ (t : Bool). u.found || t) (sym (not_empty_append (entries_of n b) (flat_map (entries_of n) bs)))
    where
      one : (t : Bool) → u.found ≡ t → (m : Bool)
          → (cond t u (cond m (to_match n u.entered b.child) u)).found
          ≡ t || not_empty (cond m (entries_below n b.child) [])
      one true e m = e
      one false e true = h u.entered b
      one false e false = e

  found_below : (n v : ℕ) (items : List (Item S n))
      → (to_match n v items).found ≡ not_empty (entries_below n items)
  unfolding node_to_match node_walk_entries
  found_below zero v es = sym (kept_any (matching S Win w) es)
  found_below (suc n) v bs =
      along_found n (λ u b. found_below n u b.child) bs (record { found = false; entered = suc v })

  -- along the children: it enters at most the nodes that the window query's walk enters
  along_few : (n : ℕ)
      → ((v : ℕ) (b : Item S (suc n)) → (to_match n v b.child).entered ≤ v + visits_below n b.child)
      → (bs : List (Item S (suc n))) (u : ToMatch)
      → (foldl (to_branch n) u bs).entered ≤ u.entered + total (visits_of n) bs
  unfolding total
  along_few n h [] u = omega arith
  along_few n h (b ∷ bs) u =
      let i = along_few n h bs (to_branch n u b) in
      let j = one u.found (meets_w b.poly) in
      omega arith
    where
      one : (t m : Bool) → (cond t u (cond m (to_match n u.entered b.child) u)).entered
          ≤ u.entered + cond m (visits_below n b.child) 0
      one true true = omega arith
      one true false = omega arith
      one false true = h u.entered b
      one false false = omega arith

  pub few_below : (n v : ℕ) (items : List (Item S n)) → (to_match n v items).entered ≤ v + visits_below n items
  unfolding node_to_match node_walk_visits
  few_below zero v es = omega arith
  few_below (suc n) v bs =
      let z : (to_match (suc n) v bs).entered ≤ suc v + total (visits_of n) bs
      = along_few n (λ u b. few_below n u b.child) bs (record { found = false; entered = suc v }) in
      omega arith

  -- along the children, where no match is found: it enters all of them
  along_all : (n : ℕ)
      → ((v : ℕ) (b : Item S (suc n)) → (to_match n v b.child).found ≡ false
      → (to_match n v b.child).entered ≡ v + visits_below n b.child)
      → (bs : List (Item S (suc n))) (u : ToMatch) → (foldl (to_branch n) u bs).found ≡ false
      → (foldl (to_branch n) u bs).entered ≡ u.entered + total (visits_of n) bs
  unfolding total
  along_all n h [] u f = omega arith
  along_all n h (b ∷ bs) u f =
      let k = child u.found refl (meets_w b.poly) (here (to_branch n u b).found refl) in
      let l = along_all n h bs (to_branch n u b) f in
      omega arith
    where
      -- no match is found at the first child either
      here : (t : Bool) → (to_branch n u b).found ≡ t → (to_branch n u b).found ≡ false
      here true e =
          let s = stays_found n (to_branch n u b) bs e in
          absurd (false≢true (sym f ∙ ap (λ (x : ToMatch). x.found) s ∙ e))
      here false e = e

      child : (t : Bool) → u.found ≡ t → (m : Bool)
          → (cond t u (cond m (to_match n u.entered b.child) u)).found ≡ false
          → (cond t u (cond m (to_match n u.entered b.child) u)).entered
          ≡ u.entered + cond m (visits_below n b.child) 0
      child true e m g = absurd (false≢true (sym g ∙ e))
      child false e true g = h u.entered b g
      child false e false g = omega arith

  all_below : (n v : ℕ) (items : List (Item S n)) → (to_match n v items).found ≡ false
      → (to_match n v items).entered ≡ v + visits_below n items
  unfolding node_to_match node_walk_visits
  all_below zero v es f = omega arith
  all_below (suc n) v bs f =
      let z : (to_match (suc n) v bs).entered ≡ suc v + total (visits_of n) bs
      = along_all n (λ u b g. all_below n u b.child g) bs (record { found = false; entered = suc v }) f in
      omega arith

  -- the whole walk
  walk_found : (i : Index S) → (walk_to_match S Win w i).found ≡ not_empty (walk_entries S meets_w (matching S Win w) i)
  walk_found none = refl
  walk_found (some t) = go (meets_w t.root) (found_below t.level 0 t.items)
    where
      go : (b : Bool) → (to_match t.level 0 t.items).found ≡ not_empty (entries_below t.level t.items)
          → (cond b (to_match t.level 0 t.items) at_start).found
          ≡ not_empty (cond b (entries_below t.level t.items) [])
      go true e = e
      go false e = refl

  walk_few : (i : Index S) → (walk_to_match S Win w i).entered ≤ walk_visits S meets_w i
  walk_few none = omega arith
  walk_few (some t) = go (meets_w t.root) (few_below t.level 0 t.items)
    where
      go : (b : Bool) → (to_match t.level 0 t.items).entered ≤ 0 + visits_below t.level t.items
          → (cond b (to_match t.level 0 t.items) at_start).entered ≤ cond b (visits_below t.level t.items) 0
      go true e = omega arith
      go false e = omega arith

  walk_all : (i : Index S) → (walk_to_match S Win w i).found ≡ false
      → (walk_to_match S Win w i).entered ≡ walk_visits S meets_w i
  walk_all none f = refl
  walk_all (some t) f = go (meets_w t.root) (all_below t.level 0 t.items) f
    where
      go : (b : Bool)
          → ((to_match t.level 0 t.items).found ≡ false
          → (to_match t.level 0 t.items).entered ≡ 0 + visits_below t.level t.items)
          → (cond b (to_match t.level 0 t.items) at_start).found ≡ false
          → (cond b (to_match t.level 0 t.items) at_start).entered ≡ cond b (visits_below t.level t.items) 0
      go true e g = let z = e g in omega arith
      go false e g = refl

module _ (S : Space) (W : Laws S) (R : Root S) (i : Index S) (s : Sound S R i)
    (Win : Window S) (X : WindowLaws S Win) (w : Win.W) where
  -- "The yes must hold exactly when the window query reports zero matches."
  pub empty_exact : is_empty S Win w i ≡ eqb (length (matches S Win w i)) 0
  empty_exact =
      ap not (walk_found S Win w i ∙ ap not_empty (window_entries S W R i s Win X w))
      ∙ not_not_empty (matches S Win w i)

  -- The visits "never exceed those of the window query".
  pub empty_few : empty_visits S Win w i ≤ window_visits S Win w i
  empty_few = let a = walk_few S Win w i in let b = window_visits_lem S W R i s Win X w in omega arith

  -- Where the answer is yes, they are the window query's: nothing stops the walk.
  pub empty_all : is_empty S Win w i ≡ true → empty_visits S Win w i ≡ window_visits S Win w i
  empty_all f = walk_all S Win w i (go (walk_to_match S Win w i).found f) ∙ window_visits_lem S W R i s Win X w
    where
      go : (b : Bool) → not b ≡ true → b ≡ false
      go false e = refl
      go true e = absurd (false≢true e)
