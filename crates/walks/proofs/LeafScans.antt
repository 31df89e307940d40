-- The scans of a leaf's entries by iterators: they find the entries that pass.
use Prim.Native.Nat.{ℕ, ◌+◌, ◌≤◌, ◌<◌}
use native.Mathlib.Omega.{arith}
use lib.Dec.{ltb}
use mathlib.Core.Logic.{◌⊎◌, inl, inr}
use denote.Param.Members.{Mut}
use denote.Ref.{Bor}
use mathlib.Core.Path.{◌≡◌, refl, ap, ◌∙◌}
use mathlib.Core.Bool.{Bool, true, false, cond, ◌||◌}
use mathlib.Core.List.{List, [], ◌∷◌, ◌++◌}
use Rattle.std.specs.Prelude.{Option, None, Some, ⊤}
use lib.ListN.{length, length-append}
use Rattle.std.specs.Fn.{Called, CalledAt}
use Rattle.std.specs.Iterator.{Yields, YieldsThen, YieldsFirstBy}
use Rattle.std.specs.Iterator.Adapters.{filter_source, filter_callee, filter_steps}
use Rattle.std.specs.declared.iter.Filter.{Filter}
use Rattle.std.proofs.lemmas.Iterator.{YieldsList}
use Rattle.std.specs.List.{list_any, filter, find, position_or_len, FoldsTo}
use Rattle.std.specs.Option.{option_map, MatchOption}
use Rattle.std.proofs.lemmas.Iterator.Consumers.{YieldsList-from_first, YieldsList-at, YieldsList-from_filter, YieldsList-turn, YieldsList-end}
use Rattle.std.proofs.lemmas.Iterator.Search.{any_from_yields_List, find_from_yields_List, position_from_yields_List}
use Rattle.std.proofs.lemmas.List.{get_or_default}
use Rattle.std.proofs.lemmas.Bool.{cases_lt, lt-ltb, le-ltb}
use Rattle.std.proofs.lemmas.List.Sums.{passes_at_first, fails_before_first}
use Rattle.tree.specs.Lists.{keep, not_empty}
use Rattle.plane.specs.Lines.{CellEntry}
use Rattle.memory.specs.Layout.{item_count, entry_in, entries_in}
use Rattle.layout.specs.declared.entry.Entry.{Entry}
use Rattle.layout.specs.declared.entry_list.Entries.{Entries}
use Rattle.memory.proofs.ReadingLaws.{entries_length}
use Rattle.layout.specs.Nodes.{NodePart}
use Rattle.layout.proofs.EntryRows.{entries_at_lem}
use Rattle.memory.proofs.PartImage.{no_entry}
use Rattle.layout.specs.Entries.{tree_entry, entries_left}
use Rattle.walks.specs.Walks.{leaf_entries}

pub any_keep : {A : Type 0} (u : A → Bool) (l : List A) → list_any u l ≡ not_empty (keep u l)
unfolding keep
any_keep u [] = refl
any_keep u (a ∷ l) = go (u a) (any_keep u l)
  where
    go : (b : Bool) → list_any u l ≡ not_empty (keep u l) → b || list_any u l ≡ not_empty (cond b (a ∷ keep u l) (keep u l))
    go true h = refl
    go false h = h

pub filter_keep : {A : Type 0} (u : A → Bool) (l : List A) → filter u l ≡ keep u l
unfolding keep
filter_keep u [] = refl
filter_keep u (a ∷ l) = go (u a) (filter_keep u l)
  where
    go : (b : Bool) → filter u l ≡ keep u l → cond b (a ∷ filter u l) (filter u l) ≡ cond b (a ∷ keep u l) (keep u l)
    go true h = ap (λ z. a ∷ z) h
    go false h = h

-- the first of those that pass
find_keep : {A : Type 0} (u : A → Bool) (l : List A) → MatchOption (find u l) (keep u l ≡ []) (λ a. (others : List A) × (keep u l ≡ a ∷ others))
unfolding keep
find_keep u [] = refl
find_keep {A} u (a ∷ l) = go (u a) (find_keep u l)
  where
    go : (b : Bool) → MatchOption (find u l) (keep u l ≡ []) (λ a. (others : List A) × (keep u l ≡ a ∷ others))
        → MatchOption (cond b (Some a) (find u l)) (cond b (a ∷ keep u l) (keep u l) ≡ [])
        (λ x. (others : List A) × (cond b (a ∷ keep u l) (keep u l) ≡ x ∷ others))
    go true h = (keep u l, refl)
    go false h = h

-- a value that was read from an option's
read_option : {A B : Type 0} (v : A → B) (r : Option A) (o : Option B) (P : Type 0) (Q : B → Type 0) → option_map v r ≡ o
    → MatchOption o P Q → MatchOption r P (λ a. Q (v a))
read_option v None o P Q e h = rw (← e) at h
read_option v (Some a) o P Q e h = rw (← e) at h

-- what an iterator over the entries of a leaf's part does at each
abbrev pub steps : Entries → Option Entry → Entries → Type 0
steps = YieldsFirstBy tree_entry entries_left

-- they are few, also for an adapter of the iterator
pub leaf_few : (p : List ℕ) (s t : Entries) → NodePart p → entries_left s ≡ entries_in p (item_count p) → t ≡ s → length (entries_left t) ≤ 8
leaf_few p s t v q e = let f = v.few_items in rw (e, q, entries_length p (item_count p)) f

module _ (u : CellEntry → Bool) (p : List ℕ) (s : Entries) (q : entries_left s ≡ entries_in p (item_count p)) where
  road : YieldsList steps tree_entry s (entries_in p (item_count p))
  road = YieldsList-from_first tree_entry entries_left _ q

  -- `any`, with a closure that computes the test u
  pub leaf_any : {F : Type 0} {g : Mut F (Entry × Unit {0}) Bool} (t : Entries) {f : F} {r : Bool}
      → (xs : List Entry) × (o : Option Entry) × (j : F) × YieldsThen steps s xs o t
      × FoldsTo (λ p x q. Called g p (x, tt) false q) f xs j
      × MatchOption o (r ≡ false) (λ x. (r ≡ true) × ((h : F) × Called g j (x, tt) true h))
      → ((x : Entry) (b : Bool) (q : F) → Called g f (x, tt) b q → (q ≡ f) × (b ≡ u (tree_entry x)))
      → r ≡ not_empty (leaf_entries u p)
  unfolding leaf_entries
  leaf_any t ran h = any_from_yields_List u t _ _ ran road h ∙ any_keep u _

  -- `filter` likewise: the entries that pass
  pub leaf_filter : {F : Type 0} (g : Mut F (Bor Entry × Unit {0}) Bool) {f : F} (k : Filter Entries F)
      → filter_source k ≡ s → filter_callee k ≡ f
      → ((x : Entry) (b : Bool) (q : F) → CalledAt g f x b q → (q ≡ f) × (b ≡ u (tree_entry x)))
      → YieldsList (filter_steps steps g) tree_entry k (leaf_entries u p)
  unfolding leaf_entries
  leaf_filter g k e c h = rw (← (filter_keep u (entries_in p (item_count p)))) (YieldsList-from_filter g u (YieldsList-at e road) c h)

  -- `find` likewise: the first of them
  pub leaf_find : {F : Type 0} {g : Mut F (Bor Entry × Unit {0}) Bool} (t : Entries) {f : F} (r : Option Entry)
      → (xs : List Entry) × (j : F) × YieldsThen steps s xs r t × FoldsTo (λ p x q. CalledAt g p x false q) f xs j
      × MatchOption r ⊤ (λ x. (h : F) × CalledAt g j x true h)
      → ((x : Entry) (b : Bool) (q : F) → CalledAt g f x b q → (q ≡ f) × (b ≡ u (tree_entry x)))
      → MatchOption r (leaf_entries u p ≡ []) (λ e. (others : List CellEntry) × (leaf_entries u p ≡ tree_entry e ∷ others))
  unfolding leaf_entries
  leaf_find t r ran h = read_option tree_entry r _ _ _ (find_from_yields_List u t _ r ran road h) (find_keep u (entries_in p (item_count p)))

  -- `position` likewise: where it stands
  pub leaf_position : {F : Type 0} {g : Mut F (Entry × Unit {0}) Bool} (t : Entries) {f : F} (r : Option ℕ)
      → (xs : List Entry) × (o : Option Entry) × (j : F) × YieldsThen steps s xs o t
      × FoldsTo (λ p x q. Called g p (x, tt) false q) f xs j
      × MatchOption o (r ≡ None) (λ x. (r ≡ Some (length xs)) × ((h : F) × Called g j (x, tt) true h))
      → ((x : Entry) (b : Bool) (q : F) → Called g f (x, tt) b q → (q ≡ f) × (b ≡ u (tree_entry x)))
      → MatchOption r ((k : ℕ) → k < item_count p → u (entry_in p k) ≡ false) (λ i. (i < item_count p) × (u (entry_in p i) ≡ true))
  leaf_position t r ran h = first_place r (cases_lt (position_or_len u all) (length all)) (position_from_yields_List u t _ r ran road h)
    where
      all : List CellEntry
      all = entries_in p (item_count p)

      first_place : (r : Option ℕ) → (position_or_len u all < length all) ⊎ (length all ≤ position_or_len u all)
          → r ≡ cond (ltb (position_or_len u all) (length all)) (Some (position_or_len u all)) None
          → MatchOption r ((k : ℕ) → k < item_count p → u (entry_in p k) ≡ false) (λ i. (i < item_count p) × (u (entry_in p i) ≡ true))
      first_place r (inl l) e =
          let n = entries_length p (item_count p) in
          let i : position_or_len u all < item_count p = omega arith in
          rw (e, lt-ltb (position_or_len u all) (length all) l)
          (i, rw (entries_at_lem p (item_count p) (position_or_len u all) i) at (passes_at_first u all no_entry l))
      first_place r (inr l) e =
          let n = entries_length p (item_count p) in
          rw (e, le-ltb (position_or_len u all) (length all) l)
          (λ k h. rw (entries_at_lem p (item_count p) k h) at (fails_before_first u all k no_entry (omega arith)))

-- The loop `for e in entries(p)` over a leaf's part takes e after xs: it is the next entry.
pub record Turn (p : List ℕ) (xs : List Entry) (e : Entry) : Type 0 where
  pub inside : length xs < item_count p
  pub entry : tree_entry e ≡ entry_in p (length xs)
  pub cell : e.cell ≡ (entry_in p (length xs)).cell
  pub one_more : length (xs ++ (e ∷ [])) ≡ length xs + 1

-- `first` is what the loop began with, which `s` is as an iterator, `t` what was left after xs, and `u` what is left next
module _ (p : List ℕ) (xs : List Entry) (first s t u : Entries) (q : entries_left first ≡ entries_in p (item_count p)) (f : s ≡ first)
    (y : Yields steps s xs t) where
  all_of : YieldsList steps tree_entry s (entries_in p (item_count p))
  all_of = YieldsList-from_first tree_entry entries_left _ (ap entries_left f ∙ q)

  pub leaf_turn : (e : Entry) → steps t (Some e) u → Turn p xs e
  leaf_turn e k =
      let h = YieldsList-turn all_of xs t y (Some e) u e refl k in
      let n = entries_length p (item_count p) in
      let i : length xs < item_count p = let l = h.0 in omega arith in
      let g = h.1 ∙ get_or_default (entries_in p (item_count p)) (length xs) _ no_entry h.0 ∙ entries_at_lem p (item_count p) (length xs) i in
      record { inside = i; entry = g; cell = ap (λ (x : CellEntry). x.cell) g; one_more = length-append xs (e ∷ []) }

  pub leaf_end : steps t None u → item_count p ≤ length xs
  leaf_end k = let h = (YieldsList-end all_of xs t y None u refl k).1 in let n = entries_length p (item_count p) in omega arith
