-- The walk of the window query that counts.
use Prim.Native.Nat.{ℕ, ◌+◌, ◌-◌, ◌≤◌, ◌<◌}
use mathlib.Core.Path.{◌≡◌, refl, ap, ◌∙◌}
use mathlib.Core.Bool.{Bool, true, false}
use mathlib.Core.List.{List, [], ◌++◌}
use native.Mathlib.Omega.{arith}
use mir.Syntax.{w32}
use mir.Val.{Fits}
use lib.ListN.{length, length-append}
use Rattle.geometry.specs.declared.rect.Rect.{Rect}
use Rattle.plane.specs.Lines.{CellEntry}
use Rattle.memory.specs.Layout.{part, polygon_in}
use Rattle.layout.specs.Nodes.{child_at, count_at}
use Rattle.walks.specs.Walks.{meets_test, inside_test, visits_below, leaf_entries, Walkable, matches_below}
use Rattle.walks.proofs.WalkRows.{leaf_visits, leaf_entries_lem, entries_few}
use Rattle.walks.proofs.WalkLoop.{AtChild, child_start, child_miss, child_hit, end_visits, end_entries, so_far_few}
use Rattle.answers.specs.declared.answer.WindowFound.{WindowFound}
use Rattle.queries.specs.Window.{matched}

module _ (w : Rect) (level : ℕ) (m : List ℕ) (lo k : ℕ) where
  -- a node that is a leaf
  pub matched_leaf : (p : List ℕ) (n : ℕ) → level ≡ 0 → Walkable level m lo k → p ≡ part m k → n ≡ length (leaf_entries (inside_test w) p)
      → record { matches = n; visits = 1 } ≡ matched (matches_below w level m lo k) (visits_below (meets_test w) level m lo k)
  unfolding matched
  matched_leaf p n z v q e =
      let v' : Walkable 0 m lo k = rw z at v in
      rw (z, leaf_entries_lem (meets_test w) (inside_test w) m lo k v', leaf_visits (meets_test w) (inside_test w) m lo k v', ← q, ← e)

-- Before the i-th child: the counts so far.
pub record CountLoop (w : Rect) (level : ℕ) (m : List ℕ) (lo k n i low : ℕ) (a : WindowFound) : Type 0 where
  pub es : List CellEntry
  pub at : AtChild (meets_test w) (inside_test w) level m lo k n i low a.visits es
  pub so_far : a.matches ≡ length es

module _ (w : Rect) (level : ℕ) (m : List ℕ) (lo k n : ℕ) where
  pub counting_start : (level ≡ 0 → ⊥) → Walkable level m lo k → n ≡ count_at m k → CountLoop w level m lo k n 0 lo (record { matches = 0; visits = 1 })
  counting_start ne v q = record { es = []; at = child_start (meets_test w) (inside_test w) level m lo k n ne v q; so_far = refl }

  -- the entries found so far are among those below the node
  so_far_entries : (i low vs : ℕ) (es : List CellEntry) → AtChild (meets_test w) (inside_test w) level m lo k n i low vs es
      → length es ≤ length (matches_below w level m lo k)
  so_far_entries i low vs es a = rw (← a.entries, length-append) (omega arith)

  module _ (i low : ℕ) (a : WindowFound) (x : CountLoop w level m lo k n i low a) where
    pub counting_end : n ≤ i → a ≡ matched (matches_below w level m lo k) (visits_below (meets_test w) level m lo k)
    unfolding matched
    counting_end h =
        let e = x.so_far ∙ ap length (end_entries (meets_test w) (inside_test w) level m lo k n i low a.visits x.es x.at h) in
        let f = end_visits (meets_test w) (inside_test w) level m lo k n i low a.visits x.es x.at h in
        rw (← e, ← f)

    module _ (h : i < n) (j : ℕ) (j_is : j ≡ child_at m k i) (b : Bool) (e : b ≡ meets_test w (polygon_in (part m j))) where
      pub counting_miss : (a' : WindowFound) → b ≡ false → a' ≡ a → CountLoop w level m lo k n (i + 1) (j + 1) a'
      counting_miss a' f q = rw q (record { es = x.es; at = child_miss (meets_test w) (inside_test w) level m lo k n i low a.visits x.es x.at h j j_is b e f; so_far = x.so_far })

      module _ (f : b ≡ true) (d : WindowFound) (g : d ≡ matched (matches_below w (level - 1) m low (j)) (visits_below (meets_test w) (level - 1) m low (j))) where
        counted_next : CountLoop w level m lo k n (i + 1) (j + 1) (record { matches = a.matches + d.matches; visits = a.visits + d.visits })
        unfolding matched
        counted_next =
            let q : d.visits ≡ visits_below (meets_test w) (level - 1) m low (j) = ap (λ r. r.visits) g in
            let s : d.matches ≡ length (matches_below w (level - 1) m low (j)) = ap (λ r. r.matches) g in
            let z = x.so_far in
            record {
              es = x.es ++ matches_below w (level - 1) m low (j);
              at = rw q (child_hit (meets_test w) (inside_test w) level m lo k n i low a.visits x.es x.at h j j_is b e f);
              so_far = rw length-append (omega arith);
            }

        pub matches_fit : Fits w32 (a.matches + d.matches)
        matches_fit =
            let y = counted_next in
            let p = so_far_entries _ _ _ y.es y.at in
            let q = entries_few (meets_test w) (inside_test w) level m lo k x.at.walkable in
            let s = y.so_far in
            omega arith

        pub visits_fit : Fits w32 (a.visits + d.visits)
        visits_fit = let q = so_far_few (meets_test w) (inside_test w) level m lo k _ _ _ _ _ counted_next.at in omega arith

        pub counting_hit : (a' : WindowFound) → a' ≡ record { matches = a.matches + d.matches; visits = a.visits + d.visits }
            → CountLoop w level m lo k n (i + 1) (j + 1) a'
        counting_hit a' q = rw q counted_next
