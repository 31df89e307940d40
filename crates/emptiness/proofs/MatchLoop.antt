-- The loop over a node's children: no match so far, and the children that are left give the rest of the walk.
use Prim.Native.Nat.{ℕ, zero, suc, ◌+◌, ◌-◌, ◌≤◌, ◌<◌}
use mathlib.Core.Path.{◌≡◌, refl, sym, ap, ◌∙◌}
use mathlib.Core.Bool.{Bool, true, false, not, not-not}
use mathlib.Core.List.{List, [], ◌∷◌, ◌++◌}
use native.Mathlib.Omega.{arith}
use native.Mathlib.Numerals.{add-one}
use lib.ListN.{drop}
use Rattle.geometry.specs.declared.rect.Rect.{Rect}
use Rattle.tree.specs.Emptiness.{ToMatch}
use Rattle.tree.proofs.Emptiness.{to_branch}
use Rattle.plane.specs.Lines.{CellEntry}
use Rattle.plane.specs.Fanout.{index_space, index_window}
use Rattle.memory.specs.Layout.{part, polygon_in, children_in}
use Rattle.layout.specs.Nodes.{child_at, count_at}
use Rattle.walks.specs.Walks.{meets_test, inside_test, visits_below, matches_below, Walkable}
use Rattle.walks.proofs.WalkRows.{RowWalkable}
use Rattle.walks.proofs.FoldRows.{fold_none}
use Rattle.walks.proofs.WalkLoop.{AtChild, nothing_left, child_start, child_miss, child_hit, child_walkable, next_child}
use Rattle.answers.specs.declared.answer.EmptyFound.{EmptyFound}
use Rattle.emptiness.specs.Below.{to_match_below, found_of}
use Rattle.emptiness.proofs.MatchRows.{to_match_row, child_to_match, row_walk, row_found, node_walk, walk_bound, child_passed, child_entered}

-- no match after v nodes
abbrev pub no_match : ℕ → ToMatch
no_match v = record { found = false; entered = v }

-- Before the i-th child of the node at part k, entered after v others: no match so far, and `so` nodes entered. vs and
-- es are what the window query's walk has by then.
pub record MatchLoop (w : Rect) (level : ℕ) (m : List ℕ) (lo k v n i low so : ℕ) : Type 0 where
  pub vs : ℕ
  pub es : List CellEntry
  pub at : AtChild (meets_test w) (inside_test w) level m lo k n i low vs es
  pub whole : to_match_row w (level - 1) m low k (drop i (children_in (part m k))) (no_match so)
      ≡ to_match_below w level m lo k v
  pub few : so ≤ v + vs

module _ (w : Rect) (level : ℕ) (m : List ℕ) (lo k v n : ℕ) where
  pub match_start : (level ≡ 0 → ⊥) → Walkable level m lo k → n ≡ count_at m k
      → MatchLoop w level m lo k v n 0 lo (v + 1)
  match_start ne x c = record {
    vs = 1;
    es = [];
    at = child_start (meets_test w) (inside_test w) level m lo k n ne x c;
    whole = start level ne x;
    few = omega arith;
  }
    where
      start : (level : ℕ) → (level ≡ 0 → ⊥) → Walkable level m lo k
          → to_match_row w (level - 1) m lo k (children_in (part m k)) (no_match (v + 1)) ≡ to_match_below w level m lo k v
      start zero ne x = absurd (ne refl)
      start (suc l) ne x =
          let e : suc l - 1 ≡ l = omega arith in
          ap (λ (a : ℕ). to_match_row w a m lo k (children_in (part m k)) (no_match (v + 1))) e
          ∙ ap (λ (a : ℕ). to_match_row w l m lo k (children_in (part m k)) (no_match a)) (add-one v)
          ∙ sym (node_walk w l m lo k v x)

  module _ (i low so : ℕ) (x : MatchLoop w level m lo k v n i low so) where
    pub match_end : n ≤ i → record { empty = true; visits = so } ≡ found_of (to_match_below w level m lo k v)
    match_end h =
        let e = nothing_left (meets_test w) (inside_test w) level m lo k n i low x.vs x.es x.at h in
        let t = to_branch index_space index_window w (level - 1) in
        let f = fold_none (level - 1) t m low k (no_match so) in
        ap found_of (sym f
        ∙ ap (λ (ks : List ℕ). to_match_row w (level - 1) m low k ks (no_match so)) (sym e) ∙ x.whole)

    module _ (h : i < n) (j : ℕ) (g : j ≡ child_at m k i) (b : Bool) (e : b ≡ meets_test w (polygon_in (part m j))) where
      -- the children behind it
      abbrev others : List ℕ
      others = drop (i + 1) (children_in (part m k))

      next : drop i (children_in (part m k)) ≡ j ∷ others
      next = rw g (next_child level m lo k x.at.walkable i (let c = x.at.count in omega arith))

      -- the walk of those, and of the i-th child
      abbrev behind : ToMatch → ToMatch
      behind u = to_match_row w (level - 1) m (j + 1) k others u

      abbrev of_child : ToMatch
      of_child = to_match_below w (level - 1) m low j so

      -- the i-th child's part of the walk, then the others'
      step : behind (child_to_match w (level - 1) m low j (no_match so)) ≡ to_match_below w level m lo k v
      step =
          let r : RowWalkable (level - 1) m low k (j ∷ others) = rw next at x.at.row in
          sym (row_walk w (level - 1) m low k j others (no_match so) r)
          ∙ ap (λ (ks : List ℕ). to_match_row w (level - 1) m low k ks (no_match so)) (sym next)
          ∙ x.whole

      -- the child is passed over
      pub match_miss : (so' : ℕ) → b ≡ false → so' ≡ so → MatchLoop w level m lo k v n (i + 1) (j + 1) so'
      match_miss so' f q =
          let t : meets_test w (polygon_in (part m j)) ≡ false = sym e ∙ f in
          rw q (record {
            vs = x.vs;
            es = x.es;
            at = child_miss (meets_test w) (inside_test w) level m lo k n i low x.vs x.es x.at h j g b e f;
            whole = ap behind (sym (child_passed w (level - 1) m low j so t)) ∙ step;
            few = x.few;
          })

      -- the child is entered
      module _ (f : b ≡ true) where
        hit : AtChild (meets_test w) (inside_test w) level m lo k n (i + 1) (j + 1)
            (x.vs + visits_below (meets_test w) (level - 1) m low j) (x.es ++ matches_below w (level - 1) m low j)
        hit = child_hit (meets_test w) (inside_test w) level m lo k n i low x.vs x.es x.at h j g b e f

        pub match_room : v + visits_below (meets_test w) level m lo k ≤ 256
            → so + visits_below (meets_test w) (level - 1) m low j ≤ 256
        match_room r = let a = hit.visits in let d = x.few in omega arith

        module _ (r : EmptyFound) (is : r ≡ found_of of_child) where
          entered : behind of_child ≡ to_match_below w level m lo k v
          entered =
              let t : meets_test w (polygon_in (part m j)) ≡ true = sym e ∙ f in
              ap behind (sym (child_entered w (level - 1) m low j so t)) ∙ step

          found_is : of_child.found ≡ not r.empty
          found_is = sym (not-not of_child.found) ∙ ap (λ (y : EmptyFound). not y.empty) (sym is)

          -- a match below it: the walk ends
          pub match_stop : not r.empty ≡ true → r ≡ found_of (to_match_below w level m lo k v)
          match_stop q =
              let a : of_child.found ≡ true = found_is ∙ q in
              is ∙ ap found_of (sym (row_found w (level - 1) m (j + 1) k others of_child a) ∙ entered)

          -- none below it: the walk goes on
          pub match_on : (so' : ℕ) → not r.empty ≡ false → so' ≡ r.visits
              → MatchLoop w level m lo k v n (i + 1) (j + 1) so'
          match_on so' q p =
              let a : of_child.found ≡ false = found_is ∙ q in
              let d : of_child.entered ≡ so' = ap (λ (y : EmptyFound). y.visits) (sym is) ∙ sym p in
              let u : of_child ≡ no_match so' = λ z. record { found = a z; entered = d z } in
              let y = child_walkable (meets_test w) (inside_test w) level m lo k n i low x.vs x.es x.at h j g in
              let l = walk_bound w (level - 1) m low j so y in
              record {
                vs = x.vs + visits_below (meets_test w) (level - 1) m low j;
                es = x.es ++ matches_below w (level - 1) m low j;
                at = hit;
                whole = ap behind (sym u) ∙ entered;
                few = let c = x.few in omega arith;
              }
