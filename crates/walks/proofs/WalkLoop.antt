-- The loop over a node's children: what was walked so far and the children that are left give the whole walk.
use Prim.Native.Nat.{ℕ, zero, suc, ◌+◌, ◌-◌, ◌≤◌, ◌<◌}
use mathlib.Core.Path.{◌≡◌, refl, sym, ap, ◌∙◌}
use mathlib.Core.Bool.{Bool, true, false, cond}
use mathlib.Core.List.{List, [], ◌∷◌, ◌++◌, append-nil, append_assoc}
use native.Mathlib.Omega.{arith}
use native.Mathlib.Numerals.{add-one}
use mir.Syntax.{w32}
use mir.Val.{Fits}
use lib.ListN.{length, drop, drop_of_length-le}
use lib.Seq.{drop-cons}
use Rattle.geometry.specs.declared.rect.Rect.{Rect}
use Rattle.plane.specs.Lines.{CellEntry}
use Rattle.plane.specs.Fanout.{fanout}
use Rattle.memory.specs.Layout.{part, polygon_in, children_in}
use Rattle.memory.proofs.ReadingLaws.{node_below, children_length}
use Rattle.layout.specs.Nodes.{child_at, count_at, PolygonPart}
use Rattle.layout.proofs.NodeLaws.{child_in_lem}
use Rattle.walks.specs.Walks.{visits_below, entries_below, Walkable}
use Rattle.walks.proofs.WalkRows.{RowWalkable, visits_row, entries_row, RowStep, row_step, row_no_visits, row_no_entries, node_row, node_visits, node_entries, walk_polygon, visits_few}

-- the children in place
module _ (n : ℕ) (m : List ℕ) (lo k : ℕ) (v : Walkable n m lo k) where
  pub children_count : length (children_in (part m k)) ≡ count_at m k
  children_count =
      let f = v.few in
      children_length fanout m k (node_below fanout m n lo k v.node v.reads) (omega arith)

  -- the next child
  pub next_child : (i : ℕ) → i < count_at m k
      → drop i (children_in (part m k)) ≡ child_at m k i ∷ drop (i + 1) (children_in (part m k))
  next_child i h =
      let c = children_count in
      let s : i < length (children_in (part m k)) = omega arith in
      drop-cons (children_in (part m k)) i 0 s ∙ rw (child_in_lem (part m k) i h, add-one)

-- Before the i-th of the n children of the node at part k: the walk so far made vs visits and found es, and low is the child's lower end.
pub record AtChild (t : List Rect → Bool) (u : CellEntry → Bool) (level : ℕ) (m : List ℕ) (lo k n i low vs : ℕ) (es : List CellEntry) : Type 0 where
  pub count : n ≡ count_at m k
  pub i_le : i ≤ n
  pub walkable : Walkable level m lo k
  pub row : RowWalkable (level - 1) m low k (drop i (children_in (part m k)))
  pub visits : vs + visits_row t (level - 1) m low k (drop i (children_in (part m k))) ≡ visits_below t level m lo k
  pub entries : es ++ entries_row t u (level - 1) m low k (drop i (children_in (part m k))) ≡ entries_below t u level m lo k

module _ (t : List Rect → Bool) (u : CellEntry → Bool) where
  pub child_start : (level : ℕ) (m : List ℕ) (lo k n : ℕ) → (level ≡ 0 → ⊥) → Walkable level m lo k → n ≡ count_at m k → AtChild t u level m lo k n 0 lo 1 []
  child_start zero m lo k n ne v c = absurd (ne refl)
  child_start (suc l) m lo k n ne v c =
      let e : suc l - 1 ≡ l = omega arith in
      record {
        count = c;
        i_le = omega arith;
        walkable = v;
        row = rw e (node_row t u l m lo k v);
        visits = rw e (sym (node_visits t u l m lo k v));
        entries = rw e (sym (node_entries t u l m lo k v));
      }

  module _ (level : ℕ) (m : List ℕ) (lo k n i low vs : ℕ) (es : List CellEntry) (a : AtChild t u level m lo k n i low vs es) where
    pub nothing_left : n ≤ i → drop i (children_in (part m k)) ≡ []
    nothing_left h =
        let c = children_count level m lo k a.walkable in
        let d = a.count in
        let s : length (children_in (part m k)) ≤ i = omega arith in
        drop_of_length-le (children_in (part m k)) s

    pub end_visits : n ≤ i → vs ≡ visits_below t level m lo k
    end_visits h =
        let e = rw (nothing_left h, row_no_visits t u (level - 1) m low k) at a.visits in
        omega arith

    pub end_entries : n ≤ i → es ≡ entries_below t u level m lo k
    end_entries h = sym (append-nil es) ∙ (rw (nothing_left h, row_no_entries t u (level - 1) m low k) at a.entries)

    module _ (h : i < n) (j : ℕ) (g : j ≡ child_at m k i) where
      next : drop i (children_in (part m k)) ≡ j ∷ drop (i + 1) (children_in (part m k))
      next = rw g (next_child level m lo k a.walkable i (rw a.count at h))

      step : RowStep t u (level - 1) m low k (j) (drop (i + 1) (children_in (part m k)))
      step = row_step t u (level - 1) m low k _ _ (rw next at a.row)

      pub child_walkable : Walkable (level - 1) m low (j)
      child_walkable = step.child

      pub child_polygon : PolygonPart m (j)
      child_polygon = walk_polygon (level - 1) m low _ child_walkable

      pub child_below : j < k
      child_below = step.below

      pub child_fits : Fits w32 (j + 1)
      child_fits = let b = child_below in let v = a.walkable.below in omega arith

      whole_visits : vs + (cond (t (polygon_in (part m (j)))) (visits_below t (level - 1) m low (j)) 0
          + visits_row t (level - 1) m (j + 1) k (drop (i + 1) (children_in (part m k)))) ≡ visits_below t level m lo k
      whole_visits = ap (λ w. vs + w) (sym step.visits) ∙ (rw next at a.visits)

      whole_entries : es ++ (cond (t (polygon_in (part m (j)))) (entries_below t u (level - 1) m low (j)) []
          ++ entries_row t u (level - 1) m (j + 1) k (drop (i + 1) (children_in (part m k)))) ≡ entries_below t u level m lo k
      whole_entries = ap (λ w. es ++ w) (sym step.entries) ∙ (rw next at a.entries)

      module _ (b : Bool) (e : b ≡ t (polygon_in (part m (j)))) where
        -- a child whose polygon does not pass is passed over
        pub child_miss : b ≡ false → AtChild t u level m lo k n (i + 1) (j + 1) vs es
        child_miss f =
            let z = rw (← e, f) at whole_visits in
            record {
              count = a.count;
              i_le = omega arith;
              walkable = a.walkable;
              row = step.others;
              visits = omega arith;
              entries = rw (← e, f) at whole_entries;
            }

        -- a child whose polygon passes is entered
        pub child_hit : b ≡ true → AtChild t u level m lo k n (i + 1) (j + 1)
            (vs + visits_below t (level - 1) m low (j)) (es ++ entries_below t u (level - 1) m low (j))
        child_hit f =
            let z = rw (← e, f) at whole_visits in
            record {
              count = a.count;
              i_le = omega arith;
              walkable = a.walkable;
              row = step.others;
              visits = omega arith;
              entries = append_assoc es _ _ ∙ (rw (← e, f) at whole_entries);
            }

    -- the walk so far made few visits
    pub so_far_few : vs ≤ 256
    so_far_few = let q = visits_few t u level m lo k a.walkable in let e = a.visits in omega arith
