-- The loop of the plan, from the leaf up: as long as nodes get one item too many, their lines are found; no node above is split.
use Prim.Native.Nat.{ℕ, zero, suc, ◌+◌, ◌-◌, ◌≤◌, ◌<◌}
use mathlib.Core.Bool.{Bool, true, false}
use mathlib.Core.Path.{◌≡◌, refl, sym, ap, ◌∙◌, subst}
use mathlib.Core.List.{List, [], ◌∷◌}
use native.Mathlib.Omega.{arith}
use native.Mathlib.Nat.{le_refl}
use native.Mathlib.Decide.{dec_lt, ℕ_discrete}
use borrow.Author.Tests.{le-leb, lt-leb, leb-true, leb-false}
use lib.Dec.{leb}
use lib.ListN.{length, length-append}
use Rattle.std.specs.Prelude.{None, is_none, unwrap_or}
use Rattle.geometry.specs.declared.rect.Line.{Line}
use Rattle.path.specs.declared.level.Level.{Level}
use Rattle.geometry.specs.declared.rect.Cell.{Cell}
use Rattle.tree.specs.Split.{split}
use Rattle.tree.specs.Plan.{row, few, line_at}
use Rattle.tree.proofs.GoodWays.{way_fits}
use Rattle.tree.proofs.SplitGroups.{split_one, split_two}
use Rattle.tree.proofs.OnePass.{few_row}
use Rattle.plane.specs.Fanout.{fanout, index_space}
use Rattle.plane.specs.Lines.{no_line, Payload, entry_of}
use Rattle.memory.specs.Layout.{part, item_count, entries_in}
use Rattle.memory.proofs.ReadingLaws.{entries_length}
use Rattle.layout.specs.Nodes.{count_at}
use Rattle.walks.specs.Walks.{Walkable}
use Rattle.path.specs.Path.{part_on, line_on, polygon_on}
use Rattle.path.proofs.PutLaws.{LinePut}
use Rattle.tree_after.specs.Path.{way_at, PathNode, PathFrom}
use Rattle.tree_after.proofs.PathLaws.{path_node}
use Rattle.insertion.specs.Planning.{GoodPath, Plannable, PlannedAt, FullLevels, AllSplit, SplitBelow, LineOfLevel, PlanMade}
use Rattle.insertion.proofs.NodePlan.{row_length_is}
use Rattle.insertion.proofs.PathLaws.{part_kept, line_kept, way_kept, polygon_kept, good_kept, path_below}

module _ (level : ℕ) (path : List Level) (m : List ℕ) (c : Cell) (g : GoodPath level path m c) where
  walk_at : (n : ℕ) → n ≤ level → Walkable n m 0 (part_on path n)
  walk_at n h = (path_node path m n (path_below path m level n g.from h)).walk

  abbrev row_at_length : ℕ → Payload → ℕ
  row_at_length n t = length (row index_space n (way_at n path m (entry_of c t)))

  leaf_length : (t : Payload) → row_at_length 0 t ≡ count_at m (part_on path 0) + 1
  unfolding row way_at
  leaf_length t =
      let k = part_on path 0 in
      let a = length-append (entries_in (part m k) (item_count (part m k))) (entry_of c t ∷ []) in
      let b = entries_length (part m k) (item_count (part m k)) in
      omega arith

  few_is : (n : ℕ) (t : Payload) → few index_space n (way_at n path m (entry_of c t)) ≡ leb (row_at_length n t) fanout
  few_is n t = few_row index_space n (way_at n path m (entry_of c t))

  node_length : (n : ℕ) → suc n ≤ level → (t : Payload)
      → row_at_length (suc n) t + 1 ≡ count_at m (part_on path (suc n)) + length (split index_space n (polygon_on path n) (row index_space n (way_at n path m (entry_of c t))))
  node_length n h t = row_length_is n path m (entry_of c t) (walk_at (suc n) h) (g.ways (suc n) h t) (g.goods (suc n) h t)

  split_below : (n : ℕ) → n ≤ level → (t : Payload) → few index_space n (way_at n path m (entry_of c t)) ≡ false
      → length (split index_space n (polygon_on path n) (row index_space n (way_at n path m (entry_of c t)))) ≡ 2
  split_below n h t f =
      let o = leb-false (row_at_length n t) fanout (sym (few_is n t) ∙ f) in
      split_two index_space n (polygon_on path n) (row index_space n (way_at n path m (entry_of c t))) o (way_fits index_space n (way_at n path m (entry_of c t)) (g.goods n h t) o)

  -- a node whose child on the path is split, or a leaf, gets one item more
  pub level_length : (n : ℕ) → n ≤ level → AllSplit n path m c → (t : Payload) → row_at_length n t ≡ count_at m (part_on path n) + 1
  level_length zero h s t = leaf_length t
  level_length (suc n) h s t =
      let a = node_length n h t in
      let b = split_below n (omega arith) t (s n (omega arith) t) in
      omega arith

  -- above a node that is not split none is
  upper_few : (n : ℕ) → suc n ≤ level → (t : Payload) → few index_space n (way_at n path m (entry_of c t)) ≡ true → few index_space (suc n) (way_at (suc n) path m (entry_of c t)) ≡ true
  upper_few n h t f =
      let o = leb-true (row_at_length n t) fanout (sym (few_is n t) ∙ f) in
      let a = node_length n h t in
      let b = split_one index_space n (polygon_on path n) (row index_space n (way_at n path m (entry_of c t))) o in
      let d = (walk_at (suc n) h).few in
      few_is (suc n) t ∙ le-leb (row_at_length (suc n) t) fanout (omega arith)

  all_few : (n j : ℕ) (t : Payload) → few index_space n (way_at n path m (entry_of c t)) ≡ true → n + j ≤ level → few index_space (n + j) (way_at (n + j) path m (entry_of c t)) ≡ true
  all_few n zero t f h = subst (λ (i : ℕ). few index_space i (way_at i path m (entry_of c t)) ≡ true) (let e : n ≡ n + zero = omega arith in e) f
  all_few n (suc j) t f h =
      subst (λ (i : ℕ). few index_space i (way_at i path m (entry_of c t)) ≡ true) (let e : suc (n + j) ≡ n + suc j = omega arith in e)
      (upper_few (n + j) (omega arith) t (all_few n j t f (omega arith)))

  -- a node that has eight items and gets one more is split
  eight_split : (n : ℕ) → n ≤ level → AllSplit n path m c → count_at m (part_on path n) ≡ 8 → (t : Payload) → few index_space n (way_at n path m (entry_of c t)) ≡ false
  eight_split n h s e t = let l = level_length n h s t in few_is n t ∙ lt-leb (row_at_length n t) fanout (omega arith)

  -- all of those that have eight are
  pub full_split : (n : ℕ) → n ≤ level + 1 → ((j : ℕ) → j < n → count_at m (part_on path j) ≡ 8) → AllSplit n path m c
  full_split zero h e j i t = absurd (omega arith)
  full_split (suc n) h e j i t = go (ℕ_discrete j n) (full_split n (omega arith) (λ k o. e k (omega arith)))
    where
      go : Dec (j ≡ n) → AllSplit n path m c → few index_space j (way_at j path m (entry_of c t)) ≡ false
      go (yes z) below = subst (λ (x : ℕ). few index_space x (way_at x path m (entry_of c t)) ≡ false) (sym z) (eight_split n (omega arith) below (e n (omega arith)) t)
      go (no z) below = below j (omega arith) t

-- Before the node on the path at level n gets its line: those below have theirs, and those from n on have none yet.
pub record Planning (level : ℕ) (path₀ : List Level) (m : List ℕ) (k : ℕ) (c : Cell) (n : ℕ) (path : List Level) : Type 0 where
  pub n_le : n ≤ k
  pub levels : FullLevels level path m k
  pub path_is : GoodPath level path m c
  pub splits : SplitBelow n path m c
  pub rest : (j : ℕ) → n ≤ j → j ≤ level → line_on path j ≡ None
  pub same_length : length path ≡ length path₀
  pub part : part_on path level ≡ part_on path₀ level
  pub polygon : polygon_on path level ≡ polygon_on path₀ level

pub plan_start : (level : ℕ) (path : List Level) (m : List ℕ) (splits : ℕ) (c : Cell) → Plannable level path m c → FullLevels level path m splits → Planning level path m splits c 0 path
plan_start level path m splits c g f = record {
  n_le = omega arith;
  levels = f;
  path_is = g.path_is;
  splits = record { each = λ j h t. absurd (omega arith); all = λ j h t. absurd (omega arith) };
  rest = λ j h i. g.unsplit j i;
  same_length = refl;
  part = refl;
  polygon = refl;
}

module _ (level : ℕ) (path₀ : List Level) (m : List ℕ) (splits : ℕ) (c : Cell) (n : ℕ) (path : List Level) (a : Planning level path₀ m splits c n path) where
  in_path : n < splits → n ≤ level
  in_path h = let i = a.levels.most in omega arith

  -- the node at level n on the path
  pub plan_node : n < splits → PathNode n path m
  plan_node h = path_node path m n (path_below path m level n a.path_is.from (in_path h))

  module _ (r : Line) (o : n < splits) (l : LineOfLevel n path m c r) (path₁ : List Level) (v : LinePut path n r path₁) where
    h : n ≤ level
    h = in_path o

    from_n : (j : ℕ) → j ≤ n → PathFrom j path m
    from_n j i = path_below path m level j a.path_is.from (omega arith)

    same_way : (j : ℕ) (t : Payload) → j ≤ n → way_at j path₁ m (entry_of c t) ≡ way_at j path m (entry_of c t)
    same_way j t i = way_kept path n r path₁ v m j (entry_of c t) (from_n j i)

    not_few : (t : Payload) → few index_space n (way_at n path m (entry_of c t)) ≡ false
    not_few t = eight_split level path m c a.path_is n h a.splits.all (a.levels.full n o) t

    planned_here : (t : Payload) → PlannedAt n path₁ m (entry_of c t)
    planned_here t =
        let p = v.line in
        let f : few index_space n (way_at n path₁ m (entry_of c t)) ≡ false = ap (few index_space n) (same_way n t (le_refl n)) ∙ not_few t in
        record {
          split = ap is_none p ∙ sym f;
          line = λ z. ap (λ o. unwrap_or o no_line) p ∙ l t ∙ ap (line_at index_space n) (sym (same_way n t (le_refl n)));
        }

    planned_low : (j : ℕ) → j < n → (t : Payload) → PlannedAt j path₁ m (entry_of c t)
    planned_low j i t =
        let q = a.splits.each j i t in
        let k = line_kept path n r path₁ v j (λ (z : j ≡ n). omega arith) in
        let w = same_way j t (omega arith) in
        record {
          split = ap is_none k ∙ q.split ∙ ap (few index_space j) (sym w);
          line = λ z. ap (λ o. unwrap_or o no_line) k ∙ q.line (ap (few index_space j) (sym w) ∙ z) ∙ ap (line_at index_space j) (sym w);
        }

    -- the levels that are split are the same
    levels_kept : FullLevels level path₁ m splits
    levels_kept = record {
      most = a.levels.most;
      full = λ j i. ap (count_at m) (part_kept path n r path₁ v j) ∙ a.levels.full j i;
      next = λ i. let k = a.levels.next i in let e = ap (count_at m) (part_kept path n r path₁ v splits) in omega arith;
    }

    pub plan_again : Planning level path₀ m splits c (n + 1) path₁
    plan_again = record {
      n_le = omega arith;
      levels = levels_kept;
      path_is = good_kept path n r path₁ v m level c a.path_is;
      splits = record { each = λ j i t. each j i (ℕ_discrete j n) t; all = λ j i t. all j i (ℕ_discrete j n) t };
      rest = λ j i k. line_kept path n r path₁ v j (λ (z : j ≡ n). omega arith) ∙ a.rest j (omega arith) k;
      same_length = v.same_length ∙ a.same_length;
      part = part_kept path n r path₁ v level ∙ a.part;
      polygon = polygon_kept path n r path₁ v level ∙ a.polygon;
    }
      where
        each : (j : ℕ) → j < n + 1 → Dec (j ≡ n) → (t : Payload) → PlannedAt j path₁ m (entry_of c t)
        each j i (yes z) t = subst (λ (x : ℕ). PlannedAt x path₁ m (entry_of c t)) (sym z) (planned_here t)
        each j i (no z) t = planned_low j (omega arith) t

        all : (j : ℕ) → j < n + 1 → Dec (j ≡ n) → (t : Payload) → few index_space j (way_at j path₁ m (entry_of c t)) ≡ false
        all j i (yes z) t = subst (λ (x : ℕ). few index_space x (way_at x path₁ m (entry_of c t)) ≡ false) (sym z) (ap (few index_space n) (same_way n t (le_refl n)) ∙ not_few t)
        all j i (no z) t = ap (few index_space j) (same_way j t (omega arith)) ∙ a.splits.all j (omega arith) t

  -- the nodes that are split have their lines, and none above is split
  pub plan_end : splits ≤ n → PlanMade level path₀ m c path
  plan_end o = record {
    path_is = a.path_is;
    planned = record { each = λ j i t. each j i (dec_lt j n) t };
    same_length = a.same_length;
    part = a.part;
    polygon = a.polygon;
  }
    where
      n_is : n ≡ splits
      n_is = let i = a.n_le in omega arith

      here : n ≤ level → (t : Payload) → few index_space n (way_at n path m (entry_of c t)) ≡ true
      here h t =
          let e = level_length level path m c a.path_is n h a.splits.all t in
          let f : count_at m (part_on path n) < 8 = subst (λ (x : ℕ). x ≤ level → count_at m (part_on path x) < 8) (sym n_is) a.levels.next h in
          few_is level path m c a.path_is n t ∙ le-leb (length (row index_space n (way_at n path m (entry_of c t)))) fanout (omega arith)

      each : (j : ℕ) → j ≤ level → Dec (j < n) → (t : Payload) → PlannedAt j path m (entry_of c t)
      each j i (yes z) t = a.splits.each j z t
      each j i (no z) t =
          let q : n + (j - n) ≡ j = omega arith in
          let w : few index_space j (way_at j path m (entry_of c t)) ≡ true = subst (λ (x : ℕ). few index_space x (way_at x path m (entry_of c t)) ≡ true) q (all_few level path m c a.path_is n (j - n) t (here (omega arith) t) (omega arith)) in
          record {
            split = ap is_none (a.rest j (omega arith) i) ∙ sym w;
            line = λ y. absurd (no_both (few index_space j (way_at j path m (entry_of c t))) w y);
          }
        where
          no_both : (b : Bool) → b ≡ true → b ≡ false → ⊥
          no_both true x y = let z : ◌≡◌ {A = ℕ} 0 1 = cc in absurd (omega arith)
          no_both false x y = let z : ◌≡◌ {A = ℕ} 0 1 = cc in absurd (omega arith)
