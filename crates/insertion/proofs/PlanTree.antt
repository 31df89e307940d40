-- A planned path is written as the tree that the definition gives.
use Prim.Native.Nat.{ℕ, zero, suc, ◌≤◌}
use mathlib.Core.Bool.{Bool, true, false}
use mathlib.Core.Path.{◌≡◌, refl, sym, ap, ◌∙◌}
use mathlib.Core.List.{List, [], ◌∷◌}
use mathlib.Core.Option.{some, bind}
use lib.ListN.{length}
use native.Mathlib.Omega.{arith}
use native.Mathlib.Nat.{le_refl}
use borrow.Author.Tests.{leb-false}
use Rattle.std.specs.Prelude.{is_none}
use Rattle.path.specs.declared.level.Level.{Level}
use Rattle.geometry.specs.declared.rect.Rect.{Rect}
use Rattle.geometry.specs.declared.rect.Line.{Line}
use Rattle.tree.specs.Space.{Side, left, right}
use Rattle.tree.specs.Nodes.{Item}
use Rattle.tree.specs.Tree.{Tree}
use Rattle.tree.specs.Insert.{rooted, insert_tree}
use Rattle.tree.specs.Plan.{Way, descend, row, few, line_at, cut_into, write_row, write}
use Rattle.tree.proofs.OnePass.{write_all, few_row}
use Rattle.tree.proofs.PlanIndex.{insert_by_plan}
use Rattle.tree.proofs.Pass.{under_deep}
use Rattle.tree.proofs.GoodWays.{GoodWay, way_fits}
use Rattle.tree.proofs.SplitGroups.{split_two}
use Rattle.plane.specs.Lines.{CellEntry}
use Rattle.plane.specs.Fanout.{fanout, index_space, index_root}
use Rattle.path.specs.Path.{line_on, polygon_on}
use Rattle.tree_after.specs.Path.{cut_line, way_at, row_under, cut_under, planned_tree}
use Rattle.insertion.specs.Planning.{PlannedAt}

-- the branches of a node, by a plan and by the definition
same_cut : {A : Type 0} (b d : Bool) (k l : Line) (p : List Rect) (f g : List (Side Line) → List A) (ss : List (Side Line)) → b ≡ d → (d ≡ false → k ≡ l) → ((ts : List (Side Line)) → f ts ≡ g ts)
    → cut_into index_space b k p f ss ≡ cut_into index_space d l p g ss
same_cut b true k l p f g ss e h i = rw (e, i ss)
same_cut b false k l p f g ss e h i = rw (e, h refl, i (left l ∷ ss), i (right l ∷ ss))

pub row_written : (n : ℕ) (path : List Level) (m : List ℕ) (e : CellEntry) → ((j : ℕ) → j ≤ n → PlannedAt j path m e) → (ss : List (Side Line)) → row_under n path m e ss ≡ write_row index_space n ss (way_at n path m e)
unfolding row_under write_row way_at
row_written zero path m e h ss = sym (under_deep index_space zero ss (way_at zero path m e))
row_written (suc n) path m e h ss =
    let q = h n (omega arith) in
    rw (
      under_deep index_space (suc n) ss (way_at (suc n) path m e).before,
      under_deep index_space (suc n) ss (way_at (suc n) path m e).after,
      same_cut (is_none (line_on path n)) (few index_space n (way_at n path m e)) (cut_line path n) (line_at index_space n (way_at n path m e)) (polygon_on path n)
          (λ ts. row_under n path m e ts) (λ ts. write_row index_space n ts (way_at n path m e)) ss q.split q.line (row_written n path m e (λ j i. h j (omega arith))),
    )

module _ (n : ℕ) (path : List Level) (m : List ℕ) (e : CellEntry) (h : (j : ℕ) → j ≤ n → PlannedAt j path m e) (good : GoodWay index_space n (way_at n path m e)) where
  abbrev p : List Rect
  p = polygon_on path n

  abbrev w : Way index_space n
  w = way_at n path m e

  cut_written : cut_under n path m e [] ≡ write index_space n [] p w
  unfolding cut_under
  cut_written =
      let q = h n (le_refl n) in
      same_cut (is_none (line_on path n)) (few index_space n w) (cut_line path n) (line_at index_space n w) p (λ ts. row_under n path m e ts) (λ ts. write_row index_space n ts w) [] q.split q.line (row_written n path m e h)

  rooted_two : (l : List (Item index_space (suc n))) → length l ≡ 2 → rooted index_space n p l ≡ record { level = suc n; root = p; items = l }
  rooted_two [] i = absurd (omega arith)
  rooted_two (a ∷ []) i = absurd (omega arith)
  rooted_two (a ∷ b ∷ l) i = refl

  one : few index_space n w ≡ true → rooted index_space n p (write index_space n [] p w) ≡ planned_tree n path m e
  unfolding planned_tree
  one f = rw (f, (h n (le_refl n)).split ∙ f, row_written n path m e h [])

  two : few index_space n w ≡ false → rooted index_space n p (write index_space n [] p w) ≡ planned_tree n path m e
  unfolding planned_tree
  two f =
      let o = leb-false (length (row index_space n w)) fanout (sym (few_row index_space n w) ∙ f) in
      let len : length (write index_space n [] p w) ≡ 2 = ap length (write_all index_space n p w) ∙ split_two index_space n p (row index_space n w) o (way_fits index_space n w good o) in
      rooted_two (write index_space n [] p w) len ∙ rw ((h n (le_refl n)).split ∙ f, cut_written)

  -- what takes the root's place, as the tree after
  pub planned_root : rooted index_space n p (write index_space n [] p w) ≡ planned_tree n path m e
  planned_root = go (few index_space n w) refl
    where
      go : (b : Bool) → few index_space n w ≡ b → rooted index_space n p (write index_space n [] p w) ≡ planned_tree n path m e
      go true f = one f
      go false f = two f

-- The tree after is the planned tree, where the path starts at the root with its polygon as grown.
pub planned_insert : (t : Tree index_space) (path : List Level) (m : List ℕ) (e : CellEntry) → ((j : ℕ) → j ≤ t.level → PlannedAt j path m e)
    → GoodWay index_space t.level (way_at t.level path m e) → index_root.grow_root t.root e.cell ≡ polygon_on path t.level
    → descend index_space t.level (polygon_on path t.level) t.items e ≡ some (way_at t.level path m e)
    → insert_tree index_space index_root (some t) e ≡ some (planned_tree t.level path m e)
unfolding bind
planned_insert t path m e h good g d =
    insert_by_plan index_space index_root t e
    ∙ ap (λ (p : List Rect). bind (descend index_space t.level p t.items e) (λ w. some (rooted index_space t.level p (write index_space t.level [] p w)))) g
    ∙ rw d (ap some (planned_root t.level path m e h good))
