-- The whole tree, written and counted: its root is split or not.
use Prim.Native.Nat.{ℕ, suc, ◌+◌, ◌*◌, ◌≤◌, ◌<◌, min}
use mathlib.Core.Path.{◌≡◌, refl, sym, ap, ◌∙◌}
use mathlib.Core.List.{List, [], ◌∷◌, ◌++◌, append-nil, append_assoc, flat_map}
use mathlib.Core.Option.{some}
use native.Mathlib.Omega.{arith}
use lib.ListN.{length, take}
use Rattle.path.specs.declared.level.Level.{Level}
use Rattle.std.specs.Prelude.{Some, None}
use Rattle.geometry.specs.declared.rect.Line.{Line}
use Rattle.geometry.specs.declared.rect.Side.{Side}
use Rattle.geometry.specs.declared.rect.Side.TheVariants.{Left, Right}
use Rattle.tree.specs.Lists.{total}
use Rattle.tree.specs.Space.{right}
use Rattle.tree.specs.Nodes.{Item, nodes}
use Rattle.tree.specs.Tree.{Tree, top, node_count}
use Rattle.plane.specs.Lines.{CellEntry}
use Rattle.plane.specs.Fanout.{fanout, index_space}
use Rattle.memory.specs.Image.{write_row, write_node}
use Rattle.layout.specs.Loaded.{node_of}
use Rattle.split_line.specs.Sides.{side_of, sides_of}
use Rattle.path.specs.Path.{line_on, polygon_on}
use Rattle.tree_after.specs.declared.node.Branches.{Branches}
use Rattle.tree_after.specs.declared.on_path.Written.{Written}
use Rattle.tree_after.specs.Writes.{Writes, Room, counted}
use Rattle.tree_after.specs.Path.{row_under, half_under, cut_under, planned_tree}
use Rattle.tree_after.specs.Rows.{kept, node_parts, NodeWritten, NodeRoom, with_branch, no_branches, Grows, RestRoom}
use Rattle.tree_after.specs.Whole.{TreeRoom, TreeWritten}
use Rattle.tree_after.proofs.CutLaws.{front_is, cut_split}
use Rattle.tree_after.proofs.DeepRows.{under_one}
use Rattle.tree_after.proofs.HalfLaws.{rest_first, rest_later}
use Rattle.tree_after.proofs.PathCount.{cut_count}
use Rattle.tree_after.proofs.RowLaws.{grows_none, grows_one, grows_more}
use Rattle.tree_after.proofs.BranchLaws.{top_node, grown_row}

-- a tree by its root
module _ (t : Tree index_space) (w : List ℕ) where
  tree_nodes : total (nodes index_space (suc t.level)) (top index_space t ∷ []) ≡ node_count index_space (some t)
  unfolding total nodes
  tree_nodes = omega arith

  tree_room : TreeRoom w t → Room t.level w 0 (top index_space t ∷ [])
  tree_room r = let n = tree_nodes in let f = r.fits in record { fits = omega arith; small = r.small }

  tree_written : (w₁ : List ℕ) (r : Written) → Writes t.level w 0 (top index_space t ∷ []) w₁ r.parts → r.height ≡ suc t.level → TreeWritten w t w₁ r
  unfolding write_row
  tree_written w₁ r x h =
      let n = tree_nodes in
      let a = x.next_is in
      record {
        parts_is = omega arith;
        height_is = h;
        written = x.written ∙ ap (λ (ps : List (List ℕ)). take 64 w ++ flat_map (λ p. p) ps) (append-nil (write_node fanout t.level 0 (top index_space t)));
        same_length = x.same_length;
      }

module _ (n : ℕ) (path : List Level) (m : List ℕ) (e : CellEntry) where
  -- the tree where the root is not split
  abbrev whole_tree : Tree index_space
  whole_tree = record { level = n; root = polygon_on path n; items = row_under n path m e [] }

  -- and where it is
  abbrev split_tree : Tree index_space
  split_tree = record { level = suc n; root = polygon_on path n; items = cut_under n path m e [] }

  plan_whole : line_on path n ≡ None → planned_tree n path m e ≡ whole_tree
  unfolding planned_tree
  plan_whole z = rw z

  plan_split : (l : Line) → line_on path n ≡ Some l → planned_tree n path m e ≡ split_tree
  unfolding planned_tree
  plan_split l h = rw h

  half_whole : half_under n path m e (sides_of []) ≡ top index_space whole_tree ∷ []
  unfolding half_under sides_of
  half_whole = refl

  module _ (w : List ℕ) where
    pub whole_tree_room : line_on path n ≡ None → TreeRoom w (planned_tree n path m e) → Room n w 0 (half_under n path m e (sides_of []))
    whole_tree_room z r = rw half_whole (tree_room whole_tree w (rw (plan_whole z) at r))

    pub whole_tree_lem : line_on path n ≡ None → (w₁ : List ℕ) (p : ℕ) → Writes n w 0 (half_under n path m e (sides_of [])) w₁ p
        → TreeWritten w (planned_tree n path m e) w₁ (record { parts = p; height = n + 1 })
    whole_tree_lem z w₁ p x = rw (plan_whole z) (tree_written whole_tree w w₁ (record { parts = p; height = n + 1 }) (rw half_whole at x) (omega arith))

    pub split_tree_room : (l : Line) → line_on path n ≡ Some l → TreeRoom w (planned_tree n path m e) → RestRoom n [] (cut_under n path m e (sides_of [])) w (no_branches 0)
    unfolding kept node_parts sides_of
    split_tree_room l h r =
        let r' : TreeRoom w split_tree = rw (plan_split l h) at r in
        let f : 64 + 128 * (1 + total (nodes index_space (suc n)) (cut_under n path m e [])) ≤ length w = r'.fits in
        let g : 64 + 128 * (0 + total (nodes index_space (suc n)) (cut_under n path m e []) + 1) ≤ length w = omega arith in
        record { fits = g; small = r'.small }

    pub split_tree_lem : (l : Line) → line_on path n ≡ Some l → (w₁ : List ℕ) (p : ℕ) → Writes (suc n) w 0 (top index_space split_tree ∷ []) w₁ p
        → TreeWritten w (planned_tree n path m e) w₁ (record { parts = p; height = n + 2 })
    split_tree_lem l h w₁ p x = rw (plan_split l h) (tree_written split_tree w w₁ (record { parts = p; height = n + 2 }) x (omega arith))

  -- the counts
  pub whole_tree_count : (r : ℕ) → line_on path n ≡ None → r ≡ counted n (half_under n path m e (sides_of [])) → r ≡ min 257 (node_count index_space (some (planned_tree n path m e)))
  unfolding counted
  whole_tree_count r z q = rw (plan_whole z) (q ∙ ap (λ l. min 257 (total (nodes index_space (suc n)) l)) half_whole ∙ ap (min 257) (tree_nodes whole_tree []))

  pub split_tree_count : (l : Line) (us vs : List Side) (lefts rights both r : ℕ) → line_on path n ≡ Some l
      → us ≡ Left l ∷ [] → lefts ≡ counted n (half_under n path m e (sides_of us))
      → vs ≡ Right l ∷ [] → rights ≡ counted n (half_under n path m e (sides_of vs))
      → both ≡ min 257 (lefts + rights) → r ≡ min 257 (both + 1) → r ≡ min 257 (node_count index_space (some (planned_tree n path m e)))
  unfolding counted sides_of
  split_tree_count l us vs lefts rights both r h u a v b d c =
      let q : both ≡ min 257 (total (nodes index_space (suc n)) (cut_under n path m e [])) = d ∙ cut_count n path m e [] l us vs lefts rights h u a v b in
      rw (plan_split l h) (omega arith)

-- no branch so far
module _ (t : Branches) (z : t ≡ no_branches 0) where
  pub none_next : (after : ℕ) → t.next ≤ after
  none_next after = rw z (omega arith)

  pub none_few : t.node.count < 9
  unfolding node_of
  none_few = rw z (omega arith)

-- A part of the two branches of a split root is written; the rest is to come.
pub record RootAt (n : ℕ) (path : List Level) (m : List ℕ) (e : CellEntry) (w : List ℕ) (more : ℕ) (rest : List (Item index_space (suc n))) (w₁ : List ℕ) (t : Branches) : Type 0 where
  pub bs : List (Item index_space (suc n))
  pub whole : bs ++ rest ≡ cut_under n path m e (sides_of [])
  pub grows : Grows n w (no_branches 0) bs w₁ t
  pub room : RestRoom n [] rest w₁ t
  pub few : t.node.count ≤ more

-- the branch right of the line
abbrev pub right_half : (n : ℕ) → List Level → List ℕ → CellEntry → Line → List (Item index_space (suc n))
right_half n path m e l = half_under n path m e (right l ∷ sides_of [])

module _ (n : ℕ) (path : List Level) (m : List ℕ) (e : CellEntry) (w : List ℕ) where
  root_one : (more : ℕ) (cs rest : List (Item index_space (suc n))) (w₁ : List ℕ) (t : Branches) → RootAt n path m e w more (cs ++ rest) w₁ t → more ≤ 1
      → (w₂ : List ℕ) (after : ℕ) (t₂ : Branches) → length cs ≤ 1 → Writes n w₁ t.next cs w₂ after → t₂ ≡ with_branch t after → RootAt n path m e w (more + 1) rest w₂ t₂
  root_one more cs rest w₁ t x u w₂ after t₂ o y q =
      let f = x.few in
      let g : Grows n w₁ t cs w₂ t₂ = rw q (grows_one n w₁ t w₂ after (omega arith) cs o y) in
      record {
        bs = x.bs ++ cs;
        whole = append_assoc x.bs cs rest ∙ x.whole;
        grows = grows_more n w (no_branches 0) x.bs w₁ t cs w₂ t₂ x.grows g;
        room = rest_later n [] cs rest w₁ t x.room w₂ t₂ g;
        few = (let c = g.count_is in omega arith);
      }

  half_at_most : (us : List Side) → length (half_under n path m e (sides_of us)) ≤ 1
  unfolding half_under
  half_at_most us = under_one (polygon_on path n) (row_under n path m e (sides_of us)) (sides_of us)

  module _ (l : Line) (i : line_on path n ≡ Some l) (r : RestRoom n [] (cut_under n path m e (sides_of [])) w (no_branches 0)) (t : Branches) (z : t ≡ no_branches 0)
      (us : List Side) (u : us ≡ Left l ∷ []) where
    root_start : RootAt n path m e w 0 (half_under n path m e (sides_of us) ++ right_half n path m e l) w t
    unfolding node_of
    root_start =
        let c = cut_split n path m e [] l us i u in
        rw z (record { bs = []; whole = sym c; grows = grows_none n w (no_branches 0); room = rw c at r; few = omega arith })

    pub root_left_room : Room n w 0 (half_under n path m e (sides_of us))
    root_left_room = rw z at (rest_first n [] (half_under n path m e (sides_of us)) (right_half n path m e l) w t root_start.room)

    pub root_left : (w₁ : List ℕ) (after : ℕ) (t₁ : Branches) → Writes n w 0 (half_under n path m e (sides_of us)) w₁ after → t₁ ≡ with_branch t after
        → RootAt n path m e w 1 (right_half n path m e l) w₁ t₁
    root_left w₁ after t₁ y q =
        root_one 0 (half_under n path m e (sides_of us)) (right_half n path m e l) w t root_start (omega arith) w₁ after t₁ (half_at_most us) (rw z y) q

  module _ (w₁ : List ℕ) (t : Branches) (l : Line) (x : RootAt n path m e w 1 (right_half n path m e l) w₁ t)
      (us : List Side) (u : us ≡ Right l ∷ []) where
    root_middle : RootAt n path m e w 1 (half_under n path m e (sides_of us) ++ []) w₁ t
    unfolding side_of
    root_middle = rw (append-nil (half_under n path m e (sides_of us)), front_is us [] (Right l) u) x

    pub root_right_room : Room n w₁ t.next (half_under n path m e (sides_of us))
    root_right_room = rest_first n [] (half_under n path m e (sides_of us)) [] w₁ t root_middle.room

    pub root_right : (w₂ : List ℕ) (after : ℕ) (t₂ : Branches) → Writes n w₁ t.next (half_under n path m e (sides_of us)) w₂ after → t₂ ≡ with_branch t after
        → RootAt n path m e w 2 [] w₂ t₂
    root_right w₂ after t₂ y q = root_one 1 (half_under n path m e (sides_of us)) [] w₁ t root_middle (omega arith) w₂ after t₂ (half_at_most us) y q

  -- the root on top of them
  module _ (w₁ : List ℕ) (t : Branches) (x : RootAt n path m e w 2 [] w₁ t) where
    pub root_top_room : NodeRoom [] t.node w₁ t.next
    unfolding kept node_parts total
    root_top_room =
        let g : 64 + 128 * (t.next + 0 + 1) ≤ length w₁ = x.room.fits in
        let h : 64 + 128 * (t.next + 1) ≤ length w₁ = omega arith in
        record { fits = h; small = x.room.small }

    pub root_done : (w₂ : List ℕ) (r : ℕ) → NodeWritten (polygon_on path n) t.node [] w₁ t.next w₂ r
        → Writes (suc n) w 0 (record { poly = polygon_on path n; child = cut_under n path m e [] } ∷ []) w₂ r
    unfolding sides_of
    root_done w₂ r y =
        let c : x.bs ≡ cut_under n path m e [] = sym (append-nil x.bs) ∙ x.whole in
        let g : Grows n w (no_branches 0) (cut_under n path m e []) w₁ t = rw c at x.grows in
        top_node n (polygon_on path n) [] (cut_under n path m e []) t.node w 0 w₁ t.next w₂ r (grown_row n w 0 (cut_under n path m e []) w₁ t g) y
