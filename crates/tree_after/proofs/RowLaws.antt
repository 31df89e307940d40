-- The branches of a routing node in a memory, and the loop that writes what remains of them under sides.
use Prim.Native.Nat.{ℕ, suc, ◌+◌, ◌-◌, ◌≤◌, ◌<◌}
use mathlib.Core.Path.{◌≡◌, refl, sym, ap, ◌∙◌}
use mathlib.Core.List.{List, [], ◌∷◌, ◌++◌, append_assoc, append-nil, flat_map}
use mathlib.Core.Option.{some}
use native.Mathlib.Omega.{arith}
use native.Mathlib.Numerals.{add-one}
use borrow.Author.Tests.{eq-eqb, ne_eqb}
use lib.ListN.{length, take, drop, get_or, length-append}
use lib.Seq.{drop-cons, length-take-le}
use Rattle.std.proofs.lemmas.List.{get_or-take, get_or-drop, length-drop}
use Rattle.geometry.specs.declared.rect.Side.{Side}
use Rattle.tree.specs.Lists.{total}
use Rattle.tree.specs.Nodes.{Item, nodes}
use Rattle.tree.proofs.Counts.{total_append}
use Rattle.plane.specs.Fanout.{fanout, index_space}
use Rattle.memory.specs.Layout.{part, children_in}
use Rattle.memory.specs.Image.{write_row, write_node}
use Rattle.memory.specs.Reading.{read_node}
use Rattle.memory.proofs.NodeImage.{length_node}
use Rattle.memory.proofs.ReadingLaws.{low_at, row_at_lem, row_length, node_parts_lem, node_lower}
use Rattle.layout.specs.declared.node.Node.{Node}
use Rattle.layout.specs.Loaded.{node_of, routing_of, with_child}
use Rattle.layout.specs.Nodes.{child_at, count_at}
use Rattle.layout.proofs.NodeLaws.{child_in_lem}
use Rattle.layout.proofs.LoadedLaws.{count_children, child_more}
use Rattle.walks.specs.Walks.{Walkable}
use Rattle.walks.proofs.WalkChildren.{children_here, child_here}
use Rattle.walks.proofs.WalkLoop.{children_count}
use Rattle.walks.proofs.WalkRows.{walkable}
use Rattle.tree_after.specs.declared.node.Branches.{Branches}
use Rattle.tree_after.specs.Writes.{Writes, Room, deep_of, deep_at}
use Rattle.tree_after.specs.Path.{row_or, row_at}
use Rattle.tree_after.specs.Rows.{with_branch, no_branches, Grows, range_under}
use Rattle.tree_after.proofs.DeepRows.{deep_one}
use Rattle.tree_after.proofs.WriteLaws.{parts_from, branches_from, row_roots_append, length_parts, writes_none, writes_more}

-- The i-th branch of the node at part k, which is at part j, as it reads from the first part on, and the branches from it on.
pub record BranchAt (n : ℕ) (m : List ℕ) (k i j : ℕ) : Type 0 where
  pub branch : Item index_space (suc n)
  pub reads : read_node fanout n m 0 j ≡ some branch
  pub walk : Walkable n m 0 j
  pub next : drop i (row_at n m k) ≡ branch ∷ drop (i + 1) (row_at n m k)

-- the branches of a node that reads
pub row_of : (n : ℕ) (m : List ℕ) (k : ℕ) (b : Item index_space (suc (suc n))) → read_node fanout (suc n) m 0 k ≡ some b → row_at n m k ≡ b.child
unfolding row_at row_or
row_of n m k b e = rw (node_parts_lem fanout n m 0 k b e).row

module _ (n : ℕ) (m : List ℕ) (k : ℕ) (v : Walkable (suc n) m 0 k) where
  row_is : row_at n m k ≡ v.node.child
  row_is = row_of n m k v.node v.reads

  -- a node has as many branches as its part says
  pub row_count : length (row_at n m k) ≡ count_at m k
  row_count =
      ap length row_is
      ∙ row_length (read_node fanout n m) 0 k (children_in (part m k)) v.node.child (node_parts_lem fanout n m 0 k v.node v.reads).row
      ∙ children_count (suc n) m 0 k v

  pub branch_at : (i j : ℕ) → i < count_at m k → j ≡ child_at m k i → BranchAt n m k i j
  branch_at i j h q =
      let p = node_parts_lem fanout n m 0 k v.node v.reads in
      let ks : List ℕ = children_in (part m k) in
      let d : Item index_space (suc n) = record { poly = []; child = [] } in
      let b : Item index_space (suc n) = get_or v.node.child i d in
      let s : i < length ks = rw (children_count (suc n) m 0 k v) h in
      let l : i < length v.node.child = rw (← row_is, row_count) h in
      let low = node_lower fanout n m (low_at 0 ks i) 0 (get_or ks i 0) b (omega arith) (row_at_lem (read_node fanout n m) 0 k ks i v.node.child d p.row s) in
      let r : read_node fanout n m 0 j ≡ some b = rw (child_in_lem (part m k) i h, ← q) at low in
      record {
        branch = b;
        reads = r;
        walk = walkable n m 0 j b v.right (omega arith) r;
        next = rw (row_is, add-one) (drop-cons v.node.child i d l);
      }

  module _ (ss : List Side) where
    -- a range of branches taken apart: its first and the others
    pub range_cons : (i to j : ℕ) → i < to → to ≤ count_at m k → j ≡ child_at m k i → range_under n m k i to ss ≡ deep_at n m 0 j ss ++ range_under n m k (i + 1) to ss
    unfolding range_under deep_at deep_of flat_map
    range_cons i to j h l q =
        let b = branch_at i j (omega arith) q in
        let e : to - i ≡ suc (to - (i + 1)) = omega arith in
        rw (e, b.next, b.reads)

pub range_none : (n : ℕ) (m : List ℕ) (k i : ℕ) (ss : List Side) → range_under n m k i i ss ≡ []
unfolding range_under flat_map
range_none n m k i ss = let e : i - i ≡ 0 = omega arith in rw e

-- the branches of the node from one place up to another, as its children ks are lent
module _ (n : ℕ) (m : List ℕ) (k : ℕ) (v : Walkable (suc n) m 0 k) (from to : ℕ) (h : from ≤ to) (l : to ≤ count_at m k)
    (ks : List ℕ) (q : ks ≡ children_in (part m k)) where
  pub range_in : to ≤ length ks
  range_in = let c = children_here (suc n) m 0 k v ks q in omega arith

  range_length : length (take (to - from) (drop from ks)) ≡ to - from
  range_length = let c = range_in in length-take-le (to - from) (drop from ks) (rw length-drop (omega arith))

  module _ (i : ℕ) where
    pub range_inside : i < length (take (to - from) (drop from ks)) → from + i < to
    range_inside g = let c = range_length in omega arith

    pub range_over : length (take (to - from) (drop from ks)) ≤ i → to ≤ from + i
    range_over g = let c = range_length in omega arith

    pub range_child : i < length (take (to - from) (drop from ks)) → get_or (take (to - from) (drop from ks)) i 0 ≡ child_at m k (from + i)
    range_child g =
        let c = range_length in
        let d = range_inside g in
        get_or-take (to - from) (drop from ks) i 0 (omega arith) ∙ get_or-drop from ks i 0
        ∙ child_here (suc n) m 0 k v ks q (from + i) (let e = range_in in omega arith)

-- branches that follow one another fit where all of them fit
module _ (n : ℕ) (w : List ℕ) (next : ℕ) (bs cs : List (Item index_space (suc n))) (r : Room n w next (bs ++ cs)) where
  pub room_first : Room n w next bs
  room_first =
      let t = total_append (nodes index_space (suc n)) bs cs in
      let f = r.fits in
      record { fits = omega arith; small = r.small }

  pub room_rest : (w₁ : List ℕ) (next₁ : ℕ) → Writes n w next bs w₁ next₁ → Room n w₁ next₁ cs
  room_rest w₁ next₁ x =
      let t = total_append (nodes index_space (suc n)) bs cs in
      let f = r.fits in
      let s = r.small in
      let a = x.next_is in
      let l = x.same_length in
      record { fits = omega arith; small = omega arith }

-- writing moves on
pub writes_on : (n : ℕ) (w : List ℕ) (next : ℕ) (bs : List (Item index_space (suc n))) (w₁ : List ℕ) (next₁ : ℕ) → Writes n w next bs w₁ next₁ → next ≤ next₁
writes_on n w next bs w₁ next₁ x = let a = x.next_is in omega arith

-- no branch
pub grows_none : (n : ℕ) (w : List ℕ) (t : Branches) → Grows n w t [] w t
unfolding write_row
grows_none n w t = record { writes = writes_none n w t.next; count_is = omega arith; children = λ ks q. q ∙ ap routing_of (sym (append-nil ks)) }

-- some branches, and then some more
pub grows_more : (n : ℕ) (w : List ℕ) (t : Branches) (bs : List (Item index_space (suc n))) (w₁ : List ℕ) (t₁ : Branches)
    (cs : List (Item index_space (suc n))) (w₂ : List ℕ) (t₂ : Branches) → Grows n w t bs w₁ t₁ → Grows n w₁ t₁ cs w₂ t₂ → Grows n w t (bs ++ cs) w₂ t₂
grows_more n w t bs w₁ t₁ cs w₂ t₂ x y =
    let a = x.count_is in
    let b = y.count_is in
    let c = x.writes.next_is in
    let l = length_parts n t.next bs in
    let e : t.next + length (parts_from n t.next bs) ≡ t₁.next = omega arith in
    record {
      writes = writes_more n w t.next bs w₁ t₁.next cs w₂ t₂.next x.writes y.writes;
      count_is = rw length-append (omega arith);
      children = λ ks q.
          y.children (ks ++ branches_from n t.next bs) (x.children ks q)
          ∙ ap routing_of
          (append_assoc ks (branches_from n t.next bs) (branches_from n t₁.next cs)
          ∙ ap (λ (z : List ℕ). ks ++ z) (sym (row_roots_append (write_node fanout n) t.next bs cs ∙ ap (λ (j : ℕ). branches_from n t.next bs ++ branches_from n j cs) e)));
    }

-- one branch or none: its top node is the last that was written
module _ (n : ℕ) (w : List ℕ) (t : Branches) (w₁ : List ℕ) (after : ℕ) (room : t.node.count < 9) where
  grows_same : after ≡ t.next → Writes n w t.next [] w₁ after → Grows n w t [] w₁ (with_branch t after)
  unfolding with_branch write_row
  grows_same e x =
      rw (eq-eqb after t.next e) (record { writes = rw e at x; count_is = omega arith; children = λ ks q. q ∙ ap routing_of (sym (append-nil ks)) })

  grows_by : (b : Item index_space (suc n)) → Writes n w t.next (b ∷ []) w₁ after → Grows n w t (b ∷ []) w₁ (with_branch t after)
  unfolding with_branch write_row total nodes with_child
  grows_by b x =
      let a = x.next_is in
      let l = length_node fanout n t.next b in
      let ne : after ≡ t.next → ⊥ = λ e. omega arith in
      let e : t.next + length (write_node fanout n t.next b) - 1 ≡ after - 1 = omega arith in
      rw (ne_eqb after t.next ne) (record {
        writes = x;
        count_is = refl;
        children = λ ks q.
            let c : t.node.count ≡ length ks = ap (λ (k : Node). k.count) q ∙ count_children ks in
            ap (λ (k : Node). with_child k (after - 1)) q ∙ child_more ks (after - 1) (omega arith) ∙ ap (λ (j : ℕ). routing_of (ks ++ (j ∷ []))) (sym e);
      })

  pub grows_one : (bs : List (Item index_space (suc n))) → length bs ≤ 1 → Writes n w t.next bs w₁ after → Grows n w t bs w₁ (with_branch t after)
  unfolding total
  grows_one [] o x = grows_same (let a = x.next_is in omega arith) x
  grows_one (b ∷ []) o x = grows_by b x
  grows_one (b ∷ c ∷ bs) o x = absurd (omega arith)

-- no branch so far
pub none_branches : (next : ℕ) (node : Node) → node ≡ node_of 0 [] → record { next = next; node = node } ≡ no_branches next
none_branches next node q = rw q

-- the code's two ways
pub with_branch_same : (t : Branches) (after : ℕ) → after ≡ t.next → t ≡ with_branch t after
unfolding with_branch
with_branch_same t after e = rw (eq-eqb after t.next e)

pub with_branch_more : (t : Branches) (after : ℕ) → (after ≡ t.next → ⊥) → (node : Node) → node ≡ with_child t.node (after - 1) → record { next = after; node = node } ≡ with_branch t after
unfolding with_branch
with_branch_more t after ne node q = rw (ne_eqb after t.next ne, q)

-- Before the i-th branch of the node at part k, of those up to the to-th: what remains of the earlier ones is written.
pub record BranchLoop (n : ℕ) (m : List ℕ) (k from to : ℕ) (ss : List Side) (w₀ : List ℕ) (t₀ : Branches) (i : ℕ) (w : List ℕ) (t : Branches) : Type 0 where
  pub walk : Walkable (suc n) m 0 k
  pub i_le : i ≤ to
  pub to_le : to ≤ count_at m k
  pub bs : List (Item index_space (suc n))
  pub whole : bs ++ range_under n m k i to ss ≡ range_under n m k from to ss
  pub grows : Grows n w₀ t₀ bs w t
  pub room : Room n w t.next (range_under n m k i to ss)
  pub few : t.node.count + to ≤ 9 + i

module _ (n : ℕ) (m : List ℕ) (k from to : ℕ) (ss : List Side) (w₀ : List ℕ) (t₀ : Branches) where
  pub branch_start : Walkable (suc n) m 0 k → from ≤ to → to ≤ count_at m k → t₀.node.count + to ≤ 9 + from
      → Room n w₀ t₀.next (range_under n m k from to ss) → BranchLoop n m k from to ss w₀ t₀ from w₀ t₀
  branch_start v h l f r = record { walk = v; i_le = h; to_le = l; bs = []; whole = refl; grows = grows_none n w₀ t₀; room = r; few = f }

  module _ (i : ℕ) (w : List ℕ) (t : Branches) (x : BranchLoop n m k from to ss w₀ t₀ i w t) where
    pub branch_end : to ≤ i → Grows n w₀ t₀ (range_under n m k from to ss) w t
    branch_end h =
        let a = x.i_le in
        let e : i ≡ to = omega arith in
        let q : x.bs ++ [] ≡ range_under n m k from to ss = ap (λ l. x.bs ++ l) (sym (range_none n m k to ss)) ∙ (rw e at x.whole) in
        rw (← q, append-nil x.bs) x.grows

    module _ (h : i < to) (j : ℕ) (j_is : j ≡ child_at m k i) where
      abbrev first : List (Item index_space (suc n))
      first = deep_at n m 0 j ss

      abbrev others : List (Item index_space (suc n))
      others = range_under n m k (i + 1) to ss

      apart : range_under n m k i to ss ≡ first ++ others
      apart = range_cons n m k x.walk ss i to j h x.to_le j_is

      pub branch_walk : Walkable n m 0 j
      branch_walk = (branch_at n m k x.walk i j (let l = x.to_le in omega arith) j_is).walk

      pub branch_room : Room n w t.next (deep_at n m 0 j ss)
      branch_room = room_first n w t.next first others (rw apart at x.room)

      pub branch_again : (w₁ : List ℕ) (after : ℕ) (t₁ : Branches) → Writes n w t.next (deep_at n m 0 j ss) w₁ after → t₁ ≡ with_branch t after
          → BranchLoop n m k from to ss w₀ t₀ (i + 1) w₁ t₁
      branch_again w₁ after t₁ e q =
          let f = x.few in
          let o = deep_one n m 0 j ss in
          let g : Grows n w t first w₁ t₁ = rw q (grows_one n w t w₁ after (omega arith) first o e) in
          let c = g.count_is in
          record {
            walk = x.walk;
            i_le = omega arith;
            to_le = x.to_le;
            bs = x.bs ++ first;
            whole = append_assoc x.bs first others ∙ ap (λ l. x.bs ++ l) (sym apart) ∙ x.whole;
            grows = grows_more n w₀ t₀ x.bs w t first w₁ t₁ x.grows g;
            room = room_rest n w t.next first others (rw apart at x.room) w₁ t₁.next g.writes;
            few = omega arith;
          }
