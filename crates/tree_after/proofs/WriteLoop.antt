-- The loop that writes what remains of a node's children, one after another, and its room.
use Prim.Native.Nat.{ℕ, suc, ◌+◌, ◌*◌, ◌-◌, ◌≤◌, ◌<◌}
use mathlib.Core.Path.{◌≡◌, refl, ap, ◌∙◌}
use mathlib.Core.List.{List, [], ◌∷◌, ◌++◌}
use native.Mathlib.Omega.{arith}
use lib.ListN.{length, drop}
use Rattle.geometry.specs.declared.rect.Side.{Side as RectSide}
use Rattle.geometry.specs.declared.rect.Line.{Line}
use Rattle.geometry.specs.declared.rect.Rect.{Rect}
use Rattle.tree.specs.Lists.{total}
use Rattle.tree.specs.Space.{Side}
use Rattle.tree.specs.Nodes.{Item, nodes}
use Rattle.tree.specs.Plan.{branch_under, clips}
use Rattle.tree.proofs.Counts.{total_append}
use Rattle.plane.specs.Fanout.{index_space}
use Rattle.memory.specs.Layout.{part, polygon_in, children_in}
use Rattle.layout.specs.declared.node.Node.{Node}
use Rattle.layout.specs.Loaded.{node_of, with_child}
use Rattle.layout.specs.Nodes.{count_at, child_at}
use Rattle.layout.specs.Parts.{PartRoom}
use Rattle.walks.specs.Walks.{Walkable}
use Rattle.split_line.specs.Sides.{sides_of}
use Rattle.tree_after.specs.Writes.{Writes, Room, deep_at}
use Rattle.tree_after.proofs.WriteLaws.{nodes_of, Row, row_start, row_nothing, row_one}
use Rattle.tree_after.proofs.DeepRows.{under_some, deep_one, deep_node, deep_row, children_remaining, AtDeep, deep_start, deep_child, deep_whole, deep_next, deep_end}

-- the nodes of a branch under sides: those of its items, and itself where items remain
module _ (n : ℕ) (p : List Rect) where
  nodes_node : (q : List Rect) (bs : List (Item index_space (suc n))) → nodes_of (suc n) (record { poly = q; child = bs } ∷ []) ≡ 1 + nodes_of n bs
  unfolding total nodes
  nodes_node q bs = omega arith

  pub nodes_some : (ss : List (Side Line)) (bs : List (Item index_space (suc n))) → 1 ≤ length bs
      → nodes_of (suc n) (branch_under index_space ss p bs) ≡ 1 + nodes_of n bs
  nodes_some ss bs h = rw (under_some p bs ss h) (nodes_node (clips index_space ss p) bs)

  pub nodes_least : (ss : List (Side Line)) (bs : List (Item index_space (suc n))) → nodes_of n bs ≤ nodes_of (suc n) (branch_under index_space ss p bs)
  unfolding total
  nodes_least ss [] = omega arith
  nodes_least ss (b ∷ bs) = let e = nodes_some ss (b ∷ bs) (omega arith) in omega arith

-- the room for a node has room for its children, and for itself where some remain
module _ (n : ℕ) (m : List ℕ) (lo k : ℕ) (ss : List RectSide) (w : List ℕ) (next : ℕ) (v : Walkable (suc n) m lo k) (r : Room (suc n) w next (deep_at (suc n) m lo k ss)) where
  whole_room : 64 + 128 * (next + nodes_of (suc n) (branch_under index_space (sides_of ss) (polygon_in (part m k)) (children_remaining n m lo k ss))) ≤ length w
  whole_room = rw (deep_node n m lo k ss v) at r.fits

  pub children_room : 64 + 128 * (next + nodes_of n (children_remaining n m lo k ss)) ≤ length w
  children_room =
      let f = whole_room in
      let g = nodes_least n (polygon_in (part m k)) (sides_of ss) (children_remaining n m lo k ss) in
      omega arith

  pub top_room : 1 ≤ length (children_remaining n m lo k ss) → 64 + 128 * (next + nodes_of n (children_remaining n m lo k ss) + 1) ≤ length w
  top_room h =
      let f = whole_room in
      let g = nodes_some n (polygon_in (part m k)) (sides_of ss) (children_remaining n m lo k ss) h in
      omega arith

-- Before the i-th of the size children: what remains of those passed was written from next₀ on; the node has their top nodes as children, and
-- next is the next free part.
pub record WriteLoop (level : ℕ) (m : List ℕ) (lo k : ℕ) (ss : List RectSide) (w₀ : List ℕ) (next₀ size i low : ℕ) (w : List ℕ) (next : ℕ) (node : Node) : Type 0 where
  pub level_is : level ≡ suc (level - 1)
  pub bs : List (Item index_space (suc (level - 1)))
  pub at : AtDeep (level - 1) m lo k ss size i low bs
  pub row : Row (level - 1) w₀ next₀ bs w next node
  pub room : Room level w₀ next₀ (deep_at level m lo k ss)
  pub few : node.count ≤ i
  pub next_small : next ≤ 256
  pub same_length : length w ≡ length w₀

module _ (level : ℕ) (m : List ℕ) (lo k : ℕ) (ss : List RectSide) (w₀ : List ℕ) (next₀ : ℕ) where
  pub write_start : (size : ℕ) (node : Node) → (level ≡ 0 → ⊥) → Walkable level m lo k → Room level w₀ next₀ (deep_at level m lo k ss) → size ≡ count_at m k → node ≡ node_of 0 []
      → WriteLoop level m lo k ss w₀ next₀ size 0 lo w₀ next₀ node
  unfolding node_of
  write_start size node ne v r q l =
      let e : level ≡ suc (level - 1) = omega arith in
      let f = r.fits in
      let s = r.small in
      record {
        level_is = e;
        bs = [];
        at = deep_start (level - 1) m lo k ss size q (rw e at v);
        row = row_start (level - 1) w₀ next₀ node l;
        room = r;
        few = rw l (omega arith);
        next_small = omega arith;
        same_length = refl;
      }

  module _ (size i low : ℕ) (w : List ℕ) (next : ℕ) (node : Node) (a : WriteLoop level m lo k ss w₀ next₀ size i low w next node) where
    -- the room as that of the node above its children
    node_room : Room (suc (level - 1)) w₀ next₀ (deep_at (suc (level - 1)) m lo k ss)
    node_room = rw a.level_is at a.room

    pub count_small : i < size → node.count < 9
    count_small h = let f = a.few in let g = a.at.walk.few in let q = a.at.size_is in omega arith

    module _ (h : i < size) (j : ℕ) (j_is : j ≡ child_at m k i) where
      pub child_walk_lem : Walkable (level - 1) m low j
      child_walk_lem = deep_child (level - 1) m lo k ss size i low a.bs a.at h j j_is

      child_nodes : nodes_of (level - 1) a.bs + nodes_of (level - 1) (deep_at (level - 1) m low j ss) ≤ nodes_of (level - 1) (children_remaining (level - 1) m lo k ss)
      child_nodes =
          let t = ap (nodes_of (level - 1)) (deep_whole (level - 1) m lo k ss size i low a.bs a.at h j j_is) in
          let child : List (Item index_space (suc (level - 1))) = deep_at (level - 1) m low j ss in
          let others : List (Item index_space (suc (level - 1))) = deep_row (level - 1) m (j + 1) k (drop (i + 1) (children_in (part m k))) ss in
          let x = total_append (nodes index_space (suc (level - 1))) a.bs (child ++ others) in
          let y = total_append (nodes index_space (suc (level - 1))) child others in
          omega arith

      pub child_room : Room (level - 1) w next (deep_at (level - 1) m low j ss)
      child_room =
          let f = children_room (level - 1) m lo k ss w₀ next₀ a.at.walk node_room in
          let c = child_nodes in
          let s = a.row.written.next_is in
          let l = a.same_length in
          let z = a.room.small in
          record { fits = omega arith; small = omega arith }

      -- what the child wrote
      module _ (w' : List ℕ) (next' : ℕ) (e : Writes (level - 1) w next (deep_at (level - 1) m low j ss) w' next') where
        moved_small : next' ≤ 256
        moved_small =
            let r = child_room in
            let f = r.fits in
            let s = r.small in
            let q = e.next_is in
            omega arith

        pub again_nothing : next' ≡ next → WriteLoop level m lo k ss w₀ next₀ size (i + 1) (j + 1) w' next' node
        again_nothing q = record {
          level_is = a.level_is;
          bs = _;
          at = deep_next (level - 1) m lo k ss size i low a.bs a.at h j j_is;
          row = row_nothing (level - 1) w₀ next₀ a.bs w next node a.row _ w' next' e (deep_one (level - 1) m low j ss) q;
          room = a.room;
          few = let f = a.few in omega arith;
          next_small = moved_small;
          same_length = e.same_length ∙ a.same_length;
        }

        pub again_one : (next' ≡ next → ⊥) → WriteLoop level m lo k ss w₀ next₀ size (i + 1) (j + 1) w' next' (with_child node (next' - 1))
        unfolding with_child
        again_one ne =
            let c = count_small h in
            record {
              level_is = a.level_is;
              bs = _;
              at = deep_next (level - 1) m lo k ss size i low a.bs a.at h j j_is;
              row = row_one (level - 1) w₀ next₀ a.bs w next node a.row _ w' next' e (deep_one (level - 1) m low j ss) ne c;
              room = a.room;
              few = let f = a.few in omega arith;
              next_small = moved_small;
              same_length = e.same_length ∙ a.same_length;
            }

    -- behind the last child
    module _ (h : size ≤ i) where
      pub all_written : Row (level - 1) w₀ next₀ (children_remaining (level - 1) m lo k ss) w next node
      all_written = rw (deep_end (level - 1) m lo k ss size i low a.bs a.at h) at a.row

      pub own_room : 1 ≤ node.count → PartRoom w next
      own_room c =
          let r = all_written in
          let x = r.count_is in
          let y = r.written.next_is in
          let f = top_room (level - 1) m lo k ss w₀ next₀ a.at.walk node_room (omega arith) in
          let l = a.same_length in
          let z = a.room.small in
          record { fits = omega arith; small = omega arith }
