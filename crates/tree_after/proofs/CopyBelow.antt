-- The copy of a subtree: the leaf, the loop over the children, the node itself.
use Prim.Native.Nat.{ℕ, zero, suc, ◌+◌, ◌-◌, ◌≤◌, ◌<◌}
use mathlib.Core.Path.{◌≡◌, sym, ap, ◌∙◌}
use mathlib.Core.List.{List, [], ◌∷◌, flat_map}
use native.Mathlib.Omega.{arith}
use lib.ListN.{length, set}
use Rattle.tree.specs.Lists.{total}
use Rattle.tree.specs.Nodes.{Item, nodes}
use Rattle.plane.specs.Fanout.{fanout, index_space}
use Rattle.memory.specs.Layout.{part, item_count, polygon_in, entries_in}
use Rattle.memory.specs.Image.{node_part, entry_numbers}
use Rattle.memory.proofs.ReadingLaws.{fits_as, leaf_parts, node_parts_lem, part_length, entries_length}
use Rattle.layout.specs.declared.node.Node.{Node}
use Rattle.layout.specs.Loaded.{node_of, with_node, with_child}
use Rattle.layout.specs.Nodes.{count_at, child_at}
use Rattle.layout.specs.Parts.{PartRoom, PartPut}
use Rattle.layout.proofs.PartCopies.{leaf_image, node_replaced}
use Rattle.layout.proofs.LoadedLaws.{count_children, routing_length}
use Rattle.walks.specs.Walks.{Walkable, leaf_entries}
use Rattle.split_line.specs.Sides.{sides_of}
use Rattle.split_line.proofs.SideLaws.{keep_every}
use Rattle.tree_after.specs.Writes.{Writes, Room, deep_at}
use Rattle.tree_after.specs.Leaves.{leaf_remaining, leaf_under}
use Rattle.tree_after.proofs.WriteLaws.{nodes_of, branches_from, writes_leaf, writes_node, row_part}
use Rattle.tree_after.proofs.DeepRows.{deep_leaf, deep_node, children_remaining}
use Rattle.tree_after.proofs.WriteLoop.{WriteLoop, write_start, count_small, child_walk_lem, child_room, again_one, all_written, own_room}

leaf_plain : (p : List ℕ) → leaf_under [] p ≡ record { poly = polygon_in p; child = entries_in p (item_count p) } ∷ []
unfolding leaf_under leaf_remaining leaf_entries sides_of
leaf_plain p = rw (keep_every (entries_in p (item_count p)))

node_plain : (n : ℕ) (m : List ℕ) (lo k : ℕ) → Walkable (suc n) m lo k
    → deep_at (suc n) m lo k [] ≡ record { poly = polygon_in (part m k); child = children_remaining n m lo k [] } ∷ []
unfolding sides_of
node_plain n m lo k v = deep_node n m lo k [] v

-- a node that reads is one branch where there are no sides
some_nodes : (n : ℕ) (m : List ℕ) (lo k : ℕ) → Walkable n m lo k → 1 ≤ nodes_of n (deep_at n m lo k [])
unfolding total nodes
some_nodes zero m lo k v = rw (deep_leaf m lo k [] v, leaf_plain (part m k)) (omega arith)
some_nodes (suc n) m lo k v = rw (node_plain n m lo k v) (omega arith)

pub moved_on : (n : ℕ) (m : List ℕ) (lo k : ℕ) (w : List ℕ) (next : ℕ) (w' : List ℕ) (next' : ℕ) → Walkable n m lo k → Writes n w next (deep_at n m lo k []) w' next' → next < next'
moved_on n m lo k w next w' next' v e =
    let s = some_nodes n m lo k v in
    let q = e.next_is in
    omega arith

-- a node that is a leaf
module _ (level : ℕ) (m : List ℕ) (lo k : ℕ) (w : List ℕ) (next : ℕ) (z : level ≡ 0) (v : Walkable level m lo k) where
  pub copy_leaf_room : Room level w next (deep_at level m lo k []) → PartRoom w next
  copy_leaf_room r =
      let s = some_nodes level m lo k v in
      let f = r.fits in
      let g = r.small in
      record { fits = omega arith; small = g }

  pub copy_leaf : (p w' : List ℕ) → p ≡ part m k → PartPut w next p w' → Writes level w next (deep_at level m lo k []) w' (next + 1)
  copy_leaf p₀ w' q x =
      let v' : Walkable 0 m lo k = rw z at v in
      let p = part m k in
      let f = fits_as fanout 3 m k (leaf_parts fanout m lo k v'.node v'.reads).fits in
      let l = part_length m k f.below in
      let es = entries_in p (item_count p) in
      let i : p ≡ node_part (polygon_in p) (length es) (flat_map entry_numbers es) =
      leaf_image p l f.few_rects f.few_items f.rest
      ∙ ap (λ (c : ℕ). node_part (polygon_in p) c (flat_map entry_numbers es)) (sym (entries_length p (item_count p))) in
      let y : PartPut w next (node_part (polygon_in p) (length es) (flat_map entry_numbers es)) w' = rw (q ∙ i) at x in
      rw (z, deep_leaf m lo k [] v', leaf_plain p) (writes_leaf w next (polygon_in p) es w' y)

-- Before the i-th child: those passed were copied, and the node has as many children.
pub record CopyLoop (level : ℕ) (m : List ℕ) (lo k : ℕ) (w₀ : List ℕ) (next₀ size i low : ℕ) (w : List ℕ) (next : ℕ) (node : Node) : Type 0 where
  pub row : WriteLoop level m lo k [] w₀ next₀ size i low w next node
  pub count_is : node.count ≡ i

pub copy_start : (level : ℕ) (m : List ℕ) (lo k : ℕ) (w₀ : List ℕ) (next₀ size : ℕ) (node : Node) → (level ≡ 0 → ⊥) → Walkable level m lo k
    → Room level w₀ next₀ (deep_at level m lo k []) → size ≡ count_at m k → node ≡ node_of 0 [] → CopyLoop level m lo k w₀ next₀ size 0 lo w₀ next₀ node
unfolding node_of
copy_start level m lo k w₀ next₀ size node ne v r q e = record { row = write_start level m lo k [] w₀ next₀ size node ne v r q e; count_is = rw e }

module _ (level : ℕ) (m : List ℕ) (lo k : ℕ) (w₀ : List ℕ) (next₀ size i low : ℕ) (w : List ℕ) (next : ℕ) (node : Node)
    (a : CopyLoop level m lo k w₀ next₀ size i low w next node) where
  pub copy_few : i < size → node.count < 9
  copy_few h = count_small level m lo k [] w₀ next₀ size i low w next node a.row h

  -- the child at part j
  module _ (j : ℕ) (h : i < size) (j_is : j ≡ child_at m k i) where
    pub copy_walk : Walkable (level - 1) m low j
    copy_walk = child_walk_lem level m lo k [] w₀ next₀ size i low w next node a.row h j j_is

    pub copy_child_room : Room (level - 1) w next (deep_at (level - 1) m low j [])
    copy_child_room = child_room level m lo k [] w₀ next₀ size i low w next node a.row h j j_is

    -- it was copied
    module _ (w' : List ℕ) (next' : ℕ) (e : Writes (level - 1) w next (deep_at (level - 1) m low j []) w' next') where
      on : next < next'
      on = moved_on (level - 1) m low j w next w' next' copy_walk e

      pub copy_again : (items : List ℕ) → items ≡ set node.items node.count (next' - 1)
          → CopyLoop level m lo k w₀ next₀ size (i + 1) (j + 1) w' next' (record { count = node.count + 1; items = items })
      unfolding with_child
      copy_again items q =
          let g = on in
          let c = a.count_is in
          rw q (record { row = again_one level m lo k [] w₀ next₀ size i low w next node a.row h j j_is w' next' e (λ z. omega arith); count_is = omega arith })

      pub copy_moved : 1 ≤ next'
      copy_moved = let g = on in omega arith

  -- all children are there
  module _ (h : size ≤ i) where
    some_children : 1 ≤ node.count
    some_children =
        let v = a.row.at.walk in
        let f = fits_as fanout 1 m k (node_parts_lem fanout (level - 1) m lo k v.node v.reads).fits in
        let s = f.some_items in
        let q = a.row.at.size_is in
        let c = a.count_is in
        omega arith

    copy_most : node.count ≤ 8
    copy_most = let c = a.count_is in let g = a.row.at.i_le in let f = a.row.at.walk.few in let q = a.row.at.size_is in omega arith

    pub copy_room : PartRoom w next
    copy_room = own_room level m lo k [] w₀ next₀ size i low w next node a.row h some_children

    pub copy_end : (p w' : List ℕ) → p ≡ part m k → PartPut w next (with_node p node) w' → Writes level w₀ next₀ (deep_at level m lo k []) w' (next + 1)
    copy_end p₀ w' p_is x =
        let v = a.row.at.walk in
        let n : ℕ = level - 1 in
        let p = part m k in
        let f = fits_as fanout 1 m k (node_parts_lem fanout n m lo k v.node v.reads).fits in
        let few = f.few_items in
        let l = part_length m k f.below in
        let bs : List (Item index_space (suc n)) = children_remaining n m lo k [] in
        let r = all_written level m lo k [] w₀ next₀ size i low w next node a.row h in
        let ts : List ℕ = branches_from n next₀ bs in
        let c : node.count ≡ length ts = ap (λ (y : Node). y.count) r.node_is ∙ count_children ts in
        let d = copy_most in
        let s : length node.items ≡ 27 = ap (λ (y : Node). length y.items) r.node_is ∙ routing_length ts (omega arith) in
        let image : with_node p₀ node ≡ node_part (polygon_in p) (length bs) (branches_from n next₀ bs) =
        ap (λ (y : List ℕ). with_node y node) p_is ∙ node_replaced 1 p l f.few_rects (omega arith) f.rest (omega arith) node s
        ∙ row_part n w₀ next₀ bs w next node r (polygon_in p) in
        let y : PartPut w next (node_part (polygon_in p) (length bs) (branches_from n next₀ bs)) w' = rw image at x in
        rw (a.row.level_is, node_plain n m lo k v) (writes_node n w₀ next₀ (polygon_in p) bs w next w' r.written y)
