-- What remains of a subtree under sides, written: no sides, the leaf, the loop over the children, the node itself.
use Prim.Native.Nat.{ℕ, suc, ◌+◌, ◌-◌, ◌≤◌, ◌<◌}
use mathlib.Core.Path.{◌≡◌, ap, ◌∙◌}
use mathlib.Core.List.{List, [], ◌∷◌, flat_map}
use native.Mathlib.Omega.{arith}
use lib.ListN.{length, set}
use Rattle.geometry.specs.declared.rect.Side.{Side}
use Rattle.tree.specs.Lists.{total}
use Rattle.tree.specs.Nodes.{Item, nodes}
use Rattle.tree.specs.Plan.{clips}
use Rattle.tree.proofs.Lists.{length_zero}
use Rattle.plane.specs.Fanout.{index_space}
use Rattle.memory.specs.Layout.{part, polygon_in}
use Rattle.memory.specs.Image.{node_part, entry_numbers, write_row}
use Rattle.layout.specs.declared.node.Node.{Node}
use Rattle.layout.specs.Loaded.{leaf_of, with_child}
use Rattle.layout.specs.Nodes.{child_at}
use Rattle.layout.specs.Parts.{PartRoom, PartPut}
use Rattle.layout.proofs.LoadedLaws.{count_entries, leaf_part}
use Rattle.walks.specs.Walks.{Walkable}
use Rattle.split_line.specs.Sides.{sides_of}
use Rattle.tree_after.specs.Writes.{Writes, Room, deep_at}
use Rattle.tree_after.specs.Parts.{remaining_part}
use Rattle.tree_after.specs.Leaves.{leaf_remaining, leaf_under}
use Rattle.tree_after.proofs.WriteLaws.{branches_from, writes_none, writes_leaf, writes_node, row_part}
use Rattle.tree_after.proofs.DeepRows.{under_some, under_none, length_sides, deep_leaf, deep_node, children_remaining}
use Rattle.tree_after.proofs.WriteLoop.{WriteLoop, again_one, again_nothing, all_written, own_room}

module _ (level : ℕ) (m : List ℕ) (lo k : ℕ) (ss : List Side) (w : List ℕ) (next : ℕ) (z : length ss ≡ 0) where
  pub plain_room : Room level w next (deep_at level m lo k ss) → Room level w next (deep_at level m lo k [])
  plain_room r = rw (length_zero ss z) at r

  pub plain_writes : (w' : List ℕ) (next' : ℕ) → Writes level w next (deep_at level m lo k []) w' next' → Writes level w next (deep_at level m lo k ss) w' next'
  plain_writes w' next' e = rw (length_zero ss z) e

-- where something was written, the next free part is not the first
pub write_moved : (n : ℕ) (w : List ℕ) (next : ℕ) (bs : List (Item index_space (suc n))) (w' : List ℕ) (next' : ℕ) → Writes n w next bs w' next' → (next' ≡ next → ⊥)
    → 1 ≤ next'
write_moved n w next bs w' next' e ne = let q = e.next_is in omega arith

-- nothing remains, at whatever level
nothing_remaining : (n n' : ℕ) (w : List ℕ) (next : ℕ) (w' : List ℕ) (next' : ℕ) → Writes n w next [] w' next' → Writes n' w next [] w' next'
unfolding write_row flat_map total
nothing_remaining n n' w next w' next' e = record { written = e.written; next_is = e.next_is; same_length = e.same_length }

-- a leaf, with the entries that remain
module _ (ss : List Side) (p w : List ℕ) (next : ℕ) (remaining : Node) (g : remaining ≡ leaf_of (leaf_remaining ss p)) where
  remaining_entries : remaining.count ≡ length (leaf_remaining ss p)
  remaining_entries = ap (λ (n : Node). n.count) g ∙ count_entries (leaf_remaining ss p)

  pub leaf_gone : 1 ≤ length ss → remaining.count ≡ 0 → Writes 0 w next (leaf_under ss p) w next
  unfolding leaf_under
  leaf_gone h z =
      let s = length_sides ss in
      let c = remaining_entries in
      let e : leaf_remaining ss p ≡ [] = length_zero (leaf_remaining ss p) (omega arith) in
      rw (under_none (polygon_in p) (leaf_remaining ss p) (sides_of ss) (omega arith) e) (writes_none 0 w next)

  module _ (ne : remaining.count ≡ 0 → ⊥) where
    some_remaining : 1 ≤ length (leaf_remaining ss p)
    some_remaining = let c = remaining_entries in omega arith

    leaf_branch : leaf_under ss p ≡ record { poly = clips index_space (sides_of ss) (polygon_in p); child = leaf_remaining ss p } ∷ []
    unfolding leaf_under
    leaf_branch = under_some (polygon_in p) (leaf_remaining ss p) (sides_of ss) some_remaining

    pub leaf_room : Room 0 w next (leaf_under ss p) → PartRoom w next
    unfolding total nodes
    leaf_room r =
        let f = rw leaf_branch at r.fits in
        record { fits = omega arith; small = r.small }

    pub leaf_writes : (w' : List ℕ) → PartPut w next (remaining_part ss p remaining) w' → Writes 0 w next (leaf_under ss p) w' (next + 1)
    leaf_writes w' x =
        let q = clips index_space (sides_of ss) (polygon_in p) in
        let e : remaining_part ss p remaining ≡ node_part q (length (leaf_remaining ss p)) (flat_map entry_numbers (leaf_remaining ss p)) =
        ap (remaining_part ss p) g ∙ leaf_part q (leaf_remaining ss p) in
        rw leaf_branch (writes_leaf w next q (leaf_remaining ss p) w' (rw e at x))

-- a node that is a leaf
module _ (level : ℕ) (m : List ℕ) (lo k : ℕ) (ss : List Side) (w : List ℕ) (next : ℕ) (z : level ≡ 0) (v : Walkable level m lo k)
    (p : List ℕ) (p_is : p ≡ part m k) where
  pub at_leaf_room : Room level w next (deep_at level m lo k ss) → Room 0 w next (leaf_under ss p)
  at_leaf_room r =
      let v' : Walkable 0 m lo k = rw z at v in
      let r' : Room 0 w next (deep_at 0 m lo k ss) = rw z at r in
      rw p_is (rw (deep_leaf m lo k ss v') at r')

  pub at_leaf_writes : (w' : List ℕ) (next' : ℕ) → Writes 0 w next (leaf_under ss p) w' next' → Writes level w next (deep_at level m lo k ss) w' next'
  at_leaf_writes w' next' e =
      let v' : Walkable 0 m lo k = rw z at v in
      rw (z, deep_leaf m lo k ss v', ← p_is) e

-- the loop over the children
module _ (level : ℕ) (m : List ℕ) (lo k : ℕ) (ss : List Side) (w₀ : List ℕ) (next₀ size i low : ℕ) (w : List ℕ) (next : ℕ) (node : Node)
    (a : WriteLoop level m lo k ss w₀ next₀ size i low w next node) where
  module _ (j : ℕ) (h : i < size) (j_is : j ≡ child_at m k i) (w' : List ℕ) (next' : ℕ) (e : Writes (level - 1) w next (deep_at (level - 1) m low j ss) w' next') where
    pub write_one : (items : List ℕ) (node' : Node) → (next' ≡ next → ⊥) → items ≡ set node.items node.count (next' - 1)
        → node' ≡ record { count = node.count + 1; items = items } → WriteLoop level m lo k ss w₀ next₀ size (i + 1) (j + 1) w' next' node'
    unfolding with_child
    write_one items node' ne q r = rw (r, q) (again_one level m lo k ss w₀ next₀ size i low w next node a h j j_is w' next' e ne)

    pub write_nothing : (node' : Node) → next' ≡ next → node' ≡ node → WriteLoop level m lo k ss w₀ next₀ size (i + 1) (j + 1) w' next' node'
    write_nothing node' z q = rw q (again_nothing level m lo k ss w₀ next₀ size i low w next node a h j j_is w' next' e z)

  module _ (h : size ≤ i) where
    pub node_gone : (length ss ≡ 0 → ⊥) → node.count ≡ 0 → Writes level w₀ next₀ (deep_at level m lo k ss) w next
    node_gone ne z =
        let r = all_written level m lo k ss w₀ next₀ size i low w next node a h in
        let bs = children_remaining (level - 1) m lo k ss in
        let c = r.count_is in
        let e : bs ≡ [] = length_zero bs (omega arith) in
        let s = length_sides ss in
        let x : Writes (level - 1) w₀ next₀ [] w next = rw e at r.written in
        rw (a.level_is, deep_node (level - 1) m lo k ss a.at.walk, under_none (polygon_in (part m k)) bs (sides_of ss) (omega arith) e)
        (nothing_remaining (level - 1) (suc (level - 1)) w₀ next₀ w next x)

    module _ (ne : node.count ≡ 0 → ⊥) where
      pub node_own_room : PartRoom w next
      node_own_room = own_room level m lo k ss w₀ next₀ size i low w next node a h (omega arith)

      pub node_writes : (p w' : List ℕ) → p ≡ part m k → PartPut w next (remaining_part ss p node) w'
          → Writes level w₀ next₀ (deep_at level m lo k ss) w' (next + 1)
      node_writes p w' p_is x =
          let r = all_written level m lo k ss w₀ next₀ size i low w next node a h in
          let n : ℕ = level - 1 in
          let bs : List (Item index_space (suc n)) = children_remaining n m lo k ss in
          let v = a.at.walk in
          let c = r.count_is in
          let q = clips index_space (sides_of ss) (polygon_in (part m k)) in
          let image : remaining_part ss p node ≡ node_part q (length bs) (branches_from n next₀ bs) =
          ap (λ (y : List ℕ). remaining_part ss y node) p_is ∙ row_part n w₀ next₀ bs w next node r q in
          rw (a.level_is, deep_node n m lo k ss v, under_some (polygon_in (part m k)) bs (sides_of ss) (omega arith))
          (writes_node n w₀ next₀ q bs w next w' r.written (rw image at x))
