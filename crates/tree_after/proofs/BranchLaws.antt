-- A node on top of its items under sides: when it is kept, its part, and what is written with it.
use Prim.Native.Nat.{ℕ, suc, ◌+◌, ◌*◌}
use mathlib.Core.Path.{◌≡◌, refl, sym, ap, ◌∙◌}
use mathlib.Core.Bool.{Bool, true, false, not}
use mathlib.Core.List.{List, [], ◌∷◌, ◌++◌, append-nil, flat_map}
use native.Mathlib.Omega.{arith}
use borrow.Author.Tests.{eq-eqb, ne_eqb}
use lib.Dec.{eqb}
use lib.ListN.{length, take}
use Rattle.geometry.specs.declared.rect.Side.{Side}
use Rattle.geometry.specs.declared.rect.Rect.{Rect}
use Rattle.geometry.specs.declared.polygon.Polygon.{Polygon}
use Rattle.geometry.specs.Numbers.{rects_of, PolygonOf}
use Rattle.tree.specs.Lists.{total}
use Rattle.tree.specs.Nodes.{Item, nodes}
use Rattle.tree.specs.Plan.{clips, branch_under}
use Rattle.plane.specs.Lines.{CellEntry}
use Rattle.plane.specs.Fanout.{index_space}
use Rattle.memory.specs.Image.{node_part, write_row}
use Rattle.layout.specs.declared.node.Node.{Node}
use Rattle.layout.specs.Loaded.{node_of, leaf_of}
use Rattle.layout.specs.Parts.{PartPut, PartRoom}
use Rattle.layout.proofs.LoadedLaws.{count_entries, no_children, leaf_part}
use Rattle.split_line.specs.Sides.{sides_of}
use Rattle.tree_after.specs.declared.node.Branches.{Branches}
use Rattle.tree_after.specs.Writes.{Writes}
use Rattle.tree_after.specs.Rows.{kept, node_parts, branch_numbers, NodeWritten, NodeRoom, no_branches, Grows, RestWritten}
use Rattle.tree_after.proofs.CountLaws.{leaf_nodes}
use Rattle.tree_after.proofs.WriteLaws.{Row, row_part, writes_leaf, writes_node}
use Rattle.tree_after.proofs.RowLaws.{grows_more}

-- the code's test
pub kept_some : (ss : List Side) (count : ℕ) → (count ≡ 0 → ⊥) → not (eqb count 0) ≡ kept ss count
unfolding kept
kept_some [] count ne = rw (ne_eqb count 0 ne)
kept_some (s ∷ ss) count ne = rw (ne_eqb count 0 ne)

pub kept_empty : (ss : List Side) (count : ℕ) → count ≡ 0 → eqb (length ss) 0 ≡ kept ss count
unfolding kept
kept_empty [] count e = refl
kept_empty (s ∷ ss) count e = rw (eq-eqb count 0 e, ne_eqb (length (s ∷ ss)) 0 (λ q. omega arith))

-- the code's writing of the node
module _ (p : List Rect) (n : Node) (ss : List Side) (w : List ℕ) (next : ℕ) (b : Bool) (o : b ≡ kept ss n.count) where
  pub top_dropped : b ≡ false → NodeWritten p n ss w next w next
  unfolding node_parts branch_numbers
  top_dropped f =
      let k : kept ss n.count ≡ false = sym o ∙ f in
      record { next_is = rw k (omega arith); written = rw k (sym (append-nil _)); same_length = refl }

  pub top_room : NodeRoom ss n w next → b ≡ true → PartRoom w next
  unfolding node_parts
  top_room r f =
      let k : kept ss n.count ≡ true = sym o ∙ f in
      let g = r.fits in
      record { fits = rw k at g; small = r.small }

  pub top_kept : (q : Polygon) (w₁ : List ℕ) → PolygonOf (clips index_space (sides_of ss) p) q → PartPut w next (node_part (rects_of q) n.count n.items) w₁
      → b ≡ true → NodeWritten p n ss w next w₁ (next + 1)
  unfolding node_parts branch_numbers
  top_kept q w₁ y x f =
      let k : kept ss n.count ≡ true = sym o ∙ f in
      record {
        next_is = rw k;
        written = rw k (x.written ∙ ap (λ l. take (64 + 128 * next) w ++ node_part l n.count n.items) y.list);
        same_length = x.same_length;
      }

-- a node under sides is one branch if it is kept
under_kept : {A : Type 0} (ss : List Side) (p : List Rect) (items : List A) → kept ss (length items) ≡ true
    → branch_under index_space (sides_of ss) p items ≡ record { poly = clips index_space (sides_of ss) p; child = items } ∷ []
unfolding kept sides_of clips
under_kept [] p items k = refl
under_kept (s ∷ ss) p (x ∷ items) k = refl
under_kept (s ∷ ss) p [] k = let z : ◌≡◌ {A = ℕ} 0 1 = cc in absurd (omega arith)

-- and none if not, for want of items
under_dropped : {A : Type 0} (ss : List Side) (p : List Rect) (items : List A) → kept ss (length items) ≡ false
    → branch_under index_space (sides_of ss) p items ≡ []
unfolding kept sides_of
under_dropped [] p items k = let z : ◌≡◌ {A = ℕ} 0 1 = cc in absurd (omega arith)
under_dropped (s ∷ ss) p (x ∷ items) k =
    let e = ne_eqb (length (x ∷ items)) 0 (λ q. omega arith) in
    let z : ◌≡◌ {A = ℕ} 0 1 = cc in
    absurd (omega arith)
under_dropped (s ∷ ss) p [] k = refl

dropped_none : {A : Type 0} (ss : List Side) (items : List A) → kept ss (length items) ≡ false → items ≡ []
unfolding kept
dropped_none [] items k = let z : ◌≡◌ {A = ℕ} 0 1 = cc in absurd (omega arith)
dropped_none (s ∷ ss) (x ∷ items) k =
    let e = ne_eqb (length (x ∷ items)) 0 (λ q. omega arith) in
    let z : ◌≡◌ {A = ℕ} 0 1 = cc in
    absurd (omega arith)
dropped_none (s ∷ ss) [] k = refl

-- the nodes of a leaf under sides: itself if it is kept
pub leaf_nodes_under : (ss : List Side) (p : List Rect) (es : List CellEntry)
    → total (nodes index_space 1) (branch_under index_space (sides_of ss) p es) ≡ node_parts ss (length es)
unfolding total node_parts
leaf_nodes_under ss p es = go (kept ss (length es)) refl
  where
    go : (b : Bool) → kept ss (length es) ≡ b → total (nodes index_space 1) (branch_under index_space (sides_of ss) p es) ≡ node_parts ss (length es)
    go true k =
        let e = leaf_nodes (record { poly = clips index_space (sides_of ss) p; child = es }) in
        rw (under_kept ss p es k, k) (omega arith)
    go false k = rw (under_dropped ss p es k, k)

-- the nodes of a node under sides: those of its branches, and itself if it is kept
pub under_nodes : (n : ℕ) (ss : List Side) (p : List Rect) (bs : List (Item index_space (suc n)))
    → total (nodes index_space (suc (suc n))) (branch_under index_space (sides_of ss) p bs) ≡ total (nodes index_space (suc n)) bs + node_parts ss (length bs)
unfolding total nodes node_parts
under_nodes n ss p bs = go (kept ss (length bs)) refl
  where
    go : (b : Bool) → kept ss (length bs) ≡ b
        → total (nodes index_space (suc (suc n))) (branch_under index_space (sides_of ss) p bs) ≡ total (nodes index_space (suc n)) bs + node_parts ss (length bs)
    go true k = rw (under_kept ss p bs k, k) (omega arith)
    go false k = rw (under_dropped ss p bs k, k, dropped_none ss bs k)

module _ (p : List Rect) (n : Node) (ss : List Side) (w : List ℕ) (next : ℕ) (w₁ : List ℕ) (r : ℕ) (x : NodeWritten p n ss w next w₁ r) where
  -- the part of a node that is kept
  put_of : kept ss n.count ≡ true → PartPut w next (node_part (clips index_space (sides_of ss) p) n.count n.items) w₁ × (r ≡ next + 1)
  unfolding node_parts branch_numbers
  put_of k =
      let a : r ≡ next + 1 = rw k at x.next_is in
      let b = x.written in
      (record { written = rw (k, a) at b; same_length = x.same_length }, a)

  -- nothing is written for a node that is dropped
  same_of : kept ss n.count ≡ false → (take (64 + 128 * r) w₁ ≡ take (64 + 128 * next) w ++ []) × (r ≡ next + 0)
  unfolding node_parts branch_numbers
  same_of k = let a = x.next_is in let b = x.written in (rw k at b, rw k at a)

-- a leaf with the entries that were gathered
pub top_leaf : (p : List Rect) (ss : List Side) (es : List CellEntry) (n : Node) (w : List ℕ) (next : ℕ) (w₁ : List ℕ) (r : ℕ)
    → n ≡ leaf_of es → NodeWritten p n ss w next w₁ r → Writes 0 w next (branch_under index_space (sides_of ss) p es) w₁ r
unfolding write_row flat_map total
top_leaf p ss es n w next w₁ r g x = go (kept ss (length es)) refl
  where
    x' : NodeWritten p (leaf_of es) ss w next w₁ r
    x' = rw g at x

    c : kept ss (leaf_of es).count ≡ kept ss (length es)
    c = ap (kept ss) (count_entries es)

    go : (b : Bool) → kept ss (length es) ≡ b → Writes 0 w next (branch_under index_space (sides_of ss) p es) w₁ r
    go true k =
        let q = put_of p (leaf_of es) ss w next w₁ r x' (c ∙ k) in
        rw (under_kept ss p es k, q.1)
        (writes_leaf w next (clips index_space (sides_of ss) p) es w₁ (rw (leaf_part (clips index_space (sides_of ss) p) es) at q.0))
    go false k =
        let q = same_of p (leaf_of es) ss w next w₁ r x' (c ∙ k) in
        let e = q.1 in
        rw (under_dropped ss p es k) (record { written = q.0; next_is = omega arith; same_length = x'.same_length })

-- a routing node with the branches that were written
pub top_node : (n : ℕ) (p : List Rect) (ss : List Side) (bs : List (Item index_space (suc n))) (node : Node) (w : List ℕ) (next : ℕ) (w₁ : List ℕ) (next₁ : ℕ) (w₂ : List ℕ) (r : ℕ)
    → Row n w next bs w₁ next₁ node → NodeWritten p node ss w₁ next₁ w₂ r
    → Writes (suc n) w next (branch_under index_space (sides_of ss) p bs) w₂ r
unfolding write_row flat_map total
top_node n p ss bs node w next w₁ next₁ w₂ r y x = go (kept ss (length bs)) refl
  where
    c : kept ss node.count ≡ kept ss (length bs)
    c = ap (kept ss) y.count_is

    go : (b : Bool) → kept ss (length bs) ≡ b → Writes (suc n) w next (branch_under index_space (sides_of ss) p bs) w₂ r
    go true k =
        let q = put_of p node ss w₁ next₁ w₂ r x (c ∙ k) in
        rw (under_kept ss p bs k, q.1)
        (writes_node n w next (clips index_space (sides_of ss) p) bs w₁ next₁ w₂ y.written
        (rw (row_part n w next bs w₁ next₁ node y (clips index_space (sides_of ss) p)) at q.0))
    go false k =
        let q = same_of p node ss w₁ next₁ w₂ r x (c ∙ k) in
        let z = dropped_none ss bs k in
        let e' : Writes n w next [] w₁ next₁ = rw z at y.written in
        let a = e'.next_is in
        let b = q.1 in
        rw (under_dropped ss p bs k) (record {
          written = q.0 ∙ append-nil (take (64 + 128 * next₁) w₁) ∙ e'.written;
          next_is = omega arith;
          same_length = x.same_length ∙ e'.same_length;
        })

-- the row of the branches that were written from no branch on
pub grown_row : (n : ℕ) (w : List ℕ) (next : ℕ) (bs : List (Item index_space (suc n))) (w₁ : List ℕ) (t : Branches) → Grows n w (no_branches next) bs w₁ t → Row n w next bs w₁ t.next t.node
unfolding node_of
grown_row n w next bs w₁ t g = record { written = g.writes; count_is = (let c = g.count_is in omega arith); node_is = g.children [] no_children }

-- a routing node whose branches were written in two goes
pub rest_node : (n : ℕ) (p : List Rect) (ss : List Side) (w : List ℕ) (next : ℕ) (bs cs : List (Item index_space (suc n))) (w₁ : List ℕ) (t : Branches) (w₂ : List ℕ) (r : ℕ)
    → Grows n w (no_branches next) bs w₁ t → RestWritten n p ss cs w₁ t w₂ r → Writes (suc n) w next (branch_under index_space (sides_of ss) p (bs ++ cs)) w₂ r
rest_node n p ss w next bs cs w₁ t w₂ r g x =
    let h = grows_more n w (no_branches next) bs w₁ t cs x.mid x.all g x.branches in
    top_node n p ss (bs ++ cs) x.all.node w next x.mid x.all.next w₂ r (grown_row n w next (bs ++ cs) x.mid x.all h) x.top
