-- The walk below a node, child by child: the start, a child that is entered or passed over, the end; and how much a walk counts.
use Prim.Native.Nat.{ℕ, zero, suc, ◌+◌, ◌*◌, ◌≤◌, ◌<◌}
use mathlib.Core.Path.{◌≡◌, refl, sym, ap, ◌∙◌}
use mathlib.Core.Bool.{Bool, true, false, cond}
use mathlib.Core.List.{List, [], ◌∷◌, ◌++◌, flat_map}
use mathlib.Core.Option.{Option, none, some}
use native.Mathlib.Omega.{arith}
use lib.ListN.{length, length-append}
use Rattle.geometry.specs.declared.rect.Rect.{Rect}
use Rattle.tree.specs.Lists.{keep, total}
use Rattle.tree.specs.Nodes.{Item}
use Rattle.tree.specs.Walk.{node_walk_visits, node_walk_entries}
use Rattle.tree.proofs.Counts.{length_keep}
use Rattle.plane.specs.Lines.{CellEntry}
use Rattle.plane.specs.Fanout.{fanout, index_space}
use Rattle.memory.specs.Layout.{is_index_length, part, rect_count, item_count, polygon_in, entries_in, children_in}
use Rattle.memory.specs.Reading.{read_row, read_node}
use Rattle.memory.proofs.ReadingLaws.{row_parts, fits_as, leaf_parts, node_parts_lem, node_below, entries_length, part_length, index_length}
use Rattle.layout.specs.Nodes.{NodePart, PolygonPart}
use Rattle.layout.proofs.ReadNodes.{node_polygon}
use Rattle.walks.specs.Walks.{visits_from, visits_below, entries_from, entries_below, leaf_entries, Walkable}

-- A row of children in a memory of a right length reads.
pub record RowWalkable (n : ℕ) (m : List ℕ) (lo hi : ℕ) (ks : List ℕ) : Type 0 where
  pub right : is_index_length m ≡ true
  pub row : List (Item index_space (suc n))
  pub reads : read_row (read_node fanout n m) lo hi ks ≡ some row

-- a node that reads has a polygon, which is the one of its part
polygon_few : (n : ℕ) (m : List ℕ) (lo k : ℕ) (b : Item index_space (suc n)) → read_node fanout n m lo k ≡ some b → rect_count (part m k) ≤ 16
polygon_few zero m lo k b e = (fits_as fanout 3 m k (leaf_parts fanout m lo k b e).fits).few_rects
polygon_few (suc n) m lo k b e = (fits_as fanout 1 m k (node_parts_lem fanout n m lo k b e).fits).few_rects

items_few : (n : ℕ) (m : List ℕ) (lo k : ℕ) (b : Item index_space (suc n)) → read_node fanout n m lo k ≡ some b → item_count (part m k) ≤ 8
items_few zero m lo k b e = (fits_as fanout 3 m k (leaf_parts fanout m lo k b e).fits).few_items
items_few (suc n) m lo k b e = (fits_as fanout 1 m k (node_parts_lem fanout n m lo k b e).fits).few_items

-- a node that reads can be walked
pub walkable : (n : ℕ) (m : List ℕ) (lo k : ℕ) (b : Item index_space (suc n)) → is_index_length m ≡ true → lo ≤ k → read_node fanout n m lo k ≡ some b → Walkable n m lo k
walkable n m lo k b r l e =
    let h = node_below fanout m n lo k b e in
    let q = index_length m r in
    let x = q.length_is in
    let y = q.few_parts in
    record {
      right = r;
      from = l;
      below = omega arith;
      ends = omega arith;
      few = items_few n m lo k b e;
      node = b;
      reads = e;
    }

module _ (n : ℕ) (m : List ℕ) (lo k : ℕ) (v : Walkable n m lo k) where
  pub walk_polygon : PolygonPart m k
  walk_polygon = record { below = node_below fanout m n lo k v.node v.reads; few_rects = polygon_few n m lo k v.node v.reads }

  -- its counts fit
  pub node_part_lem : (p : List ℕ) → p ≡ part m k → NodePart p
  node_part_lem p e = rw e (record {
    length_is = part_length m k (node_below fanout m n lo k v.node v.reads);
    few_rects = polygon_few n m lo k v.node v.reads;
    few_items = items_few n m lo k v.node v.reads;
  })

module _ (t : List Rect → Bool) where
  -- the nodes entered below a row of children
  row_visits : (n : ℕ) → Option (List (Item index_space (suc n))) → ℕ
  row_visits n none = 0
  row_visits n (some bs) = total (λ b. cond (t b.poly) (node_walk_visits index_space t n b.child) 0) bs

  pub visits_row : ℕ → List ℕ → ℕ → ℕ → List ℕ → ℕ
  visits_row n m lo hi ks = row_visits n (read_row (read_node fanout n m) lo hi ks)

  module _ (u : CellEntry → Bool) where
    row_entries : (n : ℕ) → Option (List (Item index_space (suc n))) → List CellEntry
    row_entries n none = []
    row_entries n (some bs) = flat_map (λ b. cond (t b.poly) (node_walk_entries index_space t u n b.child) []) bs

    pub entries_row : ℕ → List ℕ → ℕ → ℕ → List ℕ → List CellEntry
    entries_row n m lo hi ks = row_entries n (read_row (read_node fanout n m) lo hi ks)

module _ (t : List Rect → Bool) (u : CellEntry → Bool) where
  pub leaf_visits : (m : List ℕ) (lo k : ℕ) → Walkable 0 m lo k → visits_below t 0 m lo k ≡ 1
  unfolding visits_below visits_from node_walk_visits
  leaf_visits m lo k v = rw v.reads

  pub leaf_entries_lem : (m : List ℕ) (lo k : ℕ) → Walkable 0 m lo k → entries_below t u 0 m lo k ≡ leaf_entries u (part m k)
  unfolding entries_below entries_from node_walk_entries leaf_entries
  leaf_entries_lem m lo k v =
      let p = leaf_parts fanout m lo k v.node v.reads in
      rw (v.reads, p.entries)

  pub node_visits : (n : ℕ) (m : List ℕ) (lo k : ℕ) → Walkable (suc n) m lo k → visits_below t (suc n) m lo k ≡ 1 + visits_row t n m lo k (children_in (part m k))
  unfolding visits_below visits_from node_walk_visits visits_row row_visits
  node_visits n m lo k v =
      let p = node_parts_lem fanout n m lo k v.node v.reads in
      rw (v.reads, p.row)

  pub node_entries : (n : ℕ) (m : List ℕ) (lo k : ℕ) → Walkable (suc n) m lo k → entries_below t u (suc n) m lo k ≡ entries_row t u n m lo k (children_in (part m k))
  unfolding entries_below entries_from node_walk_entries entries_row row_entries
  node_entries n m lo k v =
      let p = node_parts_lem fanout n m lo k v.node v.reads in
      rw (v.reads, p.row)

  pub node_row : (n : ℕ) (m : List ℕ) (lo k : ℕ) → Walkable (suc n) m lo k → RowWalkable n m lo k (children_in (part m k))
  node_row n m lo k v = record {
    right = v.right;
    row = v.node.child;
    reads = (node_parts_lem fanout n m lo k v.node v.reads).row;
  }

  -- a row taken apart: its first child at part j and the others
  pub record RowStep (n : ℕ) (m : List ℕ) (lo hi j : ℕ) (ks : List ℕ) : Type 0 where
    pub below : j < hi
    pub child : Walkable n m lo j
    pub others : RowWalkable n m (j + 1) hi ks
    pub visits : visits_row t n m lo hi (j ∷ ks) ≡ cond (t (polygon_in (part m j))) (visits_below t n m lo j) 0 + visits_row t n m (j + 1) hi ks
    pub entries : entries_row t u n m lo hi (j ∷ ks) ≡ cond (t (polygon_in (part m j))) (entries_below t u n m lo j) [] ++ entries_row t u n m (j + 1) hi ks

  pub row_step : (n : ℕ) (m : List ℕ) (lo hi j : ℕ) (ks : List ℕ) → RowWalkable n m lo hi (j ∷ ks) → RowStep n m lo hi j ks
  unfolding visits_below visits_from visits_row row_visits entries_below entries_from entries_row row_entries total flat_map
  row_step n m lo hi j ks v =
      let r = row_parts (read_node fanout n m) lo hi j ks v.row v.reads in
      let q = node_polygon n m lo j r.first r.head in
      let e : read_row (read_node fanout n m) lo hi (j ∷ ks) ≡ some (r.first ∷ r.others) = v.reads ∙ ap some (sym r.whole) in
      record {
        below = r.below;
        child = walkable n m lo j r.first v.right r.from r.head;
        others = record { right = v.right; row = r.others; reads = r.tail };
        visits = rw (e, r.head, r.tail, q);
        entries = rw (e, r.head, r.tail, q);
      }

  pub row_no_visits : (n : ℕ) (m : List ℕ) (lo hi : ℕ) → visits_row t n m lo hi [] ≡ 0
  unfolding visits_row row_visits read_row total
  row_no_visits n m lo hi = refl

  pub row_no_entries : (n : ℕ) (m : List ℕ) (lo hi : ℕ) → entries_row t u n m lo hi [] ≡ []
  unfolding entries_row row_entries read_row flat_map
  row_no_entries n m lo hi = refl

  -- a walk enters at most the parts from lo to k, and finds at most 8 entries a node
  record Bounded (n : ℕ) (m : List ℕ) (lo k : ℕ) : Type 0 where
    visits : lo + visits_below t n m lo k ≤ k + 1
    entries : length (entries_below t u n m lo k) ≤ 8 * visits_below t n m lo k

  record RowBounded (n : ℕ) (m : List ℕ) (lo hi : ℕ) (ks : List ℕ) : Type 0 where
    visits : lo + visits_row t n m lo hi ks ≤ hi
    entries : length (entries_row t u n m lo hi ks) ≤ 8 * visits_row t n m lo hi ks

  row_bounded : (n : ℕ) (m : List ℕ) → ((lo k : ℕ) → Walkable n m lo k → Bounded n m lo k)
      → (lo hi : ℕ) (ks : List ℕ) → lo ≤ hi → RowWalkable n m lo hi ks → RowBounded n m lo hi ks
  row_bounded n m f lo hi [] h v = record {
    visits = let a = row_no_visits n m lo hi in omega arith;
    entries = rw (row_no_visits n m lo hi, row_no_entries n m lo hi) (omega arith);
  }
  row_bounded n m f lo hi (j ∷ ks) h v =
      let r = row_step n m lo hi j ks v in
      go r (t (polygon_in (part m j))) refl (f lo j r.child) (row_bounded n m f (j + 1) hi ks (let b = r.below in omega arith) r.others)
    where
      go : RowStep n m lo hi j ks → (b : Bool) → t (polygon_in (part m j)) ≡ b → Bounded n m lo j → RowBounded n m (j + 1) hi ks → RowBounded n m lo hi (j ∷ ks)
      go r true e x y =
          let a : visits_row t n m lo hi (j ∷ ks) ≡ visits_below t n m lo j + visits_row t n m (j + 1) hi ks = r.visits ∙ rw e in
          let b : entries_row t u n m lo hi (j ∷ ks) ≡ entries_below t u n m lo j ++ entries_row t u n m (j + 1) hi ks = r.entries ∙ rw e in
          let p = x.visits in
          let q = x.entries in
          let g = y.visits in
          let h = y.entries in
          record { visits = omega arith; entries = rw (a, b, length-append) (omega arith) }
      go r false e x y =
          let a : visits_row t n m lo hi (j ∷ ks) ≡ 0 + visits_row t n m (j + 1) hi ks = r.visits ∙ rw e in
          let b : entries_row t u n m lo hi (j ∷ ks) ≡ entries_row t u n m (j + 1) hi ks = r.entries ∙ rw e in
          let p = r.child.from in
          let g = y.visits in
          let h = y.entries in
          record { visits = omega arith; entries = rw (a, b) (omega arith) }

  bounded : (n : ℕ) (m : List ℕ) (lo k : ℕ) → Walkable n m lo k → Bounded n m lo k
  unfolding leaf_entries
  bounded zero m lo k v =
      let a = leaf_visits m lo k v in
      let b = leaf_entries_lem m lo k v in
      let f = items_few zero m lo k v.node v.reads in
      let c : length (leaf_entries u (part m k)) ≤ 8 = few (entries_in (part m k) (item_count (part m k))) (entries_length (part m k) (item_count (part m k))) f in
      let g = v.from in
      record { visits = omega arith; entries = rw (a, b) c }
    where
      few : (l : List CellEntry) → length l ≡ item_count (part m k) → item_count (part m k) ≤ 8 → length (keep u l) ≤ 8
      few l e h = let q = length_keep u l in omega arith
  bounded (suc n) m lo k v =
      let a = node_visits n m lo k v in
      let b = node_entries n m lo k v in
      let r = row_bounded n m (bounded n m) lo k (children_in (part m k)) v.from (node_row n m lo k v) in
      let p = r.visits in
      let q = r.entries in
      record { visits = omega arith; entries = rw (a, b) (omega arith) }

  pub visits_few : (n : ℕ) (m : List ℕ) (lo k : ℕ) → Walkable n m lo k → visits_below t n m lo k ≤ 256
  visits_few n m lo k v =
      let b = (bounded n m lo k v).visits in
      let c = v.below in
      omega arith

  pub entries_few : (n : ℕ) (m : List ℕ) (lo k : ℕ) → Walkable n m lo k → length (entries_below t u n m lo k) ≤ 2048
  entries_few n m lo k v =
      let b = (bounded n m lo k v).entries in
      let c = visits_few n m lo k v in
      omega arith
