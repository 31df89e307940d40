-- What remains of a node under sides: a leaf's entries, and a routing node's children, one after another.
use Prim.Native.Nat.{ℕ, zero, suc, ◌+◌, ◌≤◌, ◌<◌}
use mathlib.Core.Path.{◌≡◌, refl, sym, ap, ◌∙◌}
use mathlib.Core.Bool.{Bool, true, false, cond}
use mathlib.Core.List.{List, [], ◌∷◌, ◌++◌, append-nil, append_assoc, flat_map}
use mathlib.Core.Option.{Option, none, some}
use native.Mathlib.Omega.{arith}
use mir.Syntax.{w32}
use mir.Val.{Fits}
use lib.ListN.{length, drop, length-append, drop_of_length-le}
use Rattle.geometry.specs.declared.rect.Side.{Side as RectSide}
use Rattle.geometry.specs.declared.rect.Line.{Line}
use Rattle.geometry.specs.declared.rect.Rect.{Rect}
use Rattle.tree.specs.Lists.{keep}
use Rattle.tree.specs.Space.{Side}
use Rattle.tree.specs.Nodes.{Item}
use Rattle.tree.specs.Plan.{branch_under, clips}
use Rattle.tree.specs.Pass.{deep}
use Rattle.plane.specs.Lines.{CellEntry}
use Rattle.plane.specs.Fanout.{fanout, index_space}
use Rattle.memory.specs.Layout.{part, item_count, polygon_in, entries_in, children_in}
use Rattle.memory.specs.Reading.{read_row, read_node}
use Rattle.memory.proofs.ReadingLaws.{row_parts, leaf_parts, node_parts_lem}
use Rattle.layout.specs.Nodes.{count_at, child_at}
use Rattle.walks.specs.Walks.{Walkable, leaf_entries}
use Rattle.walks.proofs.WalkRows.{RowWalkable, walkable}
use Rattle.walks.proofs.WalkLoop.{children_count, next_child}
use Rattle.split_line.specs.Sides.{sides_of, on_every, on_test}
use Rattle.split_line.proofs.SideLaws.{entry_on_lem}
use Rattle.tree_after.specs.Writes.{deep_of, deep_at}
use Rattle.tree_after.specs.Leaves.{leaf_remaining, leaf_under}

-- a branch under sides: one where items remain, or where there are no sides
module _ {A : Type 0} (p : List Rect) (items : List A) where
  pub under_some : (ss : List (Side Line)) → 1 ≤ length items
      → branch_under index_space ss p items ≡ record { poly = clips index_space ss p; child = items } ∷ []
  unfolding clips
  under_some [] h = refl
  under_some (s ∷ ss) h = go items h
    where
      go : (l : List A) → 1 ≤ length l → branch_under index_space (s ∷ ss) p l ≡ record { poly = clips index_space (s ∷ ss) p; child = l } ∷ []
      go [] k = absurd (omega arith)
      go (x ∷ l) k = refl

  pub under_none : (ss : List (Side Line)) → 1 ≤ length ss → items ≡ [] → branch_under index_space ss p items ≡ []
  under_none [] h e = absurd (omega arith)
  under_none (s ∷ ss) h e = rw e

  pub under_one : (ss : List (Side Line)) → length (branch_under index_space ss p items) ≤ 1
  under_one [] = omega arith
  under_one (s ∷ ss) = go items
    where
      go : (l : List A) → length (branch_under index_space (s ∷ ss) p l) ≤ 1
      go [] = omega arith
      go (x ∷ l) = omega arith

pub length_sides : (ss : List RectSide) → length (sides_of ss) ≡ length ss
unfolding sides_of
length_sides [] = refl
length_sides (s ∷ ss) = ap suc (length_sides ss)

-- at most one branch remains of a node
deep_of_one : (n : ℕ) (ss : List RectSide) (o : Option (Item index_space (suc n))) → length (deep_of n ss o) ≤ 1
unfolding deep_of deep
deep_of_one n ss none = omega arith
deep_of_one n ss (some b) = under_one b.poly (flat_map (deep index_space n (sides_of ss)) b.child) (sides_of ss)

pub deep_one : (n : ℕ) (m : List ℕ) (lo k : ℕ) (ss : List RectSide) → length (deep_at n m lo k ss) ≤ 1
unfolding deep_at
deep_one n m lo k ss = deep_of_one n ss (read_node fanout n m lo k)

-- the entries that remain
pub entries_remaining : (ss : List RectSide) (es : List CellEntry) → flat_map (deep index_space zero (sides_of ss)) es ≡ keep (on_test ss) es
unfolding flat_map keep deep on_test
entries_remaining ss [] = refl
entries_remaining ss (e ∷ es) = rw (entries_remaining ss es, entry_on_lem ss e) (go (on_every ss e.cell))
  where
    go : (b : Bool) → cond b (e ∷ []) [] ++ keep (on_test ss) es ≡ cond b (e ∷ keep (on_test ss) es) (keep (on_test ss) es)
    go true = refl
    go false = refl

pub deep_leaf : (m : List ℕ) (lo k : ℕ) (ss : List RectSide) → Walkable 0 m lo k → deep_at 0 m lo k ss ≡ leaf_under ss (part m k)
unfolding deep_at deep_of deep leaf_under leaf_remaining leaf_entries
deep_leaf m lo k ss v =
    let p = leaf_parts fanout m lo k v.node v.reads in
    rw (v.reads, p.polygon, p.entries, entries_remaining ss (entries_in (part m k) (item_count (part m k))))

-- what remains of a row of children
row_deep : (n : ℕ) → List RectSide → Option (List (Item index_space (suc n))) → List (Item index_space (suc n))
row_deep n ss none = []
row_deep n ss (some bs) = flat_map (deep index_space (suc n) (sides_of ss)) bs

pub deep_row : (n : ℕ) (m : List ℕ) (lo hi : ℕ) (ks : List ℕ) (ss : List RectSide) → List (Item index_space (suc n))
deep_row n m lo hi ks ss = row_deep n ss (read_row (read_node fanout n m) lo hi ks)

-- what remains of the children of the node at part k
abbrev pub children_remaining : (n : ℕ) (m : List ℕ) (lo k : ℕ) (ss : List RectSide) → List (Item index_space (suc n))
children_remaining n m lo k ss = deep_row n m lo k (children_in (part m k)) ss

pub deep_node : (n : ℕ) (m : List ℕ) (lo k : ℕ) (ss : List RectSide) → Walkable (suc n) m lo k
    → deep_at (suc n) m lo k ss ≡ branch_under index_space (sides_of ss) (polygon_in (part m k)) (children_remaining n m lo k ss)
unfolding deep_at deep_of deep deep_row row_deep
deep_node n m lo k ss v =
    let p = node_parts_lem fanout n m lo k v.node v.reads in
    rw (v.reads, p.polygon, p.row)

no_row : (n : ℕ) (m : List ℕ) (lo hi : ℕ) (ss : List RectSide) → deep_row n m lo hi [] ss ≡ []
unfolding deep_row row_deep read_row flat_map
no_row n m lo hi ss = refl

-- a row taken apart: its first child at part j and the others
record DeepStep (n : ℕ) (m : List ℕ) (lo hi j : ℕ) (ks : List ℕ) (ss : List RectSide) : Type 0 where
  below : j < hi
  child : Walkable n m lo j
  others : RowWalkable n m (j + 1) hi ks
  whole : deep_row n m lo hi (j ∷ ks) ss ≡ deep_at n m lo j ss ++ deep_row n m (j + 1) hi ks ss

deep_step : (n : ℕ) (m : List ℕ) (lo hi j : ℕ) (ks : List ℕ) (ss : List RectSide) → RowWalkable n m lo hi (j ∷ ks) → DeepStep n m lo hi j ks ss
unfolding deep_at deep_of deep_row row_deep flat_map
deep_step n m lo hi j ks ss v =
    let r = row_parts (read_node fanout n m) lo hi j ks v.row v.reads in
    let e : read_row (read_node fanout n m) lo hi (j ∷ ks) ≡ some (r.first ∷ r.others) = v.reads ∙ ap some (sym r.whole) in
    record {
      below = r.below;
      child = walkable n m lo j r.first v.right r.from r.head;
      others = record { right = v.right; row = r.others; reads = r.tail };
      whole = rw (e, r.head, r.tail);
    }

-- Before the i-th of the size children of the node at part k: bs remain of those that were passed, and low is the child's lower end.
pub record AtDeep (n : ℕ) (m : List ℕ) (lo k : ℕ) (ss : List RectSide) (size i low : ℕ) (bs : List (Item index_space (suc n))) : Type 0 where
  pub size_is : size ≡ count_at m k
  pub i_le : i ≤ size
  pub few : length bs ≤ i
  pub walk : Walkable (suc n) m lo k
  pub row : RowWalkable n m low k (drop i (children_in (part m k)))
  pub whole : bs ++ deep_row n m low k (drop i (children_in (part m k))) ss ≡ children_remaining n m lo k ss

pub deep_start : (n : ℕ) (m : List ℕ) (lo k : ℕ) (ss : List RectSide) (size : ℕ) → size ≡ count_at m k → Walkable (suc n) m lo k → AtDeep n m lo k ss size 0 lo []
deep_start n m lo k ss size q v = record {
  size_is = q;
  i_le = omega arith;
  few = omega arith;
  walk = v;
  row = record { right = v.right; row = v.node.child; reads = (node_parts_lem fanout n m lo k v.node v.reads).row };
  whole = refl;
}

module _ (n : ℕ) (m : List ℕ) (lo k : ℕ) (ss : List RectSide) (size i low : ℕ) (bs : List (Item index_space (suc n))) (a : AtDeep n m lo k ss size i low bs) where
  pub deep_end : size ≤ i → bs ≡ children_remaining n m lo k ss
  deep_end h =
      let q = a.size_is in
      let c = children_count (suc n) m lo k a.walk in
      let s : length (children_in (part m k)) ≤ i = omega arith in
      sym (append-nil bs) ∙ ap (λ (l : List (Item index_space (suc n))). bs ++ l) (sym (no_row n m low k ss))
      ∙ (rw (drop_of_length-le (children_in (part m k)) s) at a.whole)

  module _ (h : i < size) (j : ℕ) (j_is : j ≡ child_at m k i) where
    next : drop i (children_in (part m k)) ≡ j ∷ drop (i + 1) (children_in (part m k))
    next = rw j_is (next_child (suc n) m lo k a.walk i (rw a.size_is at h))

    step : DeepStep n m low k j (drop (i + 1) (children_in (part m k))) ss
    step = deep_step n m low k _ _ ss (rw next at a.row)

    pub deep_child : Walkable n m low j
    deep_child = step.child

    pub deep_fits : Fits w32 (j + 1)
    deep_fits = let b = step.below in let v = a.walk.below in omega arith

    -- those passed, the child and the others give the whole
    pub deep_whole : bs ++ (deep_at n m low j ss ++ deep_row n m (j + 1) k (drop (i + 1) (children_in (part m k))) ss) ≡ children_remaining n m lo k ss
    deep_whole = ap (λ (l : List (Item index_space (suc n))). bs ++ l) (sym step.whole) ∙ (rw next at a.whole)

    pub deep_next : AtDeep n m lo k ss size (i + 1) (j + 1) (bs ++ deep_at n m low j ss)
    deep_next = record {
      size_is = a.size_is;
      i_le = omega arith;
      few = let o = deep_one n m low j ss in let f = a.few in rw length-append (omega arith);
      walk = a.walk;
      row = step.others;
      whole = append_assoc bs _ _ ∙ deep_whole;
    }
