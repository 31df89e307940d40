-- The parts of a node and of the nodes below it, read back.
use mathlib.Core.Path.{◌≡◌, refl, ap}
use mathlib.Core.Bool.{Bool, true, ◌&&◌}
use mathlib.Core.List.{List, [], ◌∷◌, ◌++◌, flat_map}
use mathlib.Core.Option.{Option, some, bind}
use Prim.Native.Nat.{ℕ, zero, suc, ◌+◌, ◌*◌, ◌-◌, ◌≤◌, ◌<◌}
use native.Mathlib.Omega.{arith}
use native.Mathlib.Nat.{le_refl}
use borrow.Author.Tests.{lt-ltb, le-leb, leb-true}
use lib.Dec.{leb}
use lib.ListN.{length, length-append}
use Rattle.polygons.proofs.Booleans.{split_and, all4}
use Rattle.geometry.specs.declared.rect.Rect.{Rect}
use Rattle.geometry.specs.Cells.{all_valid}
use Rattle.cover.specs.Tests.{all_pass, pairs_pass, inside_of}
use Rattle.tree.specs.Lists.{total, All}
use Rattle.tree.specs.Nodes.{Item, nodes}
use Rattle.tree.proofs.Lists.{all_append}
use Rattle.tree.proofs.Walk.{leaf_nodes}
use Rattle.plane.specs.Plane.{plane_space}
use Rattle.memory.specs.Layout.{parts_of, part, in_use, node_fits}
use Rattle.memory.specs.SoundTest.{polygon_fits, count_test, apart_test, item_test}
use Rattle.memory.specs.Reading.{read_row, read_node}
use Rattle.memory.specs.Image.{node_part, entry_numbers, write_row, write_node}
use Rattle.memory.proofs.PartImage.{part_length, part_polygon, part_children, part_rest, part_counts, part_entries, length_entries}

-- five tests that pass together, each pass
pub all5 : (a b c d e : Bool) → a && b && c && d && e ≡ true → (a ≡ true) × (b ≡ true) × (c ≡ true) × (d ≡ true) × (e ≡ true)
all5 a b c d e h =
    let t = split_and (a && b && c && d) e h in
    let u = all4 a b c d t.0 in
    (u.0, u.1, u.2, u.3, t.1)

-- The k-th part of a memory is p, and in use.
pub record Held (m : List ℕ) (k : ℕ) (p : List ℕ) : Type 0 where
  pub there : k < parts_of m
  pub used : in_use m k ≡ true
  pub same : part m k ≡ p

-- the parts of a memory from k on are these
unfoldable pub Holds : List ℕ → ℕ → List (List ℕ) → Type 0
Holds m k [] = Unit {0}
Holds m k (p ∷ ps) = Held m k p × Holds m (suc k) ps

-- parts that follow one another
pub holds_append : (m : List ℕ) (k : ℕ) (ps qs : List (List ℕ)) → Holds m k (ps ++ qs) → Holds m k ps × Holds m (k + length ps) qs
unfolding Holds
holds_append m k [] qs h = let e : k + 0 ≡ k = omega arith in (tt, rw e h)
holds_append m k (p ∷ ps) qs h =
    let ih = holds_append m (suc k) ps qs h.1 in
    let e : k + suc (length ps) ≡ suc k + length ps = omega arith in
    ((h.0, ih.0), rw e ih.1)

-- every part has 128 numbers
abbrev pub Sized : List (List ℕ) → Type 0
Sized ps = All (λ p. length p ≡ 128) ps

module _ {B : Type 0} (write : ℕ → B → List (List ℕ)) where
  -- as many top nodes as subtrees
  pub length_roots : (next : ℕ) (bs : List B) → length (write_row write next bs).roots ≡ length bs
  unfolding write_row
  length_roots next [] = refl
  length_roots next (b ∷ bs) = ap suc (length_roots (next + length (write next b)) bs)

  -- the parts of the subtrees add up
  pub length_row : (size : B → ℕ) → ((next : ℕ) (b : B) → length (write next b) ≡ size b) → (next : ℕ) (bs : List B) → length (write_row write next bs).parts ≡ total size bs
  unfolding write_row total
  length_row size each next [] = refl
  length_row size each next (b ∷ bs) =
      let ih = length_row size each (next + length (write next b)) bs in
      let e = each next b in
      rw length-append (omega arith)

  module _ (test : B → Bool) where
    -- every part of a row has 128 numbers
    row_sized : ((next : ℕ) (b : B) → test b ≡ true → Sized (write next b)) → (next : ℕ) (bs : List B) → all_pass test bs ≡ true → Sized (write_row write next bs).parts
    unfolding write_row All all_pass
    row_sized each next [] h = tt
    row_sized each next (b ∷ bs) h =
        let t = split_and (test b) (all_pass test bs) h in
        all_append _ (write next b) _ (each next b t.0) (row_sized each (next + length (write next b)) bs t.1)

    -- a row is read back where each of its subtrees is
    pub row_reads :
        (read : ℕ → ℕ → Option B) (m : List ℕ) (hi : ℕ) →
        ((next : ℕ) (b : B) → 1 ≤ length (write next b)) →
        ((lo next : ℕ) (b : B) → test b ≡ true → lo ≤ next → Holds m next (write next b) → read lo (next + length (write next b) - 1) ≡ some b) →
        (lo next : ℕ) (bs : List B) → all_pass test bs ≡ true → lo ≤ next → next + length (write_row write next bs).parts ≤ hi →
        Holds m next (write_row write next bs).parts → read_row read lo hi (write_row write next bs).roots ≡ some bs
    unfolding write_row all_pass read_row bind
    row_reads read m hi one each lo next [] t l u h = refl
    row_reads read m hi one each lo next (b ∷ bs) t l u h =
        let own = write next b in
        let after = (write_row write (next + length own) bs).parts in
        let k : ℕ = next + length own - 1 in
        let t' = split_and (test b) (all_pass test bs) t in
        let h' = holds_append m next own after h in
        let o = one next b in
        let s = length-append own after in
        let x : lo ≤ k = omega arith in
        let y : k < hi = omega arith in
        let head : read lo k ≡ some b = each lo next b t'.0 l h'.0 in
        let ih = row_reads read m hi one each (k + 1) (next + length own) bs t'.1 (omega arith) (omega arith) h'.1 in
        rw (le-leb lo k x, lt-ltb k hi y, head, ih)

-- a node at a part that holds its numbers fits there
pub node_fits_lem :
    (fanout w : ℕ) (m : List ℕ) (k : ℕ) (p : List Rect) (c : ℕ) (items : List ℕ) → Held m k (node_part p c items) → 1 ≤ length p → length p ≤ 16 → 1 ≤ c → c ≤ fanout →
    length items ≤ 62 → length items ≡ w * c → node_fits fanout w m k ≡ true
unfolding node_fits
node_fits_lem fanout w m k p c items h r s i j fit e =
    rw (lt-ltb k (parts_of m) h.there, h.used, h.same, part_counts p c items s fit fanout r i j) (part_rest p c items s fit w e)

module _ (fanout : ℕ) where
  -- The counts of a node fit a part, and its items pass their tests.
  pub record NodeOk (n : ℕ) (b : Item (plane_space fanout) (suc n)) : Type 0 where
    pub some_rects : 1 ≤ length b.poly
    pub few_rects : length b.poly ≤ 16
    pub valid : all_valid b.poly ≡ true
    pub some_items : 1 ≤ length b.child
    pub few_items : length b.child ≤ fanout
    pub each : all_pass (item_test fanout n b.poly) b.child ≡ true

  -- a list that passes the test of counts
  pub count_ok : {A : Type 0} (l : List A) → count_test fanout l ≡ true → (1 ≤ length l) × (length l ≤ fanout)
  unfolding count_test
  count_ok l h = let a = split_and (leb 1 (length l)) (leb (length l) fanout) h in (leb-true _ _ a.0, leb-true _ _ a.1)

  -- an item of a routing node that passes its test
  pub item_ok : (n : ℕ) (p : List Rect) (b : Item (plane_space fanout) (suc n)) → item_test fanout (suc n) p b ≡ true → NodeOk n b
  unfolding item_test polygon_fits
  item_ok n p b h =
      let q = b.poly in
      let t = all5 (inside_of p q) (polygon_fits q) (count_test fanout b.child) (all_pass (item_test fanout n q) b.child) (pairs_pass (apart_test fanout n) b.child) h in
      let u = split_and (leb 1 (length q) && leb (length q) 16) (all_valid q) t.1 in
      let v = split_and (leb 1 (length q)) (leb (length q) 16) u.0 in
      let c = count_ok b.child t.2 in
      record {
        some_rects = leb-true _ _ v.0;
        few_rects = leb-true _ _ v.1;
        valid = u.1;
        some_items = c.0;
        few_items = c.1;
        each = t.3;
      }

  -- there are as many parts as nodes
  pub length_node : (n next : ℕ) (b : Item (plane_space fanout) (suc n)) → length (write_node fanout n next b) ≡ nodes (plane_space fanout) (suc n) b
  unfolding write_node nodes
  length_node zero next b = let z = leaf_nodes (plane_space fanout) b.child in omega arith
  length_node (suc n) next b =
      let l = length_row (write_node fanout n) (nodes (plane_space fanout) (suc n)) (length_node n) next b.child in
      rw length-append (omega arith)

  -- there is at least one
  pub some_parts : (n next : ℕ) (b : Item (plane_space fanout) (suc n)) → 1 ≤ length (write_node fanout n next b)
  unfolding nodes
  some_parts n next b = let l = length_node n next b in omega arith

  module _ (small : fanout ≤ 20) where
    -- each part has 128 numbers
    pub node_sized : (n next : ℕ) (b : Item (plane_space fanout) (suc n)) → NodeOk n b → Sized (write_node fanout n next b)
    unfolding write_node All
    node_sized zero next b ok =
        let l = length_entries b.child in
        (part_length b.poly _ _ ok.few_rects (omega arith), tt)
    node_sized (suc n) next b ok =
        let l = length_roots (write_node fanout n) next b.child in
        all_append _ (write_row (write_node fanout n) next b.child).parts _
        (row_sized (write_node fanout n) (item_test fanout (suc n) b.poly) (λ k c t. node_sized n k c (item_ok n b.poly c t)) next b.child ok.each)
        (part_length b.poly _ _ ok.few_rects (omega arith), tt)

    -- a leaf at its part
    leaf_reads : (m : List ℕ) (lo k : ℕ) (b : Item (plane_space fanout) 1) → NodeOk zero b →
        Held m k (node_part b.poly (length b.child) (flat_map entry_numbers b.child)) → read_node fanout zero m lo k ≡ some b
    unfolding read_node node_part
    leaf_reads m lo k b ok h =
        let c = length b.child in
        let items = flat_map entry_numbers b.child in
        let l = length_entries b.child in
        let few = ok.few_rects in
        rw (node_fits_lem fanout 3 m k b.poly c items h ok.some_rects few ok.some_items ok.few_items (omega arith) l, h.same)
        (ap some (λ i. record { poly = part_polygon b.poly c items few (omega arith) i; child = part_entries b.poly c b.child few (omega arith) i }))

    -- a routing node at its part, its row read
    routing_reads : (n : ℕ) (m : List ℕ) (lo k : ℕ) (b : Item (plane_space fanout) (suc (suc n))) (roots : List ℕ) → NodeOk (suc n) b →
        Held m k (node_part b.poly (length b.child) roots) → length roots ≡ length b.child → read_row (read_node fanout n m) lo k roots ≡ some b.child →
        read_node fanout (suc n) m lo k ≡ some b
    unfolding read_node bind
    routing_reads n m lo k b roots ok h l r =
        let c = length b.child in
        let few = ok.few_rects in
        let fit : length roots ≤ 62 = omega arith in
        rw (node_fits_lem fanout 1 m k b.poly c roots h ok.some_rects few ok.some_items ok.few_items fit (omega arith), h.same, part_children b.poly c roots few fit l, r)
        (ap some (λ i. record { poly = part_polygon b.poly c roots few fit i; child = b.child }))

    -- a node is read back
    pub node_reads : (n : ℕ) (m : List ℕ) (lo next : ℕ) (b : Item (plane_space fanout) (suc n)) → NodeOk n b → lo ≤ next → Holds m next (write_node fanout n next b) →
        read_node fanout n m lo (next + length (write_node fanout n next b) - 1) ≡ some b
    unfolding write_node Holds read_node bind
    node_reads zero m lo next b ok l h =
        let e : next + 1 - 1 ≡ next = omega arith in
        rw e (leaf_reads m lo next b ok h.0)
    node_reads (suc n) m lo next b ok l h =
        let below = write_row (write_node fanout n) next b.child in
        let own = node_part b.poly (length b.child) below.roots in
        let s = length-append below.parts (own ∷ []) in
        let e : next + length (below.parts ++ (own ∷ [])) - 1 ≡ next + length below.parts = omega arith in
        let h' = holds_append m next below.parts (own ∷ []) h in
        let row : read_row (read_node fanout n m) lo (next + length below.parts) below.roots ≡ some b.child =
        row_reads (write_node fanout n) (item_test fanout (suc n) b.poly) (read_node fanout n m) m (next + length below.parts) (some_parts n)
        (λ lo k c t. node_reads n m lo k c (item_ok n b.poly c t)) lo next b.child ok.each l (le_refl _) h'.0 in
        rw e (routing_reads n m lo (next + length below.parts) b below.roots ok h'.1.0 (length_roots (write_node fanout n) next b.child) row)
