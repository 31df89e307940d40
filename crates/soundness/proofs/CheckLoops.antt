-- The soundness test as the code takes it: a leaf, and the loop over a routing node's branches.
use mathlib.Core.Path.{◌≡◌, refl, sym, ap, ◌∙◌}
use mathlib.Core.Bool.{Bool, true, false, ◌&&◌, cond}
use mathlib.Core.List.{List, [], ◌∷◌}
use Prim.Native.Nat.{ℕ, zero, suc, ◌+◌, ◌-◌, ◌<◌, ◌≤◌}
use native.Mathlib.Omega.{arith}
use native.Mathlib.Decide.{dec_lt}
use native.Mathlib.Numerals.{add-one}
use Rattle.std.proofs.lemmas.List.{get_or_default}
use Rattle.std.specs.Prelude.{Some, None}
use Rattle.std.specs.Prelude as S
use lib.Dec.{leb}
use lib.ListN.{length, take, drop, get_or, drop_of_length-le}
use lib.Seq.{drop-cons}
use Rattle.polygons.proofs.Booleans.{not_both, both, split_and, all4}
use Rattle.geometry.specs.Cells.{all_valid}
use Rattle.cover.specs.Tests.{all_pass, pairs_pass, inside_of}
use Rattle.cover.proofs.PassLoops.{Pairing, pairing_start, pairing_end, pairing_stop, pairing_on}
use Rattle.tree.specs.Lists.{total}
use Rattle.tree.specs.Nodes.{Item, nodes}
use Rattle.tree.proofs.Walk.{leaf_nodes}
use Rattle.plane.specs.Fanout.{fanout, index_space}
use Rattle.memory.specs.Layout.{parts_of, part, item_count, polygon_in, entries_in, children_in, node_fits}
use Rattle.memory.specs.SoundTest.{polygon_fits, count_test, apart_test, item_test}
use Rattle.memory.specs.Reading.{read_row, read_node}
use Rattle.memory.proofs.ReadingLaws.{fits_as, leaf_parts, node_parts_lem, nodes_range, entries_length, part_length, IndexLength, children_length}
use Rattle.layout.specs.Nodes.{PartIn, NodePart, PolygonPart}
use Rattle.layout.proofs.NodeLaws.{rest_is}
use Rattle.layout.proofs.ReadNodes.{node_part_lem}
use Rattle.soundness.specs.Check.{node_test, checked, checked_at, parts_apart, PolygonParts}
use Rattle.soundness.proofs.CheckLaws.{found, row_sum, row_checked, low_row, high_row, lost_row, found_row, checked_node, fits_polygon, count_fits, later_first, none_or_none}

pub part_among : (m ks : List ℕ) → PolygonParts m ks → (i j : ℕ) → i < length ks → j ≡ get_or ks i j → PolygonPart m j
part_among m ks v i j h e = rw (e ∙ get_or_default ks i j 0 h) (v.each i h)

next_part : (ks : List ℕ) (j : ℕ) → j < length ks → drop j ks ≡ get_or ks j 0 ∷ drop (j + 1) ks
next_part ks j h = rw (add-one, drop-cons ks j 0)

-- the polygons of some parts are tested against each other
pub record Siblings (m ks : List ℕ) (i : ℕ) (w : Bool) : Type 0 where
  pub i_le : i ≤ length ks
  pub parts : PolygonParts m ks
  pub pairing : Pairing (parts_apart m) ks i w

pub siblings_start : (m ks : List ℕ) → PolygonParts m ks → Siblings m ks 0 (pairs_pass (parts_apart m) ks)
siblings_start m ks p = record { i_le = omega arith; parts = p; pairing = pairing_start (parts_apart m) ks }

module _ (m ks : List ℕ) (i : ℕ) (w : Bool) (v : Siblings m ks i w) where
  pub siblings_end : length ks ≤ i → true ≡ w
  siblings_end h = pairing_end (parts_apart m) ks i w v.pairing (drop_of_length-le ks h)

  module _ (h : i < length ks) (b : Bool) (q : b ≡ all_pass (parts_apart m (get_or ks i 0)) (take (length ks - (i + 1)) (drop (i + 1) ks))) where
    later : b ≡ all_pass (parts_apart m (get_or ks i 0)) (drop (i + 1) ks)
    later = q ∙ ap (all_pass (parts_apart m (get_or ks i 0))) (rest_is ks (i + 1))

    pub siblings_stop : b ≡ false → false ≡ w
    siblings_stop f = pairing_stop (parts_apart m) ks i w v.pairing (get_or ks i 0) (next_part ks i h) (sym later ∙ f)

    pub siblings_on : b ≡ true → Siblings m ks (i + 1) w
    siblings_on f = record {
      i_le = omega arith;
      parts = v.parts;
      pairing = pairing_on (parts_apart m) ks i w v.pairing (get_or ks i 0) (next_part ks i h) (sym later ∙ f);
    }

-- a part that fits
module _ (w : ℕ) (m : List ℕ) (k : ℕ) where
  fitting_below : node_fits fanout w m k ≡ true → k < parts_of m
  fitting_below e = (fits_as fanout w m k e).below

  fitting_part : node_fits fanout w m k ≡ true → (p : List ℕ) → p ≡ part m k → NodePart p
  fitting_part e p q =
      let f = fits_as fanout w m k e in
      rw q (record { length_is = part_length m k f.below; few_rects = f.few_rects; few_items = f.few_items })

  module _ (b : Bool) (e : b ≡ node_fits fanout w m k) where
    pub head_polygon : b ≡ true → PolygonPart m k
    head_polygon f =
        let h = fits_as fanout w m k (sym e ∙ f) in
        record { below = h.below; few_rects = h.few_rects }

  module _ (b : Bool) (e : b ≡ node_fits fanout w m k && all_valid (polygon_in (part m k))) (f : b ≡ true) where
    pub sound_fits : node_fits fanout w m k ≡ true
    sound_fits = (split_and _ _ (sym e ∙ f)).0

    pub sound_valid : all_valid (polygon_in (part m k)) ≡ true
    sound_valid = (split_and (node_fits fanout w m k) _ (sym e ∙ f)).1

    pub sound_in : PartIn m k
    sound_in = let h = fitting_below sound_fits in omega arith

    pub sound_part : (p : List ℕ) → p ≡ part m k → NodePart p
    sound_part = fitting_part sound_fits

    pub sound_few : (p : List ℕ) → p ≡ part m k → item_count p ≤ 62
    sound_few p q = let n = (sound_part p q).few_items in omega arith

-- a polygon that fits has valid rectangles
sound_polygon : (n : ℕ) (b : Item index_space (suc n)) → node_test n b ≡ true → all_valid b.poly ≡ true
unfolding node_test polygon_fits
sound_polygon n b e =
    let f = all4 (polygon_fits b.poly) (count_test fanout b.child) (all_pass (item_test fanout n b.poly) b.child) (pairs_pass (apart_test fanout n) b.child) e in
    (split_and (leb 1 (length b.poly) && leb (length b.poly) 16) (all_valid b.poly) f.0).1

-- a node whose part does not fit, or whose rectangles are not valid, is not sound
unsound : (r : S.Option ℕ) → ((c : ℕ) → Some c ≡ r → ⊥) → None ≡ r
unsound None h = refl
unsound (Some c) h = absurd (h c refl)

module _ (m : List ℕ) (lo k : ℕ) (b : Bool) where
  pub leaf_unfit : b ≡ node_fits fanout 3 m k && all_valid (polygon_in (part m k)) → b ≡ false → None ≡ checked_at 0 m lo k
  unfolding checked_at
  leaf_unfit e f = unsound _ λ c s.
      let x = found 0 (read_node fanout 0 m lo k) c s in
      let p = leaf_parts fanout m lo k x.node x.read in
      not_both b (e ∙ both _ _ p.fits (ap all_valid (sym p.polygon) ∙ sound_polygon 0 x.node x.sound)) f

  pub node_unfit : (l : ℕ) → (l ≡ 0 → ⊥) → b ≡ node_fits fanout 1 m k && all_valid (polygon_in (part m k)) → b ≡ false → None ≡ checked_at l m lo k
  unfolding checked_at
  node_unfit zero z e f = absurd (z refl)
  node_unfit (suc n) z e f = unsound _ λ c s.
      let x = found (suc n) (read_node fanout (suc n) m lo k) c s in
      let p = node_parts_lem fanout n m lo k x.node x.read in
      not_both b (e ∙ both _ _ p.fits (ap all_valid (sym p.polygon) ∙ sound_polygon (suc n) x.node x.sound)) f

-- a leaf whose part fits and whose rectangles are valid: its entries are inside the polygon and apart
checked_leaf : (m : List ℕ) (lo k : ℕ) → node_fits fanout 3 m k ≡ true → all_valid (polygon_in (part m k)) ≡ true
    → checked_at 0 m lo k
    ≡ cond (pairs_pass (apart_test fanout 0) (entries_in (part m k) (item_count (part m k))))
    (cond (all_pass (item_test fanout 0 (polygon_in (part m k))) (entries_in (part m k) (item_count (part m k)))) (Some 1) None) None
unfolding checked_at read_node checked node_test nodes
checked_leaf m lo k e v =
    let f = fits_as fanout 3 m k e in
    let es = entries_in (part m k) (item_count (part m k)) in
    let l = entries_length (part m k) (item_count (part m k)) in
    let s = f.some_items in
    let d = f.few_items in
    let z = leaf_nodes index_space es in
    let o : 1 + total (nodes index_space zero) es ≡ 1 = omega arith in
    rw e (later_first (polygon_fits (polygon_in (part m k))) (count_test fanout es) (all_pass (item_test fanout 0 (polygon_in (part m k))) es) (pairs_pass (apart_test fanout 0) es)
    (Some (1 + total (nodes index_space zero) es)) (fits_polygon 3 m k f v) (count_fits es (omega arith) (omega arith))
    ∙ ap (λ x. cond (pairs_pass (apart_test fanout 0) es) (cond (all_pass (item_test fanout 0 (polygon_in (part m k))) es) (Some x) None) None) o)

module _ (m : List ℕ) (lo k : ℕ) (h : Bool) (e : h ≡ node_fits fanout 3 m k && all_valid (polygon_in (part m k))) (f : h ≡ true)
    (p : List ℕ) (p_is : p ≡ part m k) (a : Bool) (ea : a ≡ all_pass (item_test fanout 0 (polygon_in p)) (entries_in p (item_count p))) where
  leaf_is : (b : Bool) → b ≡ pairs_pass (apart_test fanout 0) (entries_in p (item_count p)) → checked_at 0 m lo k ≡ cond b (cond a (Some 1) None) None
  leaf_is b eb =
      let qa = ea ∙ ap (λ q. all_pass (item_test fanout 0 (polygon_in q)) (entries_in q (item_count q))) p_is in
      let qb = eb ∙ ap (λ q. pairs_pass (apart_test fanout 0) (entries_in q (item_count q))) p_is in
      checked_leaf m lo k (sound_fits 3 m k h e f) (sound_valid 3 m k h e f) ∙ rw (← qa, ← qb)

  pub leaf_outside : a ≡ false → None ≡ checked_at 0 m lo k
  leaf_outside g =
      let b = pairs_pass (apart_test fanout 0) (entries_in p (item_count p)) in
      sym (leaf_is b refl ∙ rw g (none_or_none b))

  module _ (b : Bool) (eb : b ≡ pairs_pass (apart_test fanout 0) (entries_in p (item_count p))) where
    pub leaf_double : b ≡ false → None ≡ checked_at 0 m lo k
    leaf_double g = sym (leaf_is b eb ∙ rw g)

    pub leaf_sound : a ≡ true → b ≡ true → Some 1 ≡ checked_at 0 m lo k
    leaf_sound g i = sym (leaf_is b eb ∙ rw (i, g))

-- a leaf is read from any lower end
pub leaf_any : (l : ℕ) (m : List ℕ) (lo k : ℕ) (c : S.Option ℕ) → l ≡ 0 → c ≡ checked_at 0 m 0 k → c ≡ checked_at l m lo k
unfolding checked_at read_node
leaf_any l m lo k c z e = e ∙ ap (λ n. checked_at n m lo k) (sym z)

-- a subtree has at most as many nodes as parts from lo to k
pub checked_few : (n : ℕ) (m : List ℕ) (lo k c : ℕ) → lo ≤ k → Some c ≡ checked_at n m lo k → lo + c ≤ k + 1
unfolding checked_at
checked_few n m lo k c h e =
    let x = found n (read_node fanout n m lo k) c e in
    let r = nodes_range fanout m n lo k x.node h x.read in
    let q = x.count in
    omega arith

-- The branches before the i-th of a routing node at part k are sound, and they and the node have sum nodes; the others' parts are those
-- from low on.
pub record Rowing (l : ℕ) (m : List ℕ) (lo k : ℕ) (ks : List ℕ) (low sum i : ℕ) : Type 0 where
  pub i_le : i ≤ length ks
  pub few_ks : length ks ≤ 8
  pub low_le : low ≤ k
  pub few : lo + sum ≤ low + 1
  pub right : IndexLength m
  pub node : PolygonPart m k
  pub parts : (j : ℕ) → j < i → PolygonPart m (get_or ks j 0)
  pub whole : checked_at l m lo k ≡ cond (pairs_pass (parts_apart m) ks) (row_checked (l - 1) m (polygon_in (part m k)) sum low k (drop i ks)) None

pub rowing_start : (l : ℕ) (m : List ℕ) (lo k : ℕ) (b : Bool) (p ks : List ℕ) → (l ≡ 0 → ⊥) → lo ≤ k → IndexLength m
    → b ≡ node_fits fanout 1 m k && all_valid (polygon_in (part m k)) → b ≡ true → p ≡ part m k → ks ≡ children_in p → Rowing l m lo k ks lo 1 0
rowing_start l m lo k b p ks z h r e f p_is ks_is =
    let fits = fits_as fanout 1 m k (sound_fits 1 m k b e f) in
    let q : l ≡ suc (l - 1) = omega arith in
    let n = fits.few_items in
    let s = children_length fanout m k fits.below (omega arith) in
    let x : ks ≡ children_in (part m k) = ks_is ∙ ap children_in p_is in
    let u = ap length x in
    record {
      i_le = omega arith;
      few_ks = omega arith;
      low_le = h;
      few = omega arith;
      right = r;
      node = record { below = fits.below; few_rects = fits.few_rects };
      parts = λ j p. absurd (omega arith);
      whole = rw x (ap (λ n. checked_at n m lo k) q ∙ checked_node (l - 1) m lo k (sound_fits 1 m k b e f) (sound_valid 1 m k b e f));
    }

module _ (l : ℕ) (m : List ℕ) (lo k : ℕ) (ks : List ℕ) (low sum i : ℕ) (v : Rowing l m lo k ks low sum i) where
  pub rowing_parts : length ks ≤ i → PolygonParts m ks
  rowing_parts h = record { each = λ j p. v.parts j (omega arith) }

  rowing_end : length ks ≤ i → checked_at l m lo k ≡ cond (pairs_pass (parts_apart m) ks) (Some sum) None
  unfolding row_checked row_sum read_row all_pass total
  rowing_end h =
      let e : drop i ks ≡ [] = drop_of_length-le ks h in
      let q : sum + 0 ≡ sum = omega arith in
      v.whole ∙ rw (e, q)

  module _ (b : Bool) (e : b ≡ pairs_pass (parts_apart m) ks) (h : length ks ≤ i) where
    pub rowing_sound : b ≡ true → Some sum ≡ checked_at l m lo k
    rowing_sound f = sym (rowing_end h ∙ rw (← e, f))

    pub rowing_meet : b ≡ false → None ≡ checked_at l m lo k
    rowing_meet f = sym (rowing_end h ∙ rw (← e, f))

  module _ (h : i < length ks) where
    rowing_next : checked_at l m lo k ≡ cond (pairs_pass (parts_apart m) ks) (row_checked (l - 1) m (polygon_in (part m k)) sum low k (get_or ks i 0 ∷ drop (i + 1) ks)) None
    rowing_next = v.whole ∙ ap (λ r. cond (pairs_pass (parts_apart m) ks) (row_checked (l - 1) m (polygon_in (part m k)) sum low k r) None) (next_part ks i h)

    rowing_stop : row_checked (l - 1) m (polygon_in (part m k)) sum low k (get_or ks i 0 ∷ drop (i + 1) ks) ≡ None → None ≡ checked_at l m lo k
    rowing_stop e = sym (rowing_next ∙ rw e (none_or_none (pairs_pass (parts_apart m) ks)))

    pub rowing_low : get_or ks i 0 < low → None ≡ checked_at l m lo k
    rowing_low g = rowing_stop (low_row (l - 1) m (polygon_in (part m k)) sum low k (get_or ks i 0) (drop (i + 1) ks) g)

    module _ (a : low ≤ get_or ks i 0) where
      pub rowing_high : k ≤ get_or ks i 0 → None ≡ checked_at l m lo k
      rowing_high g = rowing_stop (high_row (l - 1) m (polygon_in (part m k)) sum low k (get_or ks i 0) (drop (i + 1) ks) a g)

      module _ (g : get_or ks i 0 < k) (r : S.Option ℕ) (t : r ≡ checked_at (l - 1) m low (get_or ks i 0)) where
        pub rowing_lost : r ≡ None → None ≡ checked_at l m lo k
        rowing_lost z = rowing_stop (lost_row (l - 1) m (polygon_in (part m k)) sum low k (get_or ks i 0) (drop (i + 1) ks) a g (sym t ∙ z))

        module _ (c : ℕ) (s : r ≡ Some c) where
          e : Some c ≡ checked_at (l - 1) m low (get_or ks i 0)
          e = sym s ∙ t

          rowing_few : lo + (sum + c) ≤ get_or ks i 0 + 2
          rowing_few =
              let f = checked_few (l - 1) m low (get_or ks i 0) c a e in
              let d = v.few in
              omega arith

          pub rowing_fits : sum + c ≤ 256
          rowing_fits =
              let f = rowing_few in
              let p = v.right.few_parts in
              let n = v.node.below in
              omega arith

          pub rowing_child : PolygonPart m (get_or ks i 0)
          unfolding checked_at
          rowing_child =
              let x = found (l - 1) (read_node fanout (l - 1) m low (get_or ks i 0)) c e in
              node_part_lem (l - 1) m low (get_or ks i 0) x.node x.read

          module _ (b : Bool) (f : b ≡ inside_of (polygon_in (part m k)) (polygon_in (part m (get_or ks i 0)))) where
            rowing_found : checked_at l m lo k
                ≡ cond (pairs_pass (parts_apart m) ks) (cond b (row_checked (l - 1) m (polygon_in (part m k)) (sum + c) (get_or ks i 0 + 1) k (drop (i + 1) ks)) None) None
            rowing_found =
                rowing_next
                ∙ ap (λ r. cond (pairs_pass (parts_apart m) ks) r None)
                (found_row (l - 1) m (polygon_in (part m k)) sum low k (get_or ks i 0) (drop (i + 1) ks) a g c e b f)

            pub rowing_outside : b ≡ false → None ≡ checked_at l m lo k
            rowing_outside q = sym (rowing_found ∙ rw q (none_or_none (pairs_pass (parts_apart m) ks)))

            pub rowing_on : b ≡ true → Rowing l m lo k ks (get_or ks i 0 + 1) (sum + c) (i + 1)
            rowing_on q =
                let n = rowing_few in
                record {
                  i_le = omega arith;
                  few_ks = v.few_ks;
                  low_le = omega arith;
                  few = omega arith;
                  right = v.right;
                  node = v.node;
                  parts = λ j p. one_more_lem j p;
                  whole = rowing_found ∙ rw q;
                }
              where
                one_more_lem : (j : ℕ) → j < i + 1 → PolygonPart m (get_or ks j 0)
                one_more_lem j p = go (dec_lt j i)
                  where
                    go : Dec (j < i) → PolygonPart m (get_or ks j 0)
                    go (yes r) = v.parts j r
                    go (no r) = let t : i ≡ j = omega arith in rw (← t) rowing_child
