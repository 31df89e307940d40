-- A node's part from which an item was taken out.
use Prim.Native.Nat.{ℕ, zero, suc, ◌+◌, ◌*◌, ◌-◌, ◌≤◌, ◌<◌}
use mathlib.Core.Path.{◌≡◌, refl, sym, ap, ◌∙◌}
use mathlib.Core.Bool.{true}
use mathlib.Core.List.{List, [], ◌∷◌, ◌++◌}
use mathlib.Core.Logic.{◌⊎◌, inl, inr}
use native.Mathlib.Omega.{arith}
use native.Mathlib.Decide.{dec_lt}
use lib.ListN.{length, get_or, set, take, drop, length-append, length-set, length-take, length-drop, get_or-append}
use lib.Seq.{get_or-set_same, get_or-set_other, get_or-take, get_or-drop, get_or_at, get_or-append-add, ext_get_or}
use Rattle.polygons.proofs.Booleans.{both, split_and}
use Rattle.geometry.specs.Numbers.{rect_at, rects_in}
use Rattle.plane.specs.Lines.{CellEntry}
use Rattle.memory.specs.Layout.{part, rect_count, item_count, polygon_in, entry_in, entries_in, children_in, all_zero, rest_zero}
use Rattle.memory.proofs.ReadingLaws.{entries_length, zero_at}
use Rattle.layout.specs.Nodes.{NodePart}
use Rattle.layout.specs.Gap.{without_at, MovedDown, ItemIn, ItemDropped, EntryDropped, BranchDropped}
use Rattle.layout.specs.declared.node.Node.{Node}
use Rattle.layout.specs.Loaded.{node_in, with_node, ItemOut}
use Rattle.layout.specs.PartSet.{set_part, EntryDroppedAt, BranchDroppedAt}
use Rattle.layout.proofs.GapLists.{zeros_of, length_without, without_before, without_behind}

-- rectangles depend on their own numbers alone
rects_same : (l m : List ℕ) (n : ℕ) → ((x : ℕ) → x < 4 * n → get_or l x 0 ≡ get_or m x 0) → rects_in l n ≡ rects_in m n
unfolding rects_in rect_at
rects_same l m zero f = refl
rects_same l m (suc n) f =
    rw (rects_same l m n (λ x h. f x (omega arith)), f (4 * n) (omega arith), f (4 * n + 1) (omega arith), f (4 * n + 2) (omega arith), f (4 * n + 3) (omega arith))

-- the x-th entry of a part
pub entry_at : (p : List ℕ) (n x : ℕ) (d : CellEntry) → x < n → get_or (entries_in p n) x d ≡ entry_in p x
unfolding entries_in
entry_at p zero x d h = absurd (omega arith)
entry_at p (suc n) x d h = go (dec_lt x n) (entry_at p n x d) (entries_length p n)
  where
    go : Dec (x < n) → (x < n → get_or (entries_in p n) x d ≡ entry_in p x) → length (entries_in p n) ≡ n → get_or (entries_in p n ++ (entry_in p n ∷ [])) x d ≡ entry_in p x
    go (yes k) ih l = get_or-append (entries_in p n) _ d x (omega arith) ∙ ih k
    go (no k) ih l = let e : x ≡ n = omega arith in rw e (get_or_at (entries_in p n) (entry_in p n) [] d n l)

entry_same : (p p' : List ℕ) (x y : ℕ) → get_or p' (66 + 3 * x) 0 ≡ get_or p (66 + 3 * y) 0 → get_or p' (66 + 3 * x + 1) 0 ≡ get_or p (66 + 3 * y + 1) 0
    → get_or p' (66 + 3 * x + 2) 0 ≡ get_or p (66 + 3 * y + 2) 0 → entry_in p' x ≡ entry_in p y
unfolding entry_in
entry_same p p' x y a b c = rw (a, b, c)

-- The item with the numbers from `from` to before from + w was taken out of p; the items end before `end`.
record Taken (w from end : ℕ) (p p' : List ℕ) : Type 0 where
  same_length : length p' ≡ length p
  count : item_count p' ≡ item_count p - 1
  outside : (x : ℕ) → (x ≡ 1 → ⊥) → (x < from) ⊎ (end ≤ x) → get_or p' x 0 ≡ get_or p x 0
  inside : (x : ℕ) → from ≤ x → x < end → get_or p' x 0 ≡ get_or p (x + w) 0

taken : (w from end : ℕ) (p q : List ℕ) → 66 ≤ from → 2 ≤ length p → MovedDown w from end p q → Taken w from end p (set q 1 (item_count p - 1))
taken w from end p q f l v =
    let s = v.same_length in
    record {
      same_length = length-set q 1 _ ∙ v.same_length;
      count = get_or-set_same q 1 _ 0 (omega arith);
      outside = λ x n o. get_or-set_other q 1 x _ 0 n ∙ v.outside x o;
      inside = λ x a b. get_or-set_other q 1 x _ 0 (λ e. absurd (omega arith)) ∙ v.inside x a b;
    }

module _ (w from end end' : ℕ) (p p' : List ℕ) (v : Taken w from end p p') (n : NodePart p) (f : 66 ≤ from) (k : from ≤ end') (z : end' + w ≡ end) where
  rects_kept : rect_count p' ≡ rect_count p
  rects_kept = v.outside 0 (λ e. absurd (omega arith)) (inl (omega arith))

  polygon_kept : polygon_in p' ≡ polygon_in p
  polygon_kept =
      let r = n.few_rects in
      rw rects_kept
      (rects_same (drop 2 p') (drop 2 p) (rect_count p) (λ x h.
      get_or-drop 2 p' x 0 ∙ v.outside (2 + x) (λ e. absurd (omega arith)) (inl (omega arith)) ∙ sym (get_or-drop 2 p x 0)))

  -- the numbers behind the rectangles
  middle_kept : take (64 - 4 * rect_count p) (drop (2 + 4 * rect_count p) p') ≡ take (64 - 4 * rect_count p) (drop (2 + 4 * rect_count p) p)
  middle_kept =
      let s = v.same_length in
      ext_get_or 0 _ _ (simp (length-take, length-drop) (omega arith))
      (λ x h.
      let y : x < 64 - 4 * rect_count p = (let q = length-take (64 - 4 * rect_count p) (drop (2 + 4 * rect_count p) p') in omega arith) in
      get_or-take _ (drop (2 + 4 * rect_count p) p') x 0 y ∙ get_or-drop (2 + 4 * rect_count p) p' x 0
      ∙ v.outside (2 + 4 * rect_count p + x) (λ e. absurd (omega arith)) (inl (omega arith))
      ∙ sym (get_or-take _ (drop (2 + 4 * rect_count p) p) x 0 y ∙ get_or-drop (2 + 4 * rect_count p) p x 0))

  -- a number behind the items
  behind : all_zero (drop end p) ≡ true → (x : ℕ) → end ≤ x → get_or p x 0 ≡ 0
  behind e x h =
      let q : end + (x - end) ≡ x = omega arith in
      ap (λ (j : ℕ). get_or p j 0) (sym q) ∙ sym (get_or-drop end p (x - end) 0) ∙ zero_at (drop end p) (x - end) e

  end_zero : all_zero (drop end p) ≡ true → all_zero (drop end' p') ≡ true
  end_zero e = zeros_of (drop end' p') (λ x h. get_or-drop end' p' x 0 ∙ go x (dec_lt (end' + x) end))
    where
      go : (x : ℕ) → Dec (end' + x < end) → get_or p' (end' + x) 0 ≡ 0
      go x (yes a) = v.inside (end' + x) (omega arith) a ∙ behind e (end' + x + w) (omega arith)
      go x (no a) = v.outside (end' + x) (λ q. absurd (omega arith)) (inr (omega arith)) ∙ behind e (end' + x) (omega arith)

module _ (i : ℕ) (p q : List ℕ) (h : ItemIn i p) where
  long : 2 ≤ length p
  long = let l = h.node.length_is in omega arith

  -- the i-th entry taken out of a leaf's part
  module _ (v : MovedDown 3 (66 + 3 * i) (66 + 3 * item_count p) p q) where
    leaf_taken : Taken 3 (66 + 3 * i) (66 + 3 * item_count p) p (set q 1 (item_count p - 1))
    leaf_taken = taken 3 (66 + 3 * i) (66 + 3 * item_count p) p q (omega arith) long v

    leaf_item : ItemDropped 3 p (set q 1 (item_count p - 1))
    unfolding rest_zero
    leaf_item =
        let t = leaf_taken in
        let s = h.inside in
        let c = t.count in
        let e' = 66 + 3 * (item_count p - 1) in
        let a : 66 + 3 * i ≤ e' = omega arith in
        let b : e' + 3 ≡ 66 + 3 * item_count p = omega arith in
        let f : 66 ≤ 66 + 3 * i = omega arith in
        let g = rects_kept 3 _ _ e' p _ t h.node f a b in
        record {
          same_length = t.same_length;
          rects = g;
          polygon = polygon_kept 3 _ _ e' p _ t h.node f a b;
          count = c;
          rest = λ r.
              let x = split_and (all_zero (take (64 - 4 * rect_count p) (drop (2 + 4 * rect_count p) p))) (all_zero (drop (66 + 3 * item_count p) p)) r in
              rw (g, c) (both _ _ (ap all_zero (middle_kept 3 _ _ e' p _ t h.node f a b) ∙ x.0) (end_zero 3 _ _ e' p _ t h.node f a b x.1));
        }

    leaf_entry : (x : ℕ) → x < item_count p - 1 → Dec (x < i) → entry_in (set q 1 (item_count p - 1)) x ≡ get_or (without_at i (entries_in p (item_count p))) x (entry_in p 0)
    leaf_entry x y (yes a) =
        let t = leaf_taken in
        let k : i < length (entries_in p (item_count p)) = let l = entries_length p (item_count p) in let s = h.inside in omega arith in
        entry_same p _ x x
        (t.outside (66 + 3 * x) (λ e. absurd (omega arith)) (inl (omega arith)))
        (t.outside (66 + 3 * x + 1) (λ e. absurd (omega arith)) (inl (omega arith)))
        (t.outside (66 + 3 * x + 2) (λ e. absurd (omega arith)) (inl (omega arith)))
        ∙ sym (without_before i (entries_in p (item_count p)) k x (entry_in p 0) a ∙ entry_at p (item_count p) x (entry_in p 0) (omega arith))
    leaf_entry x y (no a) =
        let t = leaf_taken in
        let k : i < length (entries_in p (item_count p)) = let l = entries_length p (item_count p) in let s = h.inside in omega arith in
        let e0 : 66 + 3 * x + 3 ≡ 66 + 3 * (x + 1) = omega arith in
        let e1 : 66 + 3 * x + 1 + 3 ≡ 66 + 3 * (x + 1) + 1 = omega arith in
        let e2 : 66 + 3 * x + 2 + 3 ≡ 66 + 3 * (x + 1) + 2 = omega arith in
        entry_same p _ x (x + 1)
        (t.inside (66 + 3 * x) (omega arith) (omega arith) ∙ ap (λ (j : ℕ). get_or p j 0) e0)
        (t.inside (66 + 3 * x + 1) (omega arith) (omega arith) ∙ ap (λ (j : ℕ). get_or p j 0) e1)
        (t.inside (66 + 3 * x + 2) (omega arith) (omega arith) ∙ ap (λ (j : ℕ). get_or p j 0) e2)
        ∙ sym (without_behind i (entries_in p (item_count p)) k x (entry_in p 0) (omega arith) ∙ entry_at p (item_count p) (x + 1) (entry_in p 0) (omega arith))

    leaf_entries_lem : entries_in (set q 1 (item_count p - 1)) (item_count p - 1) ≡ without_at i (entries_in p (item_count p))
    leaf_entries_lem =
        let l = entries_length p (item_count p) in
        let l' = entries_length (set q 1 (item_count p - 1)) (item_count p - 1) in
        let k : i < length (entries_in p (item_count p)) = let s = h.inside in omega arith in
        ext_get_or (entry_in p 0) _ _ (l' ∙ sym (length_without i (entries_in p (item_count p)) k ∙ ap (λ (j : ℕ). j - 1) l))
        (λ x y. entry_at _ (item_count p - 1) x (entry_in p 0) (omega arith) ∙ leaf_entry x (omega arith) (dec_lt x i))

    pub leaf_dropped : EntryDropped i p (set q 1 (item_count p - 1))
    leaf_dropped = record { item = leaf_item; entries = rw leaf_taken.count leaf_entries_lem }

  -- the i-th branch taken out of a routing node's part
  module _ (v : MovedDown 1 (66 + i) (66 + item_count p) p q) where
    node_taken : Taken 1 (66 + i) (66 + item_count p) p (set q 1 (item_count p - 1))
    node_taken = taken 1 (66 + i) (66 + item_count p) p q (omega arith) long v

    node_item : ItemDropped 1 p (set q 1 (item_count p - 1))
    unfolding rest_zero
    node_item =
        let t = node_taken in
        let s = h.inside in
        let c = t.count in
        let e' = 66 + (item_count p - 1) in
        let a : 66 + i ≤ e' = omega arith in
        let b : e' + 1 ≡ 66 + item_count p = omega arith in
        let f : 66 ≤ 66 + i = omega arith in
        let g = rects_kept 1 _ _ e' p _ t h.node f a b in
        let one : (j : ℕ) → 66 + 1 * j ≡ 66 + j = λ j. omega arith in
        record {
          same_length = t.same_length;
          rects = g;
          polygon = polygon_kept 1 _ _ e' p _ t h.node f a b;
          count = c;
          rest = λ r.
              let x = split_and (all_zero (take (64 - 4 * rect_count p) (drop (2 + 4 * rect_count p) p))) (all_zero (drop (66 + 1 * item_count p) p)) r in
              rw (g, c, one (item_count p - 1))
              (both _ _ (ap all_zero (middle_kept 1 _ _ e' p _ t h.node f a b) ∙ x.0) (end_zero 1 _ _ e' p _ t h.node f a b (rw (one (item_count p)) at x.1)));
        }

    children_of : (p' : List ℕ) (n x : ℕ) → x < n → get_or (take n (drop 66 p')) x 0 ≡ get_or p' (66 + x) 0
    children_of p' n x k = get_or-take n (drop 66 p') x 0 k ∙ get_or-drop 66 p' x 0

    node_child_lem : (x : ℕ) → x < item_count p - 1 → i < length (children_in p) → Dec (x < i) → get_or (set q 1 (item_count p - 1)) (66 + x) 0 ≡ get_or (without_at i (children_in p)) x 0
    node_child_lem x y k (yes a) =
        let t = node_taken in
        t.outside (66 + x) (λ e. absurd (omega arith)) (inl (omega arith))
        ∙ sym (without_before i (children_in p) k x 0 a ∙ children_of p (item_count p) x (omega arith))
    node_child_lem x y k (no a) =
        let t = node_taken in
        let e : 66 + x + 1 ≡ 66 + (x + 1) = omega arith in
        t.inside (66 + x) (omega arith) (omega arith) ∙ ap (λ (j : ℕ). get_or p j 0) e
        ∙ sym (without_behind i (children_in p) k x 0 (omega arith) ∙ children_of p (item_count p) (x + 1) (omega arith))

    node_children : take (item_count p - 1) (drop 66 (set q 1 (item_count p - 1))) ≡ without_at i (children_in p)
    node_children =
        let s = h.inside in
        let g = h.node.length_is in
        let f = h.node.few_items in
        let b = node_taken.same_length in
        let l : length (children_in p) ≡ item_count p = simp (length-take, length-drop) (omega arith) in
        let l' : length (take (item_count p - 1) (drop 66 (set q 1 (item_count p - 1)))) ≡ item_count p - 1 = simp (length-take, length-drop) (omega arith) in
        let k : i < length (children_in p) = omega arith in
        ext_get_or 0 _ _ (l' ∙ sym (length_without i (children_in p) k ∙ ap (λ (j : ℕ). j - 1) l))
        (λ x y. children_of (set q 1 (item_count p - 1)) (item_count p - 1) x (omega arith) ∙ node_child_lem x (omega arith) k (dec_lt x i))

    pub node_dropped : BranchDropped i p (set q 1 (item_count p - 1))
    node_dropped = record { item = node_item; children = rw node_taken.count node_children }

-- A node's items moved down by value, and stored to its part.
module _ (w from end : ℕ) (p l : List ℕ) (long : length p ≡ 128) (fits : end + w ≤ 27) (v : MovedDown w from end (take 27 (drop 66 p)) l) where
  abbrev stored : List ℕ
  stored = take 66 p ++ (l ++ drop 93 p)

  items_length : length l ≡ 27
  items_length = v.same_length ∙ simp (length-take, length-drop) (omega arith)

  head_length : length (take 66 p) ≡ 66
  head_length = simp length-take (omega arith)

  before_items : (x : ℕ) → x < 66 → get_or stored x 0 ≡ get_or p x 0
  before_items x h = let a = head_length in get_or-append (take 66 p) _ 0 x (omega arith) ∙ get_or-take 66 p x 0 h

  among_items : (x : ℕ) → x < 27 → get_or stored (66 + x) 0 ≡ get_or l x 0
  among_items x h =
      let a = items_length in
      let e : 66 + x ≡ length (take 66 p) + x = ap (λ (j : ℕ). j + x) (sym head_length) in
      ap (λ (j : ℕ). get_or stored j 0) e ∙ get_or-append-add (take 66 p) (l ++ drop 93 p) x 0 ∙ get_or-append l _ 0 x (omega arith)

  behind_items : (x : ℕ) → get_or stored (93 + x) 0 ≡ get_or p (93 + x) 0
  behind_items x =
      let a = items_length in
      let b = head_length in
      let e : 93 + x ≡ length (take 66 p) + (length l + x) = omega arith in
      ap (λ (j : ℕ). get_or stored j 0) e ∙ get_or-append-add (take 66 p) (l ++ drop 93 p) (length l + x) 0 ∙ get_or-append-add l (drop 93 p) x 0 ∙ get_or-drop 93 p x 0

  item_of : (x : ℕ) → x < 27 → get_or (take 27 (drop 66 p)) x 0 ≡ get_or p (66 + x) 0
  item_of x h = get_or-take 27 (drop 66 p) x 0 h ∙ get_or-drop 66 p x 0

  moved_outside : (x : ℕ) → (x < 66 + from) ⊎ (66 + end ≤ x) → Dec (x < 66) → Dec (x < 93) → get_or stored x 0 ≡ get_or p x 0
  moved_outside x o (yes a) b = before_items x a
  moved_outside x o (no a) (yes b) =
      let e : 66 + (x - 66) ≡ x = omega arith in
      ap (λ (j : ℕ). get_or stored j 0) (sym e) ∙ among_items (x - 66) (omega arith) ∙ v.outside (x - 66) (side o) ∙ item_of (x - 66) (omega arith)
      ∙ ap (λ (j : ℕ). get_or p j 0) e
    where
      side : (x < 66 + from) ⊎ (66 + end ≤ x) → (x - 66 < from) ⊎ (end ≤ x - 66)
      side (inl c) = inl (omega arith)
      side (inr c) = inr (omega arith)
  moved_outside x o (no a) (no b) =
      let e : 93 + (x - 93) ≡ x = omega arith in
      ap (λ (j : ℕ). get_or stored j 0) (sym e) ∙ behind_items (x - 93) ∙ ap (λ (j : ℕ). get_or p j 0) e

  moved_stored : MovedDown w (66 + from) (66 + end) p stored
  moved_stored = record {
    same_length = let a = items_length in simp (length-append, length-take, length-drop) (omega arith);
    outside = λ x o. moved_outside x o (dec_lt x 66) (dec_lt x 93);
    inside = λ x a b.
        let e : 66 + (x - 66) ≡ x = omega arith in
        let f : 66 + (x - 66 + w) ≡ x + w = omega arith in
        ap (λ (j : ℕ). get_or stored j 0) (sym e) ∙ among_items (x - 66) (omega arith) ∙ v.inside (x - 66) (omega arith) (omega arith)
        ∙ item_of (x - 66 + w) (omega arith) ∙ ap (λ (j : ℕ). get_or p j 0) f;
  }

-- The node at part k without its i-th item, stored in its part.
module _ (m : List ℕ) (k i : ℕ) (n n' : Node) (h : ItemIn i (part m k)) (q : n ≡ node_in (part m k)) where
  abbrev p : List ℕ
  p = part m k

  out_of : (w : ℕ) → ItemOut w i n n' → (n'.count ≡ item_count p - 1) × MovedDown w (w * i) (w * item_count p) (take 27 (drop 66 p)) n'.items
  unfolding node_in
  out_of w o = let c : ItemOut w i (node_in p) n' = rw q at o in (c.count, c.items)

  pub entry_out : (m' : List ℕ) → ItemOut 3 i n n' → m' ≡ set_part m k (with_node p n') → EntryDroppedAt m k i m'
  unfolding with_node
  entry_out m' o e =
      let c = out_of 3 o in
      let f = h.node.few_items in
      let v = moved_stored 3 (3 * i) (3 * item_count p) p n'.items h.node.length_is (omega arith) c.1 in
      record { new = with_node p n'; entry = rw c.0 (leaf_dropped i p _ h v); memory = e }

  pub child_out : (m' : List ℕ) → ItemOut 1 i n n' → m' ≡ set_part m k (with_node p n') → BranchDroppedAt m k i m'
  unfolding with_node
  child_out m' o e =
      let c = out_of 1 o in
      let f = h.node.few_items in
      let one : (j : ℕ) → 66 + 1 * j ≡ 66 + j = λ j. omega arith in
      let v = moved_stored 1 (1 * i) (1 * item_count p) p n'.items h.node.length_is (omega arith) c.1 in
      record { new = with_node p n'; branch = rw c.0 (node_dropped i p _ h (rw (one i, one (item_count p)) at v)); memory = e }
