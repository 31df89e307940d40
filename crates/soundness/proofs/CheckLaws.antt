-- The soundness test of a node with all below it: a row of branches, tested one after another, and a node of its parts.
use mathlib.Core.Path.{◌≡◌, refl, sym, ap, ◌∙◌}
use mathlib.Core.Bool.{Bool, true, false, ◌&&◌, cond, and-true, and-false, false≢true}
use mathlib.Core.List.{List, [], ◌∷◌}
use mathlib.Core.Option.{Option, none, some, bind}
use Prim.Native.Nat.{ℕ, suc, ◌+◌, ◌<◌, ◌≤◌}
use native.Mathlib.Omega.{arith}
use borrow.Author.Tests.{le-leb, lt-leb, lt-ltb, le-ltb}
use Rattle.std.specs.Prelude.{Some, None}
use Rattle.std.specs.Prelude as S
use lib.ListN.{length}
use Rattle.polygons.proofs.Booleans.{both}
use Rattle.geometry.specs.declared.rect.Rect.{Rect}
use Rattle.geometry.specs.Cells.{all_valid}
use Rattle.geometry.proofs.NumberLaws.{length_rects}
use Rattle.cover.specs.Tests.{all_pass, pairs_pass, inside_of, apart}
use Rattle.tree.specs.Lists.{total}
use Rattle.tree.specs.Nodes.{Item, nodes}
use Rattle.plane.specs.Fanout.{fanout, index_space}
use Rattle.memory.specs.Layout.{part, rect_count, polygon_in, children_in, node_fits, rect_numbers}
use Rattle.memory.specs.SoundTest.{polygon_fits, count_test, apart_test, item_test}
use Rattle.memory.specs.Reading.{read_row, read_node, branch_of}
use Rattle.memory.proofs.ReadingLaws.{row_none, row_parts, row_length, FitsAs, fits_as, children_length}
use Rattle.layout.proofs.ReadNodes.{node_polygon}
use Rattle.soundness.specs.Check.{node_test, checked, checked_at, parts_apart}

both_or_none : (a b : Bool) (x : S.Option ℕ) → cond (a && b) x None ≡ cond a (cond b x None) None
both_or_none true b x = refl
both_or_none false b x = refl

pub none_or_none : (a : Bool) → ◌≡◌ {A = S.Option ℕ} (cond a None None) None
none_or_none true = refl
none_or_none false = refl

-- a number that was counted
counted_or : ℕ → S.Option ℕ → ℕ
counted_or d None = d
counted_or d (Some c) = c

pub same_count : (c d : ℕ) → Some c ≡ Some d → c ≡ d
unfolding counted_or
same_count c d e = ap (counted_or 0) e

pub counted_none : (c : ℕ) → Some c ≡ None → ⊥
unfolding counted_or
counted_none c e = let h : c ≡ c + 1 = ap (counted_or (c + 1)) e in absurd (omega arith)

first_of_five : (a b c d e : Bool) → a && b && c && d && e ≡ a && (b && c && d && e)
first_of_five true b c d e = refl
first_of_five false b c d e = refl

-- a child passes where it is inside the polygon and sound in itself
pub item_node : (n : ℕ) (p : List Rect) (b : Item index_space (suc n)) → item_test fanout (suc n) p b ≡ inside_of p b.poly && node_test n b
unfolding item_test node_test
item_node n p b =
    first_of_five (inside_of p b.poly) (polygon_fits b.poly) (count_test fanout b.child) (all_pass (item_test fanout n b.poly) b.child) (pairs_pass (apart_test fanout n) b.child)

-- the nodes of a row of branches below the polygon p, a more than they have; none where it does not read or one of them does not pass
unfoldable pub row_sum : (n : ℕ) → List Rect → ℕ → Option (List (Item index_space (suc n))) → S.Option ℕ
row_sum n p a none = None
row_sum n p a (some bs) = cond (all_pass (item_test fanout (suc n) p) bs) (Some (a + total (nodes index_space (suc n)) bs)) None

-- the same of the row of parts ks of a memory
unfoldable pub row_checked : ℕ → List ℕ → List Rect → ℕ → ℕ → ℕ → List ℕ → S.Option ℕ
row_checked n m p a lo hi ks = row_sum n p a (read_row (read_node fanout n m) lo hi ks)

-- a subtree that was read and is sound in itself, with c nodes
pub record Found (n : ℕ) (o : Option (Item index_space (suc n))) (c : ℕ) : Type 0 where
  pub node : Item index_space (suc n)
  pub read : o ≡ some node
  pub sound : node_test n node ≡ true
  pub count : c ≡ nodes index_space (suc n) node

found_by : (n : ℕ) (o : Option (Item index_space (suc n))) (b : Item index_space (suc n)) (t : Bool) (c : ℕ)
    → node_test n b ≡ t → o ≡ some b → Some c ≡ cond t (Some (nodes index_space (suc n) b)) None → Found n o c
found_by n o b true c s e q = record { node = b; read = e; sound = s; count = same_count _ _ q }
found_by n o b false c s e q = absurd (counted_none _ q)

-- a number was counted
pub found : (n : ℕ) (o : Option (Item index_space (suc n))) (c : ℕ) → Some c ≡ checked n o → Found n o c
unfolding checked
found n none c q = absurd (counted_none c q)
found n (some b) c q = found_by n (some b) b (node_test n b) c refl refl q

-- where none was, the node is not sound
lost : (n : ℕ) (b : Item index_space (suc n)) → checked n (some b) ≡ None → node_test n b ≡ false
unfolding checked
lost n b e = go (node_test n b) e
  where
    go : (t : Bool) → cond t (Some (nodes index_space (suc n) b)) None ≡ None → t ≡ false
    go true q = absurd (counted_none _ q)
    go false q = refl

sum_cons : (n : ℕ) (p : List Rect) (a : ℕ) (b : Item index_space (suc n)) (o : Option (List (Item index_space (suc n))))
    → row_sum n p a (bind o λ bs. some (b ∷ bs)) ≡ cond (item_test fanout (suc n) p b) (row_sum n p (a + nodes index_space (suc n) b) o) None
unfolding row_sum bind all_pass total
sum_cons n p a b none = sym (none_or_none (item_test fanout (suc n) p b))
sum_cons n p a b (some bs) =
    let x = nodes index_space (suc n) b in
    let y = total (nodes index_space (suc n)) bs in
    let e : a + (x + y) ≡ a + x + y = omega arith in
    both_or_none (item_test fanout (suc n) p b) (all_pass (item_test fanout (suc n) p) bs) (Some (a + (x + y)))
    ∙ ap (λ k. cond (item_test fanout (suc n) p b) (cond (all_pass (item_test fanout (suc n) p) bs) (Some k) None) None) e

module _ (n : ℕ) (m : List ℕ) (p : List Rect) (a lo hi j : ℕ) (ks : List ℕ) where
  -- a branch that lies too low, or too high, is not read
  pub low_row : j < lo → row_checked n m p a lo hi (j ∷ ks) ≡ None
  unfolding row_checked row_sum read_row
  low_row h = rw (lt-leb lo j h)

  pub high_row : lo ≤ j → hi ≤ j → row_checked n m p a lo hi (j ∷ ks) ≡ None
  unfolding row_checked row_sum read_row
  high_row l h = rw (le-leb lo j l, le-ltb j hi h)

  module _ (l : lo ≤ j) (h : j < hi) where
    -- a branch that reads as none
    none_row : read_node fanout n m lo j ≡ none → row_checked n m p a lo hi (j ∷ ks) ≡ None
    unfolding row_checked row_sum read_row bind
    none_row e = rw (le-leb lo j l, lt-ltb j hi h, e)

    -- a branch that reads: it is tested, and the others after it
    some_row : (b : Item index_space (suc n)) → read_node fanout n m lo j ≡ some b
        → row_checked n m p a lo hi (j ∷ ks)
        ≡ cond (item_test fanout (suc n) p b) (row_checked n m p (a + nodes index_space (suc n) b) (j + 1) hi ks) None
    unfolding row_checked read_row bind
    some_row b e = rw (le-leb lo j l, lt-ltb j hi h, e) (sum_cons n p a b (read_row (read_node fanout n m) (j + 1) hi ks))

    -- a branch that is not sound in itself
    pub lost_row : checked_at n m lo j ≡ None → row_checked n m p a lo hi (j ∷ ks) ≡ None
    unfolding checked_at
    lost_row e = go (read_node fanout n m lo j) refl e
      where
        go : (o : Option (Item index_space (suc n))) → read_node fanout n m lo j ≡ o → checked n o ≡ None → row_checked n m p a lo hi (j ∷ ks) ≡ None
        go none r q = none_row r
        go (some b) r q =
            let f : item_test fanout (suc n) p b ≡ false = item_node n p b ∙ ap (λ t. inside_of p b.poly && t) (lost n b q) ∙ and-false (inside_of p b.poly) in
            some_row b r ∙ rw f

    module _ (c : ℕ) (q : Some c ≡ checked_at n m lo j) (x : Bool) (e : x ≡ inside_of p (polygon_in (part m j))) where
      pub found_row : row_checked n m p a lo hi (j ∷ ks) ≡ cond x (row_checked n m p (a + c) (j + 1) hi ks) None
      unfolding checked_at
      found_row =
          let f = found n (read_node fanout n m lo j) c q in
          let y : x ≡ inside_of p f.node.poly = e ∙ ap (inside_of p) (sym (node_polygon n m lo j f.node f.read)) in
          let t : item_test fanout (suc n) p f.node ≡ x = item_node n p f.node ∙ ap (λ t. inside_of p f.node.poly && t) f.sound ∙ and-true _ ∙ sym y in
          some_row f.node f.read ∙ rw (t, ← f.count)

module _ (n : ℕ) (m : List ℕ) where
  -- siblings that were read are apart exactly if the polygons at their parts are
  apart_row : (b : Item index_space (suc n)) (j lo hi : ℕ) (ks : List ℕ) (bs : List (Item index_space (suc n)))
      → b.poly ≡ polygon_in (part m j) → read_row (read_node fanout n m) lo hi ks ≡ some bs → all_pass (apart_test fanout (suc n) b) bs ≡ all_pass (parts_apart m j) ks
  unfolding all_pass apart_test parts_apart
  apart_row b j lo hi [] bs q e = rw (row_none (read_node fanout n m) lo hi bs e)
  apart_row b j lo hi (k ∷ ks) bs q e =
      let r = row_parts (read_node fanout n m) lo hi k ks bs e in
      let e : apart b.poly r.first.poly ≡ apart (polygon_in (part m j)) (polygon_in (part m k)) =
      ap (λ x. apart x r.first.poly) q ∙ ap (apart (polygon_in (part m j))) (node_polygon n m lo k r.first r.head) in
      rw (← r.whole)
      (ap (λ t. t && all_pass (apart_test fanout (suc n) b) r.others) e
      ∙ ap (λ t. apart (polygon_in (part m j)) (polygon_in (part m k)) && t) (apart_row b j (k + 1) hi ks r.others q r.tail))

  pairs_row : (lo hi : ℕ) (ks : List ℕ) (bs : List (Item index_space (suc n)))
      → read_row (read_node fanout n m) lo hi ks ≡ some bs → pairs_pass (apart_test fanout (suc n)) bs ≡ pairs_pass (parts_apart m) ks
  unfolding pairs_pass
  pairs_row lo hi [] bs e = rw (row_none (read_node fanout n m) lo hi bs e)
  pairs_row lo hi (k ∷ ks) bs e =
      let r = row_parts (read_node fanout n m) lo hi k ks bs e in
      rw (← r.whole, apart_row r.first k (k + 1) hi ks r.others (node_polygon n m lo k r.first r.head) r.tail, pairs_row (k + 1) hi ks r.others r.tail)

-- a polygon of a part that fits, with valid rectangles
pub fits_polygon : (w : ℕ) (m : List ℕ) (k : ℕ) → FitsAs fanout w m k → all_valid (polygon_in (part m k)) ≡ true → polygon_fits (polygon_in (part m k)) ≡ true
unfolding polygon_fits
fits_polygon w m k f v =
    let l = length_rects (rect_numbers (part m k)) (rect_count (part m k)) in
    rw l (both _ _ (both _ _ (le-leb 1 (rect_count (part m k)) f.some_rects) (le-leb (rect_count (part m k)) 16 f.few_rects)) v)

pub count_fits : {A : Type 0} (l : List A) → 1 ≤ length l → length l ≤ 8 → count_test fanout l ≡ true
unfolding count_test
count_fits l a b = both _ _ (le-leb _ _ a) (le-leb _ _ b)

pub later_first : (a b c d : Bool) (x : S.Option ℕ) → a ≡ true → b ≡ true → cond (a && b && c && d) x None ≡ cond d (cond c x None) None
later_first true true true d x e f = refl
later_first true true false true x e f = refl
later_first true true false false x e f = refl
later_first false b c d x e f = absurd (false≢true e)
later_first true false c d x e f = absurd (false≢true f)

of_row : (n : ℕ) (m : List ℕ) (lo k : ℕ) (o : Option (List (Item index_space (suc n)))) → FitsAs fanout 1 m k → all_valid (polygon_in (part m k)) ≡ true
    → read_row (read_node fanout n m) lo k (children_in (part m k)) ≡ o
    → checked (suc n) (bind o λ bs. some (branch_of fanout (part m k) bs))
    ≡ cond (pairs_pass (parts_apart m) (children_in (part m k))) (row_sum n (polygon_in (part m k)) 1 o) None
unfolding bind checked row_sum node_test nodes
of_row n m lo k none f v e = sym (none_or_none (pairs_pass (parts_apart m) (children_in (part m k))))
of_row n m lo k (some bs) f v e =
    let l = row_length (read_node fanout n m) lo k (children_in (part m k)) bs e in
    let d = f.few_items in
    let s = f.some_items in
    let c = children_length fanout m k f.below (omega arith) in
    rw (← (pairs_row n m lo k (children_in (part m k)) bs e))
    (later_first (polygon_fits (polygon_in (part m k))) (count_test fanout bs) (all_pass (item_test fanout (suc n) (polygon_in (part m k))) bs) (pairs_pass (apart_test fanout (suc n)) bs)
    (Some (1 + total (nodes index_space (suc n)) bs)) (fits_polygon 1 m k f v) (count_fits bs (omega arith) (omega arith)))

-- a routing node: its row of branches, and that they are apart
pub checked_node : (n : ℕ) (m : List ℕ) (lo k : ℕ) → node_fits fanout 1 m k ≡ true → all_valid (polygon_in (part m k)) ≡ true
    → checked_at (suc n) m lo k ≡ cond (pairs_pass (parts_apart m) (children_in (part m k))) (row_checked n m (polygon_in (part m k)) 1 lo k (children_in (part m k))) None
unfolding checked_at read_node row_checked
checked_node n m lo k f v = rw f (go (read_row (read_node fanout n m) lo k (children_in (part m k))) refl)
  where
    go : (o : Option (List (Item index_space (suc n)))) → read_row (read_node fanout n m) lo k (children_in (part m k)) ≡ o
        → checked (suc n) (bind o λ bs. some (branch_of fanout (part m k) bs))
        ≡ cond (pairs_pass (parts_apart m) (children_in (part m k))) (row_sum n (polygon_in (part m k)) 1 o) None
    go o e = of_row n m lo k o (fits_as fanout 1 m k f) v e
