-- Laws of the reading: rows of branches, what a reading looks at, the parts it reaches, the fresh index and sound memories.
use Prim.Native.Nat.{ℕ, zero, suc, ◌+◌, ◌*◌, ◌<◌, ◌≤◌}
use mathlib.Core.Path.{◌≡◌, refl, sym, ap, ◌∙◌, subst}
use mathlib.Core.Bool.{Bool, true, false, ◌&&◌, ◌||◌, cond}
use mathlib.Core.List.{List, [], ◌∷◌, ◌++◌, flat_map}
use mathlib.Core.Logic.{◌⊎◌, inl, inr}
use mathlib.Core.Option.{Option, none, some, bind, some-injective}
use native.Mathlib.Omega.{arith}
use native.Mathlib.Nat.{le_refl}
use native.Mathlib.Numerals.{add-one}
use native.Mathlib.Decide.{dec_lt}
use borrow.Author.Tests.{leb-true, ltb-true, eqb-true, le-leb, lt-ltb, eq-eqb}
use lib.Dec.{leb, ltb, eqb}
use lib.ListN.{length, take, drop, get_or, set, replicate, length-append, length-take, length-drop, length-replicate}
use Rattle.polygons.proofs.Booleans.{both, split_and, all4}
use Rattle.geometry.specs.declared.rect.Rect.{Rect}
use Rattle.tree.specs.Lists.{All, Pairs, total}
use Rattle.tree.specs.Nodes.{Item, nodes}
use Rattle.tree.specs.Tree.{Tree, SoundTree, top}
use Rattle.tree.proofs.Lists.{all_append, all_map, all_both, pairs_append}
use Rattle.tree.proofs.Any.{bind_some}
use Rattle.tree.proofs.Walk.{leaf_nodes}
use Rattle.plane.specs.Plane.{plane_space, plane_root}
use Rattle.memory.specs.Layout.{parts_of, is_index_length, part, in_use, bits_set, height_in, root_in, all_zero, rect_count, item_count, polygon_in, entries_in, children_in, counts_fit, rest_zero, node_fits, others_zero}
use Rattle.memory.specs.SoundTest.{sound_test}
use Rattle.memory.specs.Reading.{read_row, read_node, tree_of, rest_fits, read_tree, read_height, reading}
use Rattle.memory.specs.Reached.{reached}
use Rattle.memory.proofs.SoundTested.{sound_tested}

-- a choice that gave something was of the first
chosen : {A : Type 0} (b : Bool) (x : Option A) (a : A) → cond b x none ≡ some a → (b ≡ true) × (x ≡ some a)
chosen true x a e = (refl, e)
chosen false x a e = let z : ◌≡◌ {A = ℕ} 0 1 = cc in absurd (omega arith)

-- a row of branches taken apart: its first branch at part k and the others
pub record RowParts {B : Type 0} (read : ℕ → ℕ → Option B) (lo hi k : ℕ) (ks : List ℕ) (bs : List B) : Type 0 where
  pub from : lo ≤ k
  pub below : k < hi
  pub first : B
  pub others : List B
  pub head : read lo k ≡ some first
  pub tail : read_row read (k + 1) hi ks ≡ some others
  pub whole : first ∷ others ≡ bs

module _ {B : Type 0} (read : ℕ → ℕ → Option B) where
  -- a row without part numbers has no branches
  pub row_none : (lo hi : ℕ) (bs : List B) → read_row read lo hi [] ≡ some bs → bs ≡ []
  unfolding read_row
  row_none lo hi bs e = cc

  -- a row that reads, taken apart
  pub row_parts : (lo hi k : ℕ) (ks : List ℕ) (bs : List B) → read_row read lo hi (k ∷ ks) ≡ some bs → RowParts read lo hi k ks bs
  unfolding read_row
  row_parts lo hi k ks bs e =
      let a = chosen (leb lo k && ltb k hi) _ bs e in
      let b = split_and (leb lo k) (ltb k hi) a.0 in
      let x = bind_some (read lo k) _ bs a.1 in
      let y = bind_some (read_row read (k + 1) hi ks) _ bs x.2 in
      record { from = leb-true _ _ b.0; below = ltb-true _ _ b.1; first = x.0; others = y.0; head = x.1; tail = y.1; whole = cc }

  -- a row made of its first branch and the others
  pub make_row : (lo hi k : ℕ) (ks : List ℕ) (b : B) (bs : List B) → lo ≤ k → k < hi → read lo k ≡ some b → read_row read (k + 1) hi ks ≡ some bs
      → read_row read lo hi (k ∷ ks) ≡ some (b ∷ bs)
  unfolding read_row bind
  make_row lo hi k ks b bs l h e g = rw (le-leb lo k l, lt-ltb k hi h, e, g)

  -- a row has as many branches as part numbers
  pub row_length : (lo hi : ℕ) (ks : List ℕ) (bs : List B) → read_row read lo hi ks ≡ some bs → length bs ≡ length ks
  row_length lo hi [] bs e = ap length (row_none lo hi bs e)
  row_length lo hi (k ∷ ks) bs e =
      let r = row_parts lo hi k ks bs e in
      ap length (sym r.whole) ∙ ap suc (row_length (k + 1) hi ks r.others r.tail)

-- two ways of reading that agree from lo to below hi read the same row there
pub row_same : {B : Type 0} (f g : ℕ → ℕ → Option B) (lo hi : ℕ) (ks : List ℕ) → ((l j : ℕ) → lo ≤ l → l ≤ j → j < hi → f l j ≡ g l j)
    → read_row f lo hi ks ≡ read_row g lo hi ks
unfolding read_row
row_same f g lo hi [] h = refl
row_same {B} f g lo hi (k ∷ ks) h = go (leb lo k && ltb k hi) refl (row_same f g (k + 1) hi ks)
  where
    go : (t : Bool) → leb lo k && ltb k hi ≡ t
        → (((l j : ℕ) → k + 1 ≤ l → l ≤ j → j < hi → f l j ≡ g l j) → read_row f (k + 1) hi ks ≡ read_row g (k + 1) hi ks)
        → cond t (bind (f lo k) λ b. bind (read_row f (k + 1) hi ks) λ bs. some (b ∷ bs)) none
        ≡ cond t (bind (g lo k) λ b. bind (read_row g (k + 1) hi ks) λ bs. some (b ∷ bs)) none
    go false e ih = refl
    go true e ih =
        let b = split_and (leb lo k) (ltb k hi) e in
        let x : lo ≤ k = leb-true _ _ b.0 in
        let y : k < hi = ltb-true _ _ b.1 in
        rw (h lo k (le_refl lo) x y, ih (λ l j u v w. h l j (omega arith) v w))

module _ {B : Type 0} (read : ℕ → ℕ → Option B) (lowers : (l l' k : ℕ) (b : B) → l' ≤ l → read l k ≡ some b → read l' k ≡ some b) where
  -- where a branch reads the same from a lower end, so does a row
  pub row_lower : (lo lo' hi : ℕ) (ks : List ℕ) (bs : List B) → lo' ≤ lo → read_row read lo hi ks ≡ some bs → read_row read lo' hi ks ≡ some bs
  unfolding read_row
  row_lower lo lo' hi [] bs h e = e
  row_lower lo lo' hi (k ∷ ks) bs h e =
      let r = row_parts read lo hi k ks bs e in
      make_row read lo' hi k ks r.first r.others (omega arith) r.below (lowers lo lo' k r.first h r.head) r.tail ∙ ap some r.whole

-- the lower end of branch i of a row
unfoldable pub low_at : ℕ → List ℕ → ℕ → ℕ
low_at lo [] i = lo
low_at lo (k ∷ ks) zero = lo
low_at lo (k ∷ ks) (suc i) = low_at (k + 1) ks i

module _ {B : Type 0} (read : ℕ → ℕ → Option B) where
  -- a branch's lower end is not below the row's
  pub low_from : (lo hi : ℕ) (ks : List ℕ) (i : ℕ) (bs : List B) → read_row read lo hi ks ≡ some bs → lo ≤ low_at lo ks i
  unfolding low_at
  low_from lo hi [] i bs e = le_refl lo
  low_from lo hi (k ∷ ks) zero bs e = le_refl lo
  low_from lo hi (k ∷ ks) (suc i) bs e =
      let r = row_parts read lo hi k ks bs e in
      let ih = low_from (k + 1) hi ks i r.others r.tail in
      omega arith

  -- a branch's part is not below its lower end
  pub low_to : (lo hi : ℕ) (ks : List ℕ) (i : ℕ) (bs : List B) → read_row read lo hi ks ≡ some bs → i < length ks → low_at lo ks i ≤ get_or ks i 0
  unfolding low_at
  low_to lo hi [] i bs e h = absurd (omega arith)
  low_to lo hi (k ∷ ks) zero bs e h = (row_parts read lo hi k ks bs e).from
  low_to lo hi (k ∷ ks) (suc i) bs e h =
      let r = row_parts read lo hi k ks bs e in
      low_to (k + 1) hi ks i r.others r.tail (omega arith)

  -- a branch's part is below the row's upper end
  pub part_below : (lo hi : ℕ) (ks : List ℕ) (i : ℕ) (bs : List B) → read_row read lo hi ks ≡ some bs → i < length ks → get_or ks i 0 < hi
  part_below lo hi [] i bs e h = absurd (omega arith)
  part_below lo hi (k ∷ ks) zero bs e h = (row_parts read lo hi k ks bs e).below
  part_below lo hi (k ∷ ks) (suc i) bs e h =
      let r = row_parts read lo hi k ks bs e in
      part_below (k + 1) hi ks i r.others r.tail (omega arith)

  -- the i-th branch is what is read at the i-th part
  pub row_at_lem : (lo hi : ℕ) (ks : List ℕ) (i : ℕ) (bs : List B) (d : B) → read_row read lo hi ks ≡ some bs → i < length ks
      → read (low_at lo ks i) (get_or ks i 0) ≡ some (get_or bs i d)
  unfolding low_at
  row_at_lem lo hi [] i bs d e h = absurd (omega arith)
  row_at_lem lo hi (k ∷ ks) zero bs d e h =
      let r = row_parts read lo hi k ks bs e in
      r.head ∙ ap (λ l. some (get_or l 0 d)) r.whole
  row_at_lem lo hi (k ∷ ks) (suc i) bs d e h =
      let r = row_parts read lo hi k ks bs e in
      row_at_lem (k + 1) hi ks i r.others d r.tail (omega arith) ∙ ap (λ l. some (get_or l (suc i) d)) r.whole

-- g reads as f does from lo to below hi, except within branch i of a row
abbrev pub AgreeBeside : {B : Type 0} → (ℕ → ℕ → Option B) → (ℕ → ℕ → Option B) → ℕ → ℕ → List ℕ → ℕ → Type 0
AgreeBeside f g lo hi ks i = (l j : ℕ) → lo ≤ l → l ≤ j → j < hi → (j < low_at lo ks i) ⊎ (get_or ks i 0 < l) → g l j ≡ f l j

-- where g differs from f within branch i alone, the row reads as before with that branch changed
pub change_row : {B : Type 0} (f g : ℕ → ℕ → Option B) (lo hi : ℕ) (ks : List ℕ) (i : ℕ) (bs : List B) (b : B)
    → read_row f lo hi ks ≡ some bs → i < length ks → AgreeBeside f g lo hi ks i → g (low_at lo ks i) (get_or ks i 0) ≡ some b
    → read_row g lo hi ks ≡ some (set bs i b)
unfolding low_at
change_row f g lo hi [] i bs b e h d n = absurd (omega arith)
change_row f g lo hi (k ∷ ks) zero bs b e h d n =
    let r = row_parts f lo hi k ks bs e in
    let a = r.from in
    make_row g lo hi k ks b r.others r.from r.below n
    (row_same g f (k + 1) hi ks (λ l j x y z. d l j (omega arith) y z (inr (omega arith))) ∙ r.tail)
    ∙ ap (λ c. some (set c 0 b)) r.whole
change_row f g lo hi (k ∷ ks) (suc i) bs b e h d n =
    let r = row_parts f lo hi k ks bs e in
    let a = r.from in
    let low = low_from f (k + 1) hi ks i r.others r.tail in
    let here : g lo k ≡ some r.first = d lo k (le_refl lo) r.from r.below (inl (omega arith)) ∙ r.head in
    make_row g lo hi k ks r.first (set r.others i b) r.from r.below here
    (change_row f g (k + 1) hi ks i r.others b r.tail (omega arith) (λ l j x y z o. d l j (omega arith) y z o) n)
    ∙ ap (λ c. some (set c (suc i) b)) r.whole

remove_row' : {B : Type 0} (f g : ℕ → ℕ → Option B) (lo hi : ℕ) (ks : List ℕ) (i : ℕ) (bs : List B)
    → ((l l' k : ℕ) (b : B) → l' ≤ l → g l k ≡ some b → g l' k ≡ some b)
    → read_row f lo hi ks ≡ some bs → i < length ks → AgreeBeside f g lo hi ks i
    → read_row g lo hi (take i ks ++ drop (suc i) ks) ≡ some (take i bs ++ drop (suc i) bs)
unfolding low_at
remove_row' f g lo hi [] i bs w e h d = absurd (omega arith)
remove_row' f g lo hi (k ∷ ks) zero bs w e h d =
    let r = row_parts f lo hi k ks bs e in
    let a = r.from in
    let later : read_row g (k + 1) hi ks ≡ some r.others =
    row_same g f (k + 1) hi ks (λ l j x y z. d l j (omega arith) y z (inr (omega arith))) ∙ r.tail in
    row_lower g w (k + 1) lo hi ks r.others (omega arith) later ∙ ap (λ c. some (drop 1 c)) r.whole
remove_row' f g lo hi (k ∷ ks) (suc i) bs w e h d =
    let r = row_parts f lo hi k ks bs e in
    let a = r.from in
    let low = low_from f (k + 1) hi ks i r.others r.tail in
    let here : g lo k ≡ some r.first = d lo k (le_refl lo) r.from r.below (inl (omega arith)) ∙ r.head in
    make_row g lo hi k (take i ks ++ drop (suc i) ks) r.first (take i r.others ++ drop (suc i) r.others) r.from r.below here
    (remove_row' f g (k + 1) hi ks i r.others w r.tail (omega arith) (λ l j x y z o. d l j (omega arith) y z o))
    ∙ ap (λ c. some (take (suc i) c ++ drop (suc (suc i)) c)) r.whole

-- where g differs from f within branch i alone, the row without the i-th part reads as before without the i-th branch
pub remove_row : {B : Type 0} (f g : ℕ → ℕ → Option B) (lo hi : ℕ) (ks : List ℕ) (i : ℕ) (bs : List B)
    → ((l l' k : ℕ) (b : B) → l' ≤ l → g l k ≡ some b → g l' k ≡ some b)
    → read_row f lo hi ks ≡ some bs → i < length ks → AgreeBeside f g lo hi ks i
    → read_row g lo hi (take i ks ++ drop (i + 1) ks) ≡ some (take i bs ++ drop (i + 1) bs)
remove_row f g lo hi ks i bs w e h d = rw add-one (remove_row' f g lo hi ks i bs w e h d)

-- each of the memory's parts has 128 numbers
pub part_length : (m : List ℕ) (k : ℕ) → k < parts_of m → length (part m k) ≡ 128
unfolding part
part_length m k h = simp (length-take, length-drop) (omega arith)

-- as many entries are read as were asked for
pub entries_length : (p : List ℕ) (n : ℕ) → length (entries_in p n) ≡ n
unfolding entries_in
entries_length p zero = refl
entries_length p (suc n) = let ih = entries_length p n in rw length-append (omega arith)

module _ (fanout : ℕ) where
  -- a node's part that fits: the test as facts
  pub record FitsAs (w : ℕ) (m : List ℕ) (k : ℕ) : Type 0 where
    pub below : k < parts_of m
    pub used : in_use m k ≡ true
    pub some_rects : 1 ≤ rect_count (part m k)
    pub few_rects : rect_count (part m k) ≤ 16
    pub some_items : 1 ≤ item_count (part m k)
    pub few_items : item_count (part m k) ≤ fanout
    pub rest : rest_zero w (part m k) ≡ true

  -- a node's part that fits: the test gives the facts
  pub fits_as : (w : ℕ) (m : List ℕ) (k : ℕ) → node_fits fanout w m k ≡ true → FitsAs w m k
  unfolding node_fits counts_fit
  fits_as w m k e =
      let f = all4 (ltb k (parts_of m)) (in_use m k) (counts_fit fanout (part m k)) (rest_zero w (part m k)) e in
      let g = all4 (leb 1 (rect_count (part m k))) (leb (rect_count (part m k)) 16) (leb 1 (item_count (part m k))) (leb (item_count (part m k)) fanout) f.2 in
      record {
        below = ltb-true _ _ f.0;
        used = f.1;
        some_rects = leb-true _ _ g.0;
        few_rects = leb-true _ _ g.1;
        some_items = leb-true _ _ g.2;
        few_items = leb-true _ _ g.3;
        rest = f.3;
      }

  -- a node's part that fits: the facts give the test
  pub of_fits : (w : ℕ) (m : List ℕ) (k : ℕ) → FitsAs w m k → node_fits fanout w m k ≡ true
  unfolding node_fits counts_fit
  of_fits w m k h =
      both _ _
      (both _ _
      (both _ _ (lt-ltb _ _ h.below) h.used)
      (both _ _ (both _ _ (both _ _ (le-leb _ _ h.some_rects) (le-leb _ _ h.few_rects)) (le-leb _ _ h.some_items)) (le-leb _ _ h.few_items)))
      h.rest

  -- a leaf that reads, taken apart
  pub record LeafParts (m : List ℕ) (lo k : ℕ) (b : Item (plane_space fanout) 1) : Type 0 where
    pub fits : node_fits fanout 3 m k ≡ true
    pub polygon : b.poly ≡ polygon_in (part m k)
    pub entries : b.child ≡ entries_in (part m k) (item_count (part m k))

  -- a routing node that reads, taken apart
  pub record NodeParts (n : ℕ) (m : List ℕ) (lo k : ℕ) (b : Item (plane_space fanout) (suc (suc n))) : Type 0 where
    pub fits : node_fits fanout 1 m k ≡ true
    pub polygon : b.poly ≡ polygon_in (part m k)
    pub row : read_row (read_node fanout n m) lo k (children_in (part m k)) ≡ some b.child

  -- a leaf that reads gives its parts
  pub leaf_parts : (m : List ℕ) (lo k : ℕ) (b : Item (plane_space fanout) 1) → read_node fanout zero m lo k ≡ some b → LeafParts m lo k b
  unfolding read_node
  leaf_parts m lo k b e =
      let a = chosen (node_fits fanout 3 m k) _ b e in
      let q = some-injective _ b a.1 in
      record { fits = a.0; polygon = sym (ap (λ c. c.poly) q); entries = sym (ap (λ c. c.child) q) }

  -- a routing node that reads gives its parts
  pub node_parts_lem : (n : ℕ) (m : List ℕ) (lo k : ℕ) (b : Item (plane_space fanout) (suc (suc n))) → read_node fanout (suc n) m lo k ≡ some b → NodeParts n m lo k b
  unfolding read_node
  node_parts_lem n m lo k b e =
      let a = chosen (node_fits fanout 1 m k) _ b e in
      let x = bind_some (read_row (read_node fanout n m) lo k (children_in (part m k))) _ b a.1 in
      let q = some-injective _ b x.2 in
      record { fits = a.0; polygon = sym (ap (λ c. c.poly) q); row = x.1 ∙ ap (λ c. some c.child) q }

  -- a leaf made of its parts
  pub make_leaf : (m : List ℕ) (lo k : ℕ) (b : Item (plane_space fanout) 1) → LeafParts m lo k b → read_node fanout zero m lo k ≡ some b
  unfolding read_node
  make_leaf m lo k b h = rw (h.fits, ← h.polygon, ← h.entries)

  -- a routing node made of its parts
  pub make_node : (n : ℕ) (m : List ℕ) (lo k : ℕ) (b : Item (plane_space fanout) (suc (suc n))) → NodeParts n m lo k b → read_node fanout (suc n) m lo k ≡ some b
  unfolding read_node bind
  make_node n m lo k b h = rw (h.fits, h.row, ← h.polygon)

  -- a reading from a lower end is the same
  pub node_lower : (n : ℕ) (m : List ℕ) (lo lo' k : ℕ) (b : Item (plane_space fanout) (suc n)) → lo' ≤ lo → read_node fanout n m lo k ≡ some b
      → read_node fanout n m lo' k ≡ some b
  unfolding read_node
  node_lower zero m lo lo' k b h e = e
  node_lower (suc n) m lo lo' k b h e =
      let p = node_parts_lem n m lo k b e in
      make_node n m lo' k b (record {
        fits = p.fits;
        polygon = p.polygon;
        row = row_lower (read_node fanout n m) (node_lower n m) lo lo' k (children_in (part m k)) b.child h p.row;
      })

  module _ (m m' : List ℕ) (parts : parts_of m' ≡ parts_of m) where
    fits_same : (w k : ℕ) → part m' k ≡ part m k → in_use m' k ≡ in_use m k → node_fits fanout w m' k ≡ node_fits fanout w m k
    unfolding node_fits
    fits_same w k p u = rw (p, u, parts)

    -- the frame: a reading from lo to k looks at the parts lo to k alone, at which of them are in use, and at how many parts there are
    pub frame : (n lo k : ℕ) → lo ≤ k → ((j : ℕ) → lo ≤ j → j ≤ k → part m' j ≡ part m j) → ((j : ℕ) → lo ≤ j → j ≤ k → in_use m' j ≡ in_use m j)
        → read_node fanout n m' lo k ≡ read_node fanout n m lo k
    unfolding read_node
    frame zero lo k l p u =
        let q = p k l (le_refl k) in
        rw (fits_same 3 k q (u k l (le_refl k)), q)
    frame (suc n) lo k l p u =
        let q = p k l (le_refl k) in
        let r : read_row (read_node fanout n m') lo k (children_in (part m k)) ≡ read_row (read_node fanout n m) lo k (children_in (part m k))
        = row_same (read_node fanout n m') (read_node fanout n m) lo k (children_in (part m k)) (λ a j x y z. frame n a j y (λ i v w. p i (omega arith) (omega arith)) (λ i v w. u i (omega arith) (omega arith))) in
        rw (fits_same 1 k q (u k l (le_refl k)), q, r)

    -- where the parts from lo to below k are as before, except those of branch i, so are the readings beside branch i
    pub agree_beside : (n lo k : ℕ) (ks : List ℕ) (i : ℕ)
        → ((j : ℕ) → lo ≤ j → j < k → (j < low_at lo ks i) ⊎ (get_or ks i 0 < j) → part m' j ≡ part m j)
        → ((j : ℕ) → lo ≤ j → j < k → (j < low_at lo ks i) ⊎ (get_or ks i 0 < j) → in_use m' j ≡ in_use m j)
        → AgreeBeside (read_node fanout n m) (read_node fanout n m') lo k ks i
    agree_beside n lo k ks i p u l j a b c (inl x) =
        frame n l j b (λ h y z. p h (omega arith) (omega arith) (inl (omega arith))) (λ h y z. u h (omega arith) (omega arith) (inl (omega arith)))
    agree_beside n lo k ks i p u l j a b c (inr x) =
        frame n l j b (λ h y z. p h (omega arith) (omega arith) (inr (omega arith))) (λ h y z. u h (omega arith) (omega arith) (inr (omega arith)))

    -- branch i of the routing node at part k, in the memory m before and m' after
    module _ (n lo k i : ℕ) (b : Item (plane_space fanout) (suc (suc n))) (before : read_node fanout (suc n) m lo k ≡ some b) (inside : i < length (children_in (part m k)))
        (parts_same : (j : ℕ) → lo ≤ j → j < k → (j < low_at lo (children_in (part m k)) i) ⊎ (get_or (children_in (part m k)) i 0 < j) → part m' j ≡ part m j)
        (use_same : (j : ℕ) → lo ≤ j → j < k → (j < low_at lo (children_in (part m k)) i) ⊎ (get_or (children_in (part m k)) i 0 < j) → in_use m' j ≡ in_use m j)
        (fits : node_fits fanout 1 m' k ≡ true) (r : List Rect) (polygon : r ≡ polygon_in (part m' k)) where
      -- where the branch changed and the node has the same children, the node reads as before with that branch changed; r is its polygon now
      pub change_node : (c : Item (plane_space fanout) (suc n)) → children_in (part m' k) ≡ children_in (part m k)
          → read_node fanout n m' (low_at lo (children_in (part m k)) i) (get_or (children_in (part m k)) i 0) ≡ some c
          → read_node fanout (suc n) m' lo k ≡ some (record { poly = r; child = set b.child i c })
      change_node c q e =
          let p = node_parts_lem n m lo k b before in
          let ks = children_in (part m k) in
          make_node n m' lo k (record { poly = r; child = set b.child i c }) (record {
            fits = fits;
            polygon = polygon;
            row = ap (λ l. read_row (read_node fanout n m') lo k l) q
                ∙ change_row (read_node fanout n m) (read_node fanout n m') lo k ks i b.child c p.row inside (agree_beside n lo k ks i parts_same use_same) e;
          })

      -- where the node has the same children without the i-th, it reads as before without that branch
      pub remove_node : children_in (part m' k) ≡ take i (children_in (part m k)) ++ drop (i + 1) (children_in (part m k))
          → read_node fanout (suc n) m' lo k ≡ some (record { poly = r; child = take i b.child ++ drop (i + 1) b.child })
      remove_node q =
          let p = node_parts_lem n m lo k b before in
          let ks = children_in (part m k) in
          make_node n m' lo k (record { poly = r; child = take i b.child ++ drop (i + 1) b.child }) (record {
            fits = fits;
            polygon = polygon;
            row = ap (λ l. read_row (read_node fanout n m') lo k l) q
                ∙ remove_row (read_node fanout n m) (read_node fanout n m') lo k ks i b.child (node_lower n m') p.row inside (agree_beside n lo k ks i parts_same use_same);
          })

-- Some parts of a memory, n of them, strictly rising from lo to below hi, each one of the memory's and in use.
pub record Reaches (m : List ℕ) (lo hi : ℕ) (ks : List ℕ) (n : ℕ) : Type 0 where
  pub rising : Pairs ◌<◌ ks
  pub range : All (λ j. (lo ≤ j) × (j < hi)) ks
  pub count : length ks ≡ n
  pub used : All (λ j. (j < parts_of m) × (in_use m j ≡ true)) ks

module _ (m : List ℕ) where
  reaches_none : (lo hi : ℕ) → Reaches m lo hi [] 0
  unfolding Pairs All
  reaches_none lo hi = record { rising = tt; range = tt; count = refl; used = tt }

  reaches_one : (k : ℕ) → k < parts_of m → in_use m k ≡ true → Reaches m k (k + 1) (k ∷ []) 1
  unfolding Pairs All
  reaches_one k h u = record { rising = (tt, tt); range = ((le_refl k, omega arith), tt); count = refl; used = ((h, u), tt) }

  -- parts below mid, then parts from mid on
  reaches_append : (lo mid hi : ℕ) (js ks : List ℕ) (a b : ℕ) → lo ≤ mid → mid ≤ hi → Reaches m lo mid js a → Reaches m mid hi ks b → Reaches m lo hi (js ++ ks) (a + b)
  reaches_append lo mid hi js ks a b l h x y = record {
    rising = pairs_append ◌<◌ js ks x.rising y.rising
        (all_map (λ j. (lo ≤ j) × (j < mid)) (λ j. All (λ i. j < i) ks) js
        (λ j p. all_map (λ i. (mid ≤ i) × (i < hi)) (λ i. j < i) ks (λ i q. omega arith) y.range) x.range);
    range = all_append (λ j. (lo ≤ j) × (j < hi)) js ks
        (all_map (λ j. (lo ≤ j) × (j < mid)) (λ j. (lo ≤ j) × (j < hi)) js (λ j p. (p.0, omega arith)) x.range)
        (all_map (λ j. (mid ≤ j) × (j < hi)) (λ j. (lo ≤ j) × (j < hi)) ks (λ j p. (omega arith, p.1)) y.range);
    count = simp length-append (omega (arith, x.count, y.count));
    used = all_append (λ j. (j < parts_of m) × (in_use m j ≡ true)) js ks x.used y.used;
  }

  -- strictly rising numbers from lo to below hi are at most hi - lo
  rising_few : (lo hi : ℕ) (ks : List ℕ) → lo ≤ hi → Pairs ◌<◌ ks → All (λ j. (lo ≤ j) × (j < hi)) ks → lo + length ks ≤ hi
  unfolding Pairs All
  rising_few lo hi [] h p r = omega arith
  rising_few lo hi (k ∷ ks) h p r =
      let a = r.0.0 in
      let b = r.0.1 in
      let ih = rising_few (suc k) hi ks (omega arith) p.1
      (all_map (λ j. (k < j) × (j < hi)) (λ j. (suc k ≤ j) × (j < hi)) ks (λ j q. q) (all_both (λ j. k < j) (λ j. j < hi) ks p.0 (all_map (λ j. (lo ≤ j) × (j < hi)) (λ j. j < hi) ks (λ j q. q.1) r.1))) in
      omega arith

  -- that many parts are at most hi - lo
  pub reaches_few : (lo hi : ℕ) (ks : List ℕ) (n : ℕ) → lo ≤ hi → Reaches m lo hi ks n → lo + n ≤ hi
  reaches_few lo hi ks n h x = rw (← x.count) (rising_few lo hi ks h x.rising x.range)

  -- that many parts are at most the memory's
  pub reaches_parts : (lo hi : ℕ) (ks : List ℕ) (n : ℕ) → Reaches m lo hi ks n → n ≤ parts_of m
  reaches_parts lo hi ks n x =
      let r = all_map (λ j. (j < parts_of m) × (in_use m j ≡ true)) (λ j. (0 ≤ j) × (j < parts_of m)) ks (λ j q. (omega arith, q.0)) x.used in
      let l : 0 + length ks ≤ parts_of m = rising_few 0 (parts_of m) ks (omega arith) x.rising r in
      rw (← x.count) (omega arith)

module _ (fanout : ℕ) (m : List ℕ) where
  reaches_row : (n : ℕ) → ((lo k : ℕ) (b : Item (plane_space fanout) (suc n)) → lo ≤ k → read_node fanout n m lo k ≡ some b
      → Reaches m lo (k + 1) (reached n m k) (nodes (plane_space fanout) (suc n) b))
      → (lo hi : ℕ) (ks : List ℕ) (bs : List (Item (plane_space fanout) (suc n))) → lo ≤ hi → read_row (read_node fanout n m) lo hi ks ≡ some bs
      → Reaches m lo hi (flat_map (reached n m) ks) (total (nodes (plane_space fanout) (suc n)) bs)
  unfolding flat_map total
  reaches_row n f lo hi [] bs h e = rw (row_none (read_node fanout n m) lo hi bs e) (reaches_none m lo hi)
  reaches_row n f lo hi (k ∷ ks) bs h e =
      let r = row_parts (read_node fanout n m) lo hi k ks bs e in
      let a = r.from in
      let b = r.below in
      rw (← r.whole)
      (reaches_append m lo (k + 1) hi (reached n m k) (flat_map (reached n m) ks) _ _ (omega arith) (omega arith) (f lo k r.first r.from r.head)
      (reaches_row n f (k + 1) hi ks r.others (omega arith) r.tail))

  -- no part is reached twice: the parts of the subtree at k rise strictly from lo to k, one for each node
  pub node_reaches : (n lo k : ℕ) (b : Item (plane_space fanout) (suc n)) → lo ≤ k → read_node fanout n m lo k ≡ some b
      → Reaches m lo (k + 1) (reached n m k) (nodes (plane_space fanout) (suc n) b)
  unfolding reached nodes
  node_reaches zero lo k b h e =
      let p = leaf_parts fanout m lo k b e in
      let u = fits_as fanout 3 m k p.fits in
      let z = leaf_nodes (plane_space fanout) b.child in
      let one : Reaches m lo (k + 1) (k ∷ []) (0 + 1) = reaches_append m lo k (k + 1) [] (k ∷ []) 0 1 h (omega arith) (reaches_none m lo k) (reaches_one m k u.below u.used) in
      subst (λ c. Reaches m lo (k + 1) (k ∷ []) c) (let q : 0 + 1 ≡ 1 + total (nodes (plane_space fanout) zero) b.child = omega arith in q) one
  node_reaches (suc n) lo k b h e =
      let p = node_parts_lem fanout n m lo k b e in
      let u = fits_as fanout 1 m k p.fits in
      let below = reaches_row n (node_reaches n) lo k (children_in (part m k)) b.child h p.row in
      let all = reaches_append m lo k (k + 1) (flat_map (reached n m) (children_in (part m k))) (k ∷ []) _ 1 h (omega arith) below (reaches_one m k u.below u.used) in
      subst (λ c. Reaches m lo (k + 1) (flat_map (reached n m) (children_in (part m k)) ++ (k ∷ [])) c)
      (let q : total (nodes (plane_space fanout) (suc n)) b.child + 1 ≡ 1 + total (nodes (plane_space fanout) (suc n)) b.child = omega arith in q) all

  -- a subtree from lo to k has at most that many nodes
  pub nodes_range : (n lo k : ℕ) (b : Item (plane_space fanout) (suc n)) → lo ≤ k → read_node fanout n m lo k ≡ some b → lo + nodes (plane_space fanout) (suc n) b ≤ k + 1
  nodes_range n lo k b h e = reaches_few m lo (k + 1) (reached n m k) _ (omega arith) (node_reaches n lo k b h e)

  -- a subtree has at most as many nodes as the memory has parts
  pub nodes_parts : (n lo k : ℕ) (b : Item (plane_space fanout) (suc n)) → lo ≤ k → read_node fanout n m lo k ≡ some b → nodes (plane_space fanout) (suc n) b ≤ parts_of m
  nodes_parts n lo k b h e = reaches_parts m lo (k + 1) (reached n m k) _ (node_reaches n lo k b h e)

  -- a node that reads takes a part of the memory
  pub node_below : (n lo k : ℕ) (b : Item (plane_space fanout) (suc n)) → read_node fanout n m lo k ≡ some b → k < parts_of m
  node_below zero lo k b e = (fits_as fanout 3 m k (leaf_parts fanout m lo k b e).fits).below
  node_below (suc n) lo k b e = (fits_as fanout 1 m k (node_parts_lem fanout n m lo k b e).fits).below

  -- a routing node has as many children as its part says
  pub children_length : (k : ℕ) → k < parts_of m → item_count (part m k) ≤ 62 → length (children_in (part m k)) ≡ item_count (part m k)
  children_length k h c =
      let l = part_length m k h in
      simp (length-take, length-drop) (omega arith)

  first_child : (k : ℕ) → k < parts_of m → 1 ≤ item_count (part m k) → 1 ≤ length (children_in (part m k))
  first_child k h c =
      let l = part_length m k h in
      simp (length-take, length-drop) (omega arith)

  -- each level down takes a lower part: a node whose leaves lie n steps below it stands at least n above the lower end
  pub level_range : (n lo k : ℕ) (b : Item (plane_space fanout) (suc n)) → lo ≤ k → read_node fanout n m lo k ≡ some b → lo + n ≤ k
  level_range zero lo k b h e = omega arith
  level_range (suc n) lo k b h e =
      let p = node_parts_lem fanout n m lo k b e in
      let f = fits_as fanout 1 m k p.fits in
      go (children_in (part m k)) (first_child k f.below f.some_items) p.row (level_range n)
    where
      go : (ks : List ℕ) → 1 ≤ length ks → read_row (read_node fanout n m) lo k ks ≡ some b.child
          → ((l j : ℕ) (c : Item (plane_space fanout) (suc n)) → l ≤ j → read_node fanout n m l j ≡ some c → l + n ≤ j) → lo + suc n ≤ k
      go [] c r ih = absurd (omega arith)
      go (j ∷ ks) c r ih =
          let q = row_parts (read_node fanout n m) lo k j ks b.child r in
          let d = q.below in
          let i = ih lo j q.first q.from q.head in
          omega arith

-- a part that is not in use is all zero
pub unused_zero : (m : List ℕ) (n k : ℕ) → others_zero m n ≡ true → k < n → in_use m k ≡ false → all_zero (part m k) ≡ true
unfolding others_zero
unused_zero m zero k e h u = absurd (omega arith)
unused_zero m (suc n) k e h u =
    let s = split_and (others_zero m n) (in_use m n || all_zero (part m n)) e in
    go (dec_lt k n) (λ l. unused_zero m n k s.0 l u) s.1
  where
    go : Dec (k < n) → (k < n → all_zero (part m k) ≡ true) → in_use m n || all_zero (part m n) ≡ true → all_zero (part m k) ≡ true
    go (yes l) f o = f l
    go (no l) f o =
        let q : n ≡ k = omega arith in
        rw u at (rw q at o)

-- where every part that is not in use is all zero, the test for it passes
pub zero_unused : (m : List ℕ) (n : ℕ) → ((k : ℕ) → k < n → in_use m k ≡ false → all_zero (part m k) ≡ true) → others_zero m n ≡ true
unfolding others_zero
zero_unused m zero f = refl
zero_unused m (suc n) f = both _ _ (zero_unused m n (λ k h u. f k (omega arith) u)) (go (in_use m n) (f n (omega arith)))
  where
    go : (b : Bool) → (b ≡ false → all_zero (part m n) ≡ true) → b || all_zero (part m n) ≡ true
    go true g = refl
    go false g = g refl

-- how many parts a memory has, by its length
pub parts_are : (m : List ℕ) (N : ℕ) → length m ≡ 64 + 128 * N → parts_of m ≡ N
parts_are m N e = omega arith

-- a memory of 1 to 256 parts has a right length
pub is_index_length_lem : (m : List ℕ) (N : ℕ) → length m ≡ 64 + 128 * N → 1 ≤ N → N ≤ 256 → is_index_length m ≡ true
unfolding is_index_length
is_index_length_lem m N e h k =
    let p = parts_are m N e in
    both _ _ (both _ _ (eq-eqb (length m) (64 + 128 * parts_of m) (omega arith)) (le-leb 1 (parts_of m) (omega arith))) (le-leb (parts_of m) 256 (omega arith))

-- what a right length says
pub record IndexLength (m : List ℕ) : Type 0 where
  pub length_is : length m ≡ 64 + 128 * parts_of m
  pub some_parts : 1 ≤ parts_of m
  pub few_parts : parts_of m ≤ 256

-- a memory of a right length has 1 to 256 parts
pub index_length : (m : List ℕ) → is_index_length m ≡ true → IndexLength m
unfolding is_index_length
index_length m e =
    let a = split_and _ (leb (parts_of m) 256) e in
    let b = split_and (eqb (length m) (64 + 128 * parts_of m)) (leb 1 (parts_of m)) a.0 in
    record { length_is = eqb-true _ _ b.0; some_parts = leb-true _ _ b.1; few_parts = leb-true _ _ a.1 }

-- zeros are all zero
pub zeros_zero : (n : ℕ) → all_zero (replicate n 0) ≡ true
unfolding all_zero
zeros_zero zero = refl
zeros_zero (suc n) = zeros_zero n

-- each number of an all-zero list is zero
pub zero_at : (l : List ℕ) (i : ℕ) → all_zero l ≡ true → get_or l i 0 ≡ 0
unfolding all_zero
zero_at [] i e = refl
zero_at (a ∷ l) zero e = eqb-true a 0 (split_and (eqb a 0) (all_zero l) e).0
zero_at (a ∷ l) (suc i) e = zero_at l i (split_and (eqb a 0) (all_zero l) e).1

module _ (fanout : ℕ) where
  -- a memory of all zeros is the empty index
  pub zeros_read : (m : List ℕ) → is_index_length m ≡ true → all_zero m ≡ true → reading fanout m ≡ some none
  unfolding reading
  zeros_read m r z = rw (r, zero_at m 8 z, z)

  -- the fresh index of N parts reads as the empty index
  pub fresh : (N : ℕ) → 1 ≤ N → N ≤ 256 → reading fanout (replicate (64 + 128 * N) 0) ≡ some none
  fresh N h k = zeros_read (replicate (64 + 128 * N) 0) (is_index_length_lem _ N (length-replicate _ 0) h k) (zeros_zero (64 + 128 * N))

  -- a memory that reads as the empty index has a right length and is all zeros
  pub read_empty : (m : List ℕ) → reading fanout m ≡ some none → (is_index_length m ≡ true) × (all_zero m ≡ true)
  unfolding reading
  read_empty m e =
      let a = chosen (is_index_length m) _ none e in
      (a.0, go (height_in m) a.1)
    where
      go : (h : ℕ) → read_height fanout h m ≡ some none → all_zero m ≡ true
      go zero e = (chosen (all_zero m) _ none e).0
      go (suc n) e =
          let x = bind_some (read_tree fanout n m) _ none e in
          let z : ◌≡◌ {A = ℕ} 0 1 = (let q = x.2 in cc) in
          absurd (omega arith)

  -- what a memory is that reads as a tree
  pub record ReadAs (m : List ℕ) (t : Tree (plane_space fanout)) : Type 0 where
    pub right : is_index_length m ≡ true
    pub height_is : height_in m ≡ suc t.level
    pub root_node : read_node fanout t.level m 0 (root_in m) ≡ some (top (plane_space fanout) t)
    pub bits : nodes (plane_space fanout) (suc t.level) (top (plane_space fanout) t) ≡ bits_set m
    pub head_zero : all_zero (drop 10 (take 64 m)) ≡ true
    pub others_zero : others_zero m (parts_of m) ≡ true
    pub tested : sound_test fanout t ≡ true

  read_tree_lem : (n : ℕ) (m : List ℕ) (t : Tree (plane_space fanout)) → is_index_length m ≡ true → height_in m ≡ suc n → read_tree fanout n m ≡ some t → ReadAs m t
  unfolding read_tree rest_fits
  read_tree_lem n m t r h e =
      let x = bind_some (read_node fanout n m 0 (root_in m)) _ t e in
      let b = x.0 in
      let a = chosen (rest_fits fanout n m b && sound_test fanout (tree_of fanout n b)) _ t x.2 in
      let s = split_and (rest_fits fanout n m b) (sound_test fanout (tree_of fanout n b)) a.0 in
      let f = split_and _ (others_zero m (parts_of m)) s.0 in
      let g = split_and (eqb (bits_set m) (nodes (plane_space fanout) (suc n) b)) (all_zero (drop 10 (take 64 m))) f.0 in
      subst (λ u. ReadAs m u) (some-injective _ t a.1) (record {
        right = r;
        height_is = h;
        root_node = x.1;
        bits = sym (eqb-true _ _ g.0);
        head_zero = g.1;
        others_zero = f.1;
        tested = s.1;
      })

  -- a memory that reads as a tree, taken apart
  pub read_as : (m : List ℕ) (t : Tree (plane_space fanout)) → reading fanout m ≡ some (some t) → ReadAs m t
  unfolding reading
  read_as m t e =
      let a = chosen (is_index_length m) _ (some t) e in
      go (height_in m) refl a.0 a.1
    where
      go : (h : ℕ) → height_in m ≡ h → is_index_length m ≡ true → read_height fanout h m ≡ some (some t) → ReadAs m t
      go zero q r e =
          let x = (chosen (all_zero m) _ (some t) e).1 in
          let z : ◌≡◌ {A = ℕ} 0 1 = cc in
          absurd (omega arith)
      go (suc n) q r e =
          let x = bind_some (read_tree fanout n m) _ (some t) e in
          let u : x.0 ≡ t = some-injective _ t (some-injective _ (some t) x.2) in
          read_tree_lem n m t r q (x.1 ∙ ap some u)

  -- a memory made so reads as the tree
  pub make_reading : (m : List ℕ) (t : Tree (plane_space fanout)) → ReadAs m t → reading fanout m ≡ some (some t)
  unfolding reading read_tree rest_fits bind
  make_reading m t h = rw (h.right, h.height_is, h.root_node, eq-eqb _ _ (sym h.bits), h.head_zero, h.others_zero, h.tested)

  -- what holds of a memory that reads as a tree
  pub record ReadSound (m : List ℕ) (t : Tree (plane_space fanout)) : Type 0 where
    pub sound : SoundTree (plane_space fanout) (plane_root fanout) t
    pub bits : nodes (plane_space fanout) (suc t.level) (top (plane_space fanout) t) ≡ bits_set m
    pub fits : nodes (plane_space fanout) (suc t.level) (top (plane_space fanout) t) ≤ parts_of m
    pub levels : suc t.level ≤ parts_of m
    pub right : is_index_length m ≡ true
    pub some_parts : 1 ≤ parts_of m
    pub few_parts : parts_of m ≤ 256

  -- a tree that was read is sound, has a node for each bit set, and at most as many nodes and levels as parts
  pub read_sound : (m : List ℕ) (t : Tree (plane_space fanout)) → reading fanout m ≡ some (some t) → ReadSound m t
  read_sound m t e =
      let r = read_as m t e in
      let l = index_length m r.right in
      record {
        sound = sound_tested fanout t r.tested;
        bits = r.bits;
        fits = nodes_parts fanout m t.level 0 (root_in m) (top (plane_space fanout) t) (omega arith) r.root_node;
        levels =
            let a = level_range fanout m t.level 0 (root_in m) (top (plane_space fanout) t) (omega arith) r.root_node in
            let b = node_below fanout m t.level 0 (root_in m) (top (plane_space fanout) t) r.root_node in
            omega arith;
        right = r.right;
        some_parts = l.some_parts;
        few_parts = l.few_parts;
      }
