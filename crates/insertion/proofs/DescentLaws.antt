-- The descent, one level after another: the node that step 2 goes to is sound again, and the path is that of the definition.
use Prim.Native.Nat.{ℕ, zero, suc, ◌+◌, ◌≤◌, ◌<◌}
use mathlib.Core.Path.{◌≡◌, refl, sym, ap, ◌∙◌, subst}
use mathlib.Core.Bool.{true}
use mathlib.Core.List.{List, [], ◌∷◌, ◌++◌, flat_map}
use Rattle.std.specs.Prelude.{None}
use mathlib.Core.Option.{Option, none, some, bind}
use native.Mathlib.Nat.{add-zero}
use native.Mathlib.Omega.{arith}
use native.Mathlib.Decide.{dec_le, dec_lt}
use lib.ListN.{length, take, drop, get_or}
use lib.Seq.{get_or-append_seam, length-take-le}
use Rattle.std.proofs.Common.{Result, Ok, Err}
use Rattle.path.specs.declared.level.Level.{Level}
use Rattle.geometry.specs.declared.rect.Cell.{Cell}
use Rattle.geometry.specs.declared.rect.Rect.{Rect}
use Rattle.geometry.specs.declared.polygon.Polygon.{Polygon}
use Rattle.geometry.specs.Numbers.{rects_of}
use Rattle.tree.specs.Nodes.{Item, held}
use Rattle.tree.specs.Sound.{SoundItem, SoundItems, Count}
use Rattle.tree.specs.Removed.{removed_at}
use Rattle.tree.specs.Plan as P
use Rattle.tree.specs.Plan.{Way, descend}
use Rattle.tree.proofs.Lists.{all_map}
use Rattle.tree.proofs.Laws.{Laws, Steps, Chose}
use Rattle.tree.proofs.InsertAt.{Fresh, chose_at, down}
use Rattle.plane.specs.Lines.{CellEntry, Payload, some_payload, entry_of}
use Rattle.plane.specs.Fanout.{fanout, index_space}
use Rattle.plane.proofs.Rects.{plane_space_laws}
use Rattle.plane.proofs.Steps.{plane_steps}
use Rattle.memory.specs.Layout.{part, children_in}
use Rattle.memory.specs.Reading.{read_node}
use Rattle.memory.proofs.ReadingLaws.{leaf_parts, node_parts_lem, NodeParts, row_at_lem, row_length, low_at, node_lower}
use Rattle.layout.specs.Nodes.{count_at, child_at}
use Rattle.layout.proofs.NodeLaws.{child_in_lem}
use Rattle.walks.specs.Walks.{Walkable}
use Rattle.walks.proofs.WalkRows.{walkable}
use Rattle.walks.proofs.WalkLoop.{children_count}
use Rattle.geometry.specs.declared.cut.TooMany.{TooMany}
use Rattle.choose_branch.specs.Choose.{Routing, ChosenBranch, ChosenAt, NoneChosen}
use Rattle.path.specs.Path.{part_on, place_on, line_on, rect_count_on, polygon_on, SameLevel}
use Rattle.path.proofs.PutLaws.{LevelPut, PlacePut}
use Rattle.path.proofs.PutLaws.{level_below, level_kept, few_kept, same_level_trans}
use Rattle.tree_after.specs.Path.{row_at, way_at, PathNode, PathFrom}
use Rattle.tree_after.proofs.RowLaws.{row_of}
use Rattle.insertion.specs.Descent.{child_or, items_at, Descending, Kept, Linked, Reached, Stopped, Descended}
use Rattle.insertion.specs.Removed.{RemovedBelow}

abbrev laws : Laws index_space
laws = plane_space_laws fanout

abbrev steps : Steps index_space
steps = plane_steps fanout (omega arith)

-- the items of a node that reads
pub items_are : (n : ℕ) (m : List ℕ) (k : ℕ) (b : Item index_space (suc n)) → read_node fanout n m 0 k ≡ some b → items_at n m k ≡ b.child
unfolding items_at child_or
items_are n m k b e = rw e

-- a path as it was
kept_all : (n : ℕ) (path : List Level) → Kept n path path
kept_all n path = record {
  same_length = refl;
  part = refl;
  line = refl;
  count = refl;
  polygon = refl;
  above = λ j h. refl;
}

module _ (path : List Level) (m : List ℕ) (c : Cell) (d : Descending 0 path m c) where
  leaf_way : (t : Payload) → descend index_space 0 (polygon_on path 0) (items_at 0 m (part_on path 0)) (entry_of c t) ≡ some (way_at 0 path m (entry_of c t))
  unfolding P.descend way_at
  leaf_way t = ap (λ (l : List CellEntry). some (l ++ (entry_of c t ∷ []))) (items_are 0 m (part_on path 0) d.walk.node d.walk.reads ∙ (leaf_parts fanout m 0 (part_on path 0) d.walk.node d.walk.reads).entries)

  leaf : (x : ℕ) → Descended 0 path m c path (Ok x)
  leaf x = record {
    kept = kept_all 0 path;
    is = record {
      from = unfold PathFrom in record { walk = d.walk; room = d.room; few = d.few };
      linked = record {
        child = λ j h. absurd (omega arith);
        fine = λ j h. subst (λ (i : ℕ). index_space.Fine (polygon_on path i)) (let z : 0 ≡ j = omega arith in z) d.fine;
      };
      unsplit = λ j h. subst (λ (i : ℕ). line_on path i ≡ None) (let z : 0 ≡ j = omega arith in z) d.unsplit;
      ways = λ j h t. subst (λ (i : ℕ). descend index_space i (polygon_on path i) (items_at i m (part_on path i)) (entry_of c t) ≡ some (way_at i path m (entry_of c t)))
          (let z : 0 ≡ j = omega arith in z) (leaf_way t);
    };
  }

-- At the leaf the descent is done.
pub at_leaf : (level : ℕ) (path : List Level) (m : List ℕ) (c : Cell) (x : ℕ) → level ≡ 0 → Descending level path m c → Descended level path m c path (Ok x)
at_leaf level path m c x z d = rw z (leaf path m c (rw z at d) x)

-- No cell is removed there.
pub at_leaf_removed : (level : ℕ) (path : List Level) (m : List ℕ) (c : Cell) (above : ℕ) → level ≡ 0
    → RemovedBelow level path m c above above
at_leaf_removed level path m c above z = record {
  is = sym (ap (λ n. above + n)
      (none_removed level z (polygon_on path level) (items_at level m (part_on path level))) ∙ add-zero above);
}
  where
    none_removed : (n : ℕ) → n ≡ 0 → (p : List Rect) (l : List (Item index_space n))
        → removed_at index_space n p l c ≡ 0
    none_removed zero e p l = unfold removed_at in refl
    none_removed (suc n) e p l = absurd (omega arith)

module _ (n : ℕ) (path : List Level) (m : List ℕ) (c : Cell) (d : Descending (suc n) path m c) where
  abbrev k : ℕ
  k = part_on path (suc n)

  abbrev b : Item index_space (suc (suc n))
  b = d.walk.node

  items_b : items_at (suc n) m k ≡ b.child
  items_b = items_are (suc n) m k b d.walk.reads

  sound_b : SoundItems index_space (suc n) (polygon_on path (suc n)) b.child
  sound_b = subst (λ (l : List (Item index_space (suc n))). SoundItems index_space (suc n) (polygon_on path (suc n)) l) items_b d.items

  fresh_b : Fresh index_space (entry_of c some_payload) (flat_map (held index_space (suc n)) b.child)
  fresh_b = subst (λ (l : List (Item index_space (suc n))). Fresh index_space (entry_of c some_payload) (flat_map (held index_space (suc n)) l)) items_b d.fresh

  pub routing_b : Routing m k
  routing_b = record {
    right = d.walk.right;
    n = n;
    lo = 0;
    from = omega arith;
    node = b;
    reads = d.walk.reads;
    fine = all_map (SoundItem index_space (suc n) (polygon_on path (suc n))) (λ x. index_space.Fine x.poly) b.child (λ x o. unfold SoundItem in o.fine) sound_b.each;
  }

  -- step 2 refused
  pub stopped_b : (x : TooMany) → NoneChosen m k (polygon_on path (suc n)) c → Descended (suc n) path m c path (Err x)
  stopped_b x o = record {
    kept = kept_all (suc n) path;
    is = record { way = λ t. none_here t };
  }
    where
      none_here : (t : Payload) → descend index_space (suc n) (polygon_on path (suc n)) (items_at (suc n) m k) (entry_of c t) ≡ none
      none_here t = unfold P.descend bind in rw (items_b, o.each n 0 b d.walk.reads)

  module _ (place : ℕ) (q : Polygon) (a : ChosenAt m k (polygon_on path (suc n)) c place q) where
    abbrev x : ChosenBranch n b (polygon_on path (suc n)) c place (rects_of q)
    x = a.each n 0 b d.walk.reads

    abbrev parts : NodeParts fanout n m 0 k b
    parts = node_parts_lem fanout n m 0 k b d.walk.reads

    pub place_below : place < count_at m k
    place_below =
        let l = row_length (read_node fanout n m) 0 k (children_in (part m k)) b.child parts.row in
        let e = children_count (suc n) m 0 k d.walk in
        let h = x.below in
        omega arith

    -- the branch at that place is the one chosen
    old_is : get_or b.child place x.old ≡ x.old
    old_is =
        let h = x.below in
        let l : length (take place b.child) ≡ place = length-take-le place b.child (omega arith) in
        ap (λ (r : List (Item index_space (suc n))). get_or r place x.old) x.row
        ∙ ap (λ (j : ℕ). get_or (take place b.child ++ (x.old ∷ drop (place + 1) b.child)) j x.old) (sym l)
        ∙ get_or-append_seam (take place b.child) x.old (drop (place + 1) b.child) x.old

    abbrev low : ℕ
    low = low_at 0 (children_in (part m k)) place

    child_reads : read_node fanout n m 0 (child_at m k place) ≡ some x.old
    child_reads =
        let h = place_below in
        let e = children_count (suc n) m 0 k d.walk in
        node_lower fanout n m low 0 (child_at m k place) x.old (omega arith)
        (ap (read_node fanout n m low) (sym (child_in_lem (part m k) place place_below)) ∙ row_at_lem (read_node fanout n m) 0 k (children_in (part m k)) place b.child x.old parts.row (omega arith) ∙ ap some old_is)

    child_walk_lem : Walkable n m 0 (child_at m k place)
    child_walk_lem = walkable n m 0 (child_at m k place) x.old d.walk.right (omega arith) child_reads

    chose_b : Chose index_space (polygon_on path (suc n)) b.child c (record { before = take place b.child; old = x.old; grown = rects_of q; after = drop (place + 1) b.child })
    chose_b = chose_at index_space laws steps n (polygon_on path (suc n)) b.child (entry_of c some_payload) _ x.chosen d.fine sound_b d.has

    -- the node gone to, on the path with its level written
    pub child_descending : (path₁ path₂ : List Level) → length path₁ ≡ length path → LevelPut path₁ n (child_at m k place) (rects_of q) path₂ → Descending n path₂ m c
    child_descending path₁ path₂ l v =
        let y = down index_space laws steps n (polygon_on path (suc n)) b.child (entry_of c some_payload) _ chose_b sound_b fresh_b in
        let i : items_at n m (part_on path₂ n) ≡ x.old.child = ap (items_at n m) v.part ∙ items_are n m (child_at m k place) x.old child_reads in
        record {
          walk = subst (Walkable n m 0) (sym v.part) child_walk_lem;
          room = level_kept path path₂ n (v.same_length ∙ l) (level_below path (suc n) n d.room (omega arith));
          few = v.few;
          unsplit = v.line;
          grid = d.grid;
          fine = subst (λ (p : List Rect). index_space.Fine p) (sym v.polygon) chose_b.fine;
          has = subst (λ (p : List Rect). index_space.has p c ≡ true) (sym v.polygon) chose_b.cell;
          items = both (rects_of q) (polygon_on path₂ n) x.old.child (items_at n m (part_on path₂ n)) (sym v.polygon) (sym i) y.0;
          count = subst (λ (t : List (Item index_space n)). Count index_space t) (sym i) y.1;
          fresh = subst (λ (t : List (Item index_space n)). Fresh index_space (entry_of c some_payload) (flat_map (held index_space n) t)) (sym i) y.2;
        }
      where
        both : (p p' : List Rect) (t t' : List (Item index_space n)) → p ≡ p' → t ≡ t' → SoundItems index_space n p t → SoundItems index_space n p' t'
        both p p' t t' e f s = subst (λ (z : List Rect). SoundItems index_space n z t') e (subst (λ (z : List (Item index_space n)). SoundItems index_space n p z) f s)

    -- the cells removed above, here and below
    pub removed_here_lem : (path₁ path₂ : List Level) → LevelPut path₁ n (child_at m k place) (rects_of q) path₂
        → (above u w : ℕ) → u ≡ index_space.removed b.child c
        → w ≡ above + u + removed_at index_space n (polygon_on path₂ n) (items_at n m (part_on path₂ n)) c
        → w ≡ above + removed_at index_space (suc n) (polygon_on path (suc n)) (items_at (suc n) m k) c
    unfolding removed_at
    removed_here_lem path₁ path₂ v above u w e f =
        let i : items_at n m (part_on path₂ n) ≡ x.old.child = ap (items_at n m) v.part ∙ items_are n m (child_at m k place) x.old child_reads in
        let g : removed_at index_space n (polygon_on path₂ n) (items_at n m (part_on path₂ n)) c
        ≡ removed_at index_space n (rects_of q) x.old.child c =
        ap (λ (p : List Rect). removed_at index_space n p (items_at n m (part_on path₂ n)) c) v.polygon
        ∙ ap (λ (l : List (Item index_space n)). removed_at index_space n (rects_of q) l c) i in
        rw (items_b, x.chosen) (omega arith)

    -- back from the node gone to
    module _ (path₁ path₂ path₃ : List Level) (v₁ : PlacePut path (suc n) place path₁) (v : LevelPut path₁ n (child_at m k place) (rects_of q) path₂) (kept : Kept n path₂ path₃) where
      -- the levels above the child's
      tail : (j : ℕ) → n < j → SameLevel j path₁ path₃
      tail j h = same_level_trans j path₁ path₂ path₃ (v.others j (λ (e : j ≡ n). omega arith)) (kept.above j h)

      here : SameLevel (suc n) path₁ path₃
      here = tail (suc n) (omega arith)

      length_all : length path₃ ≡ length path
      length_all = kept.same_length ∙ v.same_length ∙ v₁.same_length

      part_same : part_on path₃ (suc n) ≡ k
      part_same = ap (λ l. l.part) here ∙ v₁.part

      place_same : place_on path₃ (suc n) ≡ place
      place_same = ap (λ l. l.place) here ∙ v₁.place

      line_same : line_on path₃ (suc n) ≡ line_on path (suc n)
      line_same = ap (λ l. l.line) here ∙ v₁.line

      count_same : rect_count_on path₃ (suc n) ≡ rect_count_on path (suc n)
      count_same = ap (λ l. l.polygon.count) here ∙ v₁.count

      polygon_same : polygon_on path₃ (suc n) ≡ polygon_on path (suc n)
      polygon_same = ap (λ l. rects_of l.polygon) here ∙ v₁.polygon

      all_kept : Kept (suc n) path path₃
      all_kept = record {
        same_length = length_all;
        part = part_same;
        line = line_same;
        count = count_same;
        polygon = polygon_same;
        above = λ j h. same_level_trans j path path₁ path₃ (v₁.others j (λ (e : j ≡ suc n). omega arith)) (tail j (omega arith));
      }

      grown_same : polygon_on path₃ n ≡ rects_of q
      grown_same = kept.polygon ∙ v.polygon

      items_same : items_at n m (part_on path₂ n) ≡ x.old.child
      items_same = ap (items_at n m) v.part ∙ items_are n m (child_at m k place) x.old child_reads

      below_way : (t : Payload) (w : Option (Way index_space n)) → descend index_space n (polygon_on path₂ n) (items_at n m (part_on path₂ n)) (entry_of c t) ≡ w
          → descend index_space n (rects_of q) x.old.child (entry_of c t) ≡ w
      below_way t w h =
          ap (λ (p : List Rect). descend index_space n p x.old.child (entry_of c t)) (sym v.polygon)
          ∙ ap (λ (l : List (Item index_space n)). descend index_space n (polygon_on path₂ n) l (entry_of c t)) (sym items_same) ∙ h

      below_reached : (t : Payload) → descend index_space n (polygon_on path₃ n) (items_at n m (part_on path₃ n)) (entry_of c t) ≡ some (way_at n path₃ m (entry_of c t))
          → descend index_space n (rects_of q) x.old.child (entry_of c t) ≡ some (way_at n path₃ m (entry_of c t))
      below_reached t h =
          ap (λ (p : List Rect). descend index_space n p x.old.child (entry_of c t)) (sym grown_same)
          ∙ ap (λ (l : List (Item index_space n)). descend index_space n (polygon_on path₃ n) l (entry_of c t)) (sym (ap (items_at n m) kept.part ∙ items_same)) ∙ h

      row_same : row_at n m (part_on path₃ (suc n)) ≡ b.child
      row_same = ap (row_at n m) part_same ∙ row_of n m k b d.walk.reads

      turned : (t : Payload) → descend index_space n (rects_of q) x.old.child (entry_of c t) ≡ some (way_at n path₃ m (entry_of c t))
          → descend index_space (suc n) (polygon_on path (suc n)) (items_at (suc n) m k) (entry_of c t) ≡ some (way_at (suc n) path₃ m (entry_of c t))
      unfolding P.descend bind way_at
      turned t h = rw (items_b, x.chosen, h, row_same, place_same, grown_same)

      link_same : part_on path₃ n ≡ child_at m (part_on path₃ (suc n)) (place_on path₃ (suc n))
      link_same = kept.part ∙ v.part ∙ ap (λ (i : ℕ). child_at m i place) (sym part_same) ∙ ap (λ (i : ℕ). child_at m (part_on path₃ (suc n)) i) (sym place_same)

      fine_same : index_space.Fine (polygon_on path₃ (suc n))
      fine_same = subst (λ (p : List Rect). index_space.Fine p) (sym polygon_same) d.fine

      linked : Linked n path₃ m → Linked (suc n) path₃ m
      linked z = record { child = λ j i. child j i (dec_lt j n); fine = λ j i. fine j i (dec_le j n) }
        where
          child : (j : ℕ) → j < suc n → Dec (j < n) → part_on path₃ j ≡ child_at m (part_on path₃ (suc j)) (place_on path₃ (suc j))
          child j i (yes h) = z.child j h
          child j i (no h) =
              let e : n ≡ j = omega arith in
              subst (λ (y : ℕ). part_on path₃ y ≡ child_at m (part_on path₃ (suc y)) (place_on path₃ (suc y))) e link_same

          fine : (j : ℕ) → j ≤ suc n → Dec (j ≤ n) → index_space.Fine (polygon_on path₃ j)
          fine j i (yes h) = z.fine j h
          fine j i (no h) =
              let e : suc n ≡ j = omega arith in
              subst (λ (y : ℕ). index_space.Fine (polygon_on path₃ y)) e fine_same

      reached : Reached n path₂ m c path₃ → Reached (suc n) path m c path₃
      reached z =
          let h = place_below in
          let pc : place_on path₃ (suc n) < count_at m (part_on path₃ (suc n)) = subst (λ (j : ℕ). place_on path₃ (suc n) < count_at m j) (sym part_same) (let e = place_same in omega arith) in
          record {
            from = from_here (record { walk = subst (Walkable (suc n) m 0) (sym part_same) d.walk; room = level_kept path path₃ (suc n) length_all d.room; few = few_kept path path₃ (suc n) count_same d.few }) pc z.from;
            linked = linked z.linked;
            unsplit = λ j i. go j i (dec_le j n);
            ways = λ j i t. up j i (dec_le j n) t;
          }
        where
          from_here : PathNode (suc n) path₃ m → place_on path₃ (suc n) < count_at m (part_on path₃ (suc n)) → PathFrom n path₃ m → PathFrom (suc n) path₃ m
          from_here a b c = unfold PathFrom in (a, b, c)

          up : (j : ℕ) → j ≤ suc n → Dec (j ≤ n) → (t : Payload) → descend index_space j (polygon_on path₃ j) (items_at j m (part_on path₃ j)) (entry_of c t) ≡ some (way_at j path₃ m (entry_of c t))
          up j i (yes h) t = z.ways j h t
          up j i (no h) t =
              let e : suc n ≡ j = omega arith in
              subst (λ (y : ℕ). descend index_space y (polygon_on path₃ y) (items_at y m (part_on path₃ y)) (entry_of c t) ≡ some (way_at y path₃ m (entry_of c t))) e (top_way t)
            where
              top_way : (t : Payload) → descend index_space (suc n) (polygon_on path₃ (suc n)) (items_at (suc n) m (part_on path₃ (suc n))) (entry_of c t) ≡ some (way_at (suc n) path₃ m (entry_of c t))
              top_way t =
                  ap (λ (p : List Rect). descend index_space (suc n) p (items_at (suc n) m (part_on path₃ (suc n))) (entry_of c t)) polygon_same
                  ∙ ap (λ (i : ℕ). descend index_space (suc n) (polygon_on path (suc n)) (items_at (suc n) m i) (entry_of c t)) part_same
                  ∙ turned t (below_reached t (z.ways n (omega arith) t))

          go : (j : ℕ) → j ≤ suc n → Dec (j ≤ n) → line_on path₃ j ≡ None
          go j i (yes h) = z.unsplit j h
          go j i (no h) =
              let e : suc n ≡ j = omega arith in
              subst (λ (y : ℕ). line_on path₃ y ≡ None) e (line_same ∙ d.unsplit)

      stopped : Stopped n path₂ m c → Stopped (suc n) path m c
      stopped z = record { way = λ t. none_below t (below_way t none (z.way t)) }
        where
          none_below : (t : Payload) → descend index_space n (rects_of q) x.old.child (entry_of c t) ≡ none → descend index_space (suc n) (polygon_on path (suc n)) (items_at (suc n) m k) (entry_of c t) ≡ none
          none_below t h = unfold P.descend bind in rw (items_b, x.chosen, h)

      pub went : (r : Result ℕ TooMany) → Descended n path₂ m c path₃ r → Descended (suc n) path m c path₃ r
      went (Ok x) z = record { kept = all_kept; is = reached z.is }
      went (Err x) z = record { kept = all_kept; is = stopped z.is }
