-- The start of an insertion at the root, and its path found: the tree after is the planned one.
use Prim.Native.Nat.{ℕ, zero, suc, ◌+◌, ◌≤◌}
use mathlib.Core.Bool.{true, false}
use mathlib.Core.Path.{◌≡◌, sym, ap, ◌∙◌, subst}
use mathlib.Core.List.{List, [], ◌∷◌, flat_map}
use mathlib.Core.Option.{Option, none, some, bind, some-injective}
use native.Mathlib.Omega.{arith}
use native.Mathlib.Nat.{le_refl, zero-add}
use native.Mathlib.Decide.{ℕ_discrete}
use lib.ListN.{length}
use Rattle.std.proofs.Common.{Result, Ok, Err, IfOk}
use Rattle.std.proofs.lemmas.Result.{IfOk-weaker}
use Rattle.path.specs.declared.level.Level.{Level}
use Rattle.geometry.specs.declared.rect.Cell.{Cell}
use Rattle.geometry.specs.declared.rect.Rect.{Rect}
use Rattle.geometry.specs.Cells.{on_grid}
use Rattle.geometry.specs.Grow.{grown}
use Rattle.geometry.specs.declared.polygon.Polygon.{Polygon}
use Rattle.geometry.specs.Numbers.{rect_at, rects_in, rects_of, PolygonOf}
use Rattle.geometry.proofs.CellLaws.{grid_of}
use Rattle.geometry.proofs.NumberLaws.{length_rects}
use Rattle.tree.specs.Nodes.{Item, held}
use Rattle.tree.specs.Sound.{Count, SoundItem, SoundItems}
use Rattle.tree.specs.Tree.{Tree, top, entries, node_count, SoundTree}
use Rattle.tree.specs.Insert.{insert_tree}
use Rattle.tree.specs.Removed.{removed_at, removed_total}
use Rattle.tree.specs.Plan.{Way, descend}
use Rattle.tree.specs.Query.{of_cell, holds}
use Rattle.tree.proofs.Any.{any_false}
use Rattle.tree.proofs.Lists.{all_map}
use Rattle.tree.proofs.Laws.{Laws, Steps}
use Rattle.tree.proofs.Keeps.{sound_wider}
use Rattle.tree.proofs.InsertAt.{Fresh}
use Rattle.tree.proofs.PlanIndex.{insert_by_plan}
use Rattle.tree.proofs.GoodWays.{GoodWay}
use Rattle.tree.proofs.Ways.{sound_way}
use Rattle.tree.proofs.Insert.{nodes_after}
use Rattle.plane.specs.Lines.{CellEntry, Payload, some_payload, entry_of}
use Rattle.plane.specs.Fanout.{fanout, index_space, index_root}
use Rattle.plane.proofs.Rects.{plane_space_laws}
use Rattle.plane.proofs.Steps.{plane_steps}
use Rattle.plane.proofs.Roots.{plane_root_laws}
use Rattle.memory.specs.Layout.{part, rect_count, root_in, rect_numbers}
use Rattle.memory.specs.Reading.{reading}
use Rattle.memory.proofs.ReadingLaws.{ReadAs, read_as, read_sound}
use Rattle.layout.specs.Nodes.{PartIn}
use Rattle.layout.proofs.ReadNodes.{node_polygon}
use Rattle.answers.specs.Answers.{cells_removed}
use Rattle.walks.specs.Walks.{Walkable}
use Rattle.walks.proofs.WalkRows.{walkable}
use Rattle.walks.proofs.TreeWalk.{tree_walkable}
use Rattle.queries.specs.Held.{held_read}
use Rattle.path.specs.Path.{part_on, polygon_on, HasLevel}
use Rattle.path.proofs.PutLaws.{LevelPut}
use Rattle.path.proofs.PutLaws.{level_kept}
use Rattle.tree_after.specs.Path.{way_at, planned_tree}
use Rattle.geometry.specs.declared.cut.TooMany.{TooMany}
use Rattle.insertion.specs.Descent.{items_at, Descending, Kept, Reached, Stopped, Descended}
use Rattle.insertion.specs.Removed.{RemovedBelow, RemovedIs}
use Rattle.insertion.specs.Planning.{GoodPath, FullLevels, PlanMade}
use Rattle.insertion.specs.Insert.{Inserting, PathReady, PathPlanned, PathFound}
use Rattle.insertion.proofs.DescentLaws.{items_are}
use Rattle.insertion.proofs.PlanTree.{planned_insert}
use Rattle.insertion.proofs.SplitCount.{split_often}

abbrev laws : Laws index_space
laws = plane_space_laws fanout

abbrev steps : Steps index_space
steps = plane_steps fanout (omega arith)

one_rect : (l : List ℕ) (n : ℕ) → length (rects_in l n) ≡ 1 → rects_in l n ≡ rect_at l 0 ∷ []
unfolding rects_in
one_rect l n h = let e : n ≡ 1 = sym (length_rects l n) ∙ h in rw e

good_below : (path : List Level) (m : List ℕ) (e : CellEntry) (n j : ℕ) → j ≤ n → GoodWay index_space n (way_at n path m e) → GoodWay index_space j (way_at j path m e)
unfolding GoodWay way_at
good_below path m e zero j h g = subst (λ (i : ℕ). GoodWay index_space i (way_at i path m e)) (let z : 0 ≡ j = omega arith in z) g
good_below path m e (suc n) j h g = go (ℕ_discrete j (suc n)) (λ i. good_below path m e n j i g.below)
  where
    go : Dec (j ≡ suc n) → (j ≤ n → GoodWay index_space j (way_at j path m e)) → GoodWay index_space j (way_at j path m e)
    go (yes z) f = subst (λ (i : ℕ). GoodWay index_space i (way_at i path m e)) (sym z) g
    go (no z) f = f (omega arith)

module _ (m : List ℕ) (c : Cell) (x : Tree index_space) (reads : reading fanout m ≡ some (some x)) (grid : on_grid c ≡ true) (new : holds index_space c (some x) ≡ false) where
  abbrev root : ℕ
  root = root_in m

  read_x : ReadAs fanout m x
  read_x = read_as fanout m x reads

  sound : SoundTree index_space index_root x
  sound = (read_sound fanout m x reads).sound

  walk : Walkable x.level m 0 root
  walk = walkable x.level m 0 root (top index_space x) read_x.right (omega arith) read_x.root_node

  abbrev p : List Rect
  p = index_root.grow_root x.root c

  -- the rectangle that the code grows
  grown_root_lem : (r g : Rect) → r ≡ rect_at (rect_numbers (part m root)) 0 → g ≡ grown r c → g ∷ [] ≡ p
  grown_root_lem r g e f =
      let q = node_polygon x.level m 0 root (top index_space x) read_x.root_node in
      let o : length (rects_in (rect_numbers (part m root)) (rect_count (part m root))) ≡ 1 = ap length (sym q) ∙ sound.one in
      let w : x.root ≡ rect_at (rect_numbers (part m root)) 0 ∷ [] = q ∙ one_rect (rect_numbers (part m root)) (rect_count (part m root)) o in
      ap (λ (z : Rect). z ∷ []) (f ∙ ap (λ (z : Rect). grown z c) e) ∙ ap (λ (l : List Rect). index_root.grow_root l c) (sym w)

  items_x : items_at x.level m root ≡ x.items
  items_x = items_are x.level m root (top index_space x) read_x.root_node

  grown_items_lem : SoundItems index_space x.level p x.items
  grown_items_lem = record {
    each = all_map (SoundItem index_space x.level x.root) (SoundItem index_space x.level p) x.items (λ y. sound_wider index_space x.level x.root p y ((plane_root_laws fanout).grow_old x.root c)) sound.items.each;
    apart = sound.items.apart;
  }

  fresh : Fresh index_space (entry_of c some_payload) (flat_map (held index_space x.level) x.items)
  fresh = any_false (of_cell index_space c) (entries index_space (some x)) new

  fine_p : index_space.Fine p
  fine_p = (plane_root_laws fanout).grow_fine x.root c grid sound.fine

  has_p : index_space.has p c ≡ true
  has_p = (plane_root_laws fanout).grow_has x.root c sound.one

  -- the cells removed from the root down
  root_removed : (path path₁ : List Level) → LevelPut path x.level root p path₁ → (u : ℕ)
      → RemovedBelow x.level path₁ m c 0 u → u ≡ cells_removed (some x) c
  unfolding removed_total
  root_removed path path₁ v u w =
      w.is ∙ zero-add _
      ∙ ap (λ (l : List Rect). removed_at index_space x.level l
      (items_at x.level m (part_on path₁ x.level)) c) v.polygon
      ∙ ap (λ (l : List (Item index_space x.level)). removed_at index_space x.level p l c)
      (ap (items_at x.level m) v.part ∙ items_x)

  -- the descent starts at the root
  root_descending : (path path₁ : List Level) → HasLevel x.level path → LevelPut path x.level root p path₁ → Descending x.level path₁ m c
  root_descending path path₁ h v =
      let i : items_at x.level m (part_on path₁ x.level) ≡ x.items = ap (items_at x.level m) v.part ∙ items_x in
      record {
        walk = subst (Walkable x.level m 0) (sym v.part) walk;
        room = level_kept path path₁ x.level v.same_length h;
        few = v.few;
        unsplit = v.line;
        grid = grid;
        fine = subst (λ (z : List Rect). index_space.Fine z) (sym v.polygon) fine_p;
        has = subst (λ (z : List Rect). index_space.has z c ≡ true) (sym v.polygon) has_p;
        items = subst (λ (z : List Rect). SoundItems index_space x.level z (items_at x.level m (part_on path₁ x.level))) (sym v.polygon)
            (subst (λ (z : List (Item index_space x.level)). SoundItems index_space x.level p z) (sym i) grown_items_lem);
        count = subst (λ (z : List (Item index_space x.level)). Count index_space z) (sym i) sound.count;
        fresh = subst (λ (z : List (Item index_space x.level)). Fresh index_space (entry_of c some_payload) (flat_map (held index_space x.level) z)) (sym i) fresh;
      }

  -- the descent from the root, in the tree's words
  module _ (path path₁ : List Level) (v : LevelPut path x.level root p path₁) where
    from_root : (t : Payload) (o : Option (Way index_space x.level)) → descend index_space x.level (polygon_on path₁ x.level) (items_at x.level m (part_on path₁ x.level)) (entry_of c t) ≡ o
        → descend index_space x.level p x.items (entry_of c t) ≡ o
    from_root t o h =
        ap (λ (z : List Rect). descend index_space x.level z x.items (entry_of c t)) (sym v.polygon)
        ∙ ap (λ (z : List (Item index_space x.level)). descend index_space x.level (polygon_on path₁ x.level) z (entry_of c t)) (sym (ap (items_at x.level m) v.part ∙ items_x)) ∙ h

    -- step 2 refused
    refused : Stopped x.level path₁ m c → (t : Payload) → insert_tree index_space index_root (some x) (entry_of c t) ≡ none
    unfolding bind
    refused s t = insert_by_plan index_space index_root x (entry_of c t) ∙ rw (from_root t none (s.way t))

    module _ (path₂ : List Level) (kept : Kept x.level path₁ path₂) (z : Reached x.level path₁ m c path₂) where
      polygon_2 : polygon_on path₂ x.level ≡ p
      polygon_2 = kept.polygon ∙ v.polygon

      part_2 : part_on path₂ x.level ≡ root
      part_2 = kept.part ∙ v.part

      way_2 : (t : Payload) → descend index_space x.level p x.items (entry_of c t) ≡ some (way_at x.level path₂ m (entry_of c t))
      way_2 t =
          ap (λ (l : List Rect). descend index_space x.level l x.items (entry_of c t)) (sym polygon_2)
          ∙ ap (λ (l : List (Item index_space x.level)). descend index_space x.level (polygon_on path₂ x.level) l (entry_of c t)) (sym (ap (items_at x.level m) part_2 ∙ items_x))
          ∙ z.ways x.level (le_refl x.level) t

      good_top : (t : Payload) → GoodWay index_space x.level (way_at x.level path₂ m (entry_of c t))
      good_top t = (sound_way index_space laws steps x.level p x.items (entry_of c t) (way_at x.level path₂ m (entry_of c t)) (way_2 t) fine_p grown_items_lem sound.count has_p fresh).way

      good_path : GoodPath x.level path₂ m c
      good_path = record { from = z.from; linked = z.linked; grid = grid; ways = z.ways; goods = λ j h t. good_below path₂ m (entry_of c t) x.level j h (good_top t) }

      ready : PathReady m x.level c path₂
      ready = record {
        plannable = record { path_is = good_path; unsplit = z.unsplit };
        top = part_2;
        polygon = λ y h.
            let same : x ≡ y = some-injective x y (some-injective (some x) (some y) (sym reads ∙ h)) in
            polygon_2 ∙ ap (λ (u : Tree index_space). index_root.grow_root u.root c) same;
      }

  -- a path that is ready
  module _ (path₂ : List Level) (r : PathReady m x.level c path₂) where
    -- and planned
    module _ (path₃ : List Level) (made : PlanMade x.level path₂ m c path₃) where
      planned : PathPlanned m x.level c path₃
      planned = record {
        good = made.path_is;
        top = made.part ∙ r.top;
        after = λ y h t.
            let same : some x ≡ some y = some-injective (some x) (some y) (sym reads ∙ h) in
            subst (λ (o : Option (Tree index_space)). insert_tree index_space index_root o (entry_of c t) ≡ some (planned_tree x.level path₃ m (entry_of c t))) same
            (planned_insert x path₃ m (entry_of c t) (λ j i. made.planned.each j i t) (made.path_is.goods x.level (le_refl x.level) t)
            (sym (made.polygon ∙ r.polygon x reads))
            (ap (λ (l : List (Item index_space x.level)). descend index_space x.level (polygon_on path₃ x.level) l (entry_of c t)) (sym (ap (items_at x.level m) (made.part ∙ r.top) ∙ items_x)) ∙ made.path_is.ways x.level (le_refl x.level) t));
      }

    way_ready : (t : Payload) → descend index_space x.level p x.items (entry_of c t) ≡ some (way_at x.level path₂ m (entry_of c t))
    way_ready t =
        ap (λ (l : List Rect). descend index_space x.level l x.items (entry_of c t)) (sym (r.polygon x reads))
        ∙ ap (λ (l : List (Item index_space x.level)). descend index_space x.level (polygon_on path₂ x.level) l (entry_of c t)) (sym (ap (items_at x.level m) r.top ∙ items_x))
        ∙ r.plannable.path_is.ways x.level (le_refl x.level) t

    -- the tree after has a node more for each split at least
    pub more_nodes : (n : ℕ) → FullLevels x.level path₂ m n → (t : Payload)
        → (y : Tree index_space) × (insert_tree index_space index_root (some x) (entry_of c t) ≡ some y) × (n + node_count index_space (some x) ≤ node_count index_space (some y))
    more_nodes n f t =
        let s = split_often x.level path₂ m c n r.plannable.path_is f t in
        let way = way_at x.level path₂ m (entry_of c t) in
        let a = nodes_after index_space laws steps index_root (plane_root_laws fanout) (omega arith) x (entry_of c t) way (way_ready t) sound grid new in
        (a.0, a.1, let b = a.2 in omega arith)

-- The same for the code: the tree's level and root by their numbers.
module _ (m : List ℕ) (level root : ℕ) (c : Cell) (v : Inserting m level root c) where
  abbrev tree : Tree index_space
  tree = v.tree_in.tree

  tree_new : holds index_space c (some tree) ≡ false
  unfolding held_read
  tree_new = sym (ap (held_read c) v.tree_in.reads) ∙ v.new

  abbrev grown_root : List Rect
  grown_root = index_root.grow_root tree.root c

  walk_root : Walkable level m 0 root
  walk_root = tree_walkable m level root v.tree_in

  pub root_in_lem : PartIn m root
  root_in_lem = walk_root.ends

  pub cell_x : c.x ≤ 65535
  cell_x = (grid_of c v.grid).x_most

  pub cell_y : c.y ≤ 65535
  cell_y = (grid_of c v.grid).y_most

  module _ (path path₁ : List Level) (h : HasLevel level path) (q : Polygon) (put : LevelPut path level root (rects_of q) path₁) (g : Rect) (u : PolygonOf (g ∷ []) q)
      (r : Rect) (f : g ≡ grown r c) (e : r ≡ rect_at (rect_numbers (part m root)) 0) where
    put_tree : LevelPut path tree.level (root_in m) grown_root path₁
    put_tree =
        let a : r ≡ rect_at (rect_numbers (part m (root_in m))) 0 = e ∙ ap (λ (i : ℕ). rect_at (rect_numbers (part m i)) 0) (sym v.tree_in.root_is) in
        let b : rects_of q ≡ grown_root = u.list ∙ grown_root_lem m c tree v.tree_in.reads v.grid tree_new r g a f in
        subst (λ (i : ℕ). LevelPut path i (root_in m) grown_root path₁) (sym v.tree_in.level_is)
        (subst (λ (i : ℕ). LevelPut path level i grown_root path₁) (sym v.tree_in.root_is) (subst (λ (l : List Rect). LevelPut path level root l path₁) b put))

    pub find_start : Descending level path₁ m c
    find_start = subst (λ (i : ℕ). Descending i path₁ m c) v.tree_in.level_is
        (root_descending m c tree v.tree_in.reads v.grid tree_new path path₁ (subst (λ (i : ℕ). HasLevel i path) (sym v.tree_in.level_is) h) put_tree)

    pub find_removed : (b : Result ℕ TooMany) → IfOk b (λ u. RemovedBelow level path₁ m c 0 u) → IfOk b (λ u. RemovedIs m c u)
    find_removed b = IfOk-weaker b _ _ removed
      where
        removed : (u : ℕ) → RemovedBelow level path₁ m c 0 u → RemovedIs m c u
        removed u w = record {
          is = λ y k.
              let same : some tree ≡ some y = some-injective (some tree) (some y) (sym v.tree_in.reads ∙ k) in
              let w' : RemovedBelow tree.level path₁ m c 0 u = subst (λ (i : ℕ). RemovedBelow i path₁ m c 0 u)
              (sym v.tree_in.level_is) w in
              subst (λ (o : Option (Tree index_space)). u ≡ cells_removed o c) same
              (root_removed m c tree v.tree_in.reads v.grid tree_new path path₁ put_tree u w');
        }

    module _ (path₂ : List Level) (b : Result ℕ TooMany) (z : Descended level path₁ m c path₂ b) where
      pub find_found : PathFound m level c path₂ b
      find_found = go b (subst (λ (i : ℕ). Descended i path₁ m c path₂ b) (sym v.tree_in.level_is) z)
        where
          go : (d : Result ℕ TooMany) → Descended tree.level path₁ m c path₂ d → PathFound m level c path₂ d
          go (Ok x) z = subst (λ (i : ℕ). PathReady m i c path₂) v.tree_in.level_is (ready m c tree v.tree_in.reads v.grid tree_new path path₁ put_tree path₂ z.kept z.is)
          go (Err x) z = record {
            after = λ y k t.
                let same : some tree ≡ some y = some-injective (some tree) (some y) (sym v.tree_in.reads ∙ k) in
                subst (λ (o : Option (Tree index_space)). insert_tree index_space index_root o (entry_of c t) ≡ none) same
                (refused m c tree v.tree_in.reads v.grid tree_new path path₁ put_tree z.is t);
          }

  module _ (path : List Level) (r : PathReady m level c path) where
    r_tree : PathReady m tree.level c path
    r_tree = subst (λ (i : ℕ). PathReady m i c path) (sym v.tree_in.level_is) r

    -- the plan was made
    pub ready_planned : (path' : List Level) → PlanMade level path m c path' → PathPlanned m level c path'
    ready_planned path' made = subst (λ (i : ℕ). PathPlanned m i c path') v.tree_in.level_is
        (planned m c tree v.tree_in.reads v.grid tree_new path r_tree path' (subst (λ (i : ℕ). PlanMade i path m c path') (sym v.tree_in.level_is) made))

    -- the tree after has a node more for each split at least
    pub ready_more : (n : ℕ) → FullLevels level path m n → (t : Payload)
        → (y : Tree index_space) × (insert_tree index_space index_root (some tree) (entry_of c t) ≡ some y) × (n + node_count index_space (some tree) ≤ node_count index_space (some y))
    ready_more n f t = more_nodes m c tree v.tree_in.reads v.grid tree_new path r_tree n (subst (λ (i : ℕ). FullLevels i path m n) (sym v.tree_in.level_is) f) t
