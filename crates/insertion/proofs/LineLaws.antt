-- The line of a node on the path that gets one item too many: what the search for it asks, and that it is the definition's.
use Prim.Native.Nat.{ℕ, suc, ◌-◌, ◌<◌}
use mathlib.Core.Bool.{true}
use mathlib.Core.Path.{◌≡◌, refl, sym, ap, ◌∙◌, subst}
use mathlib.Core.List.{List, [], ◌∷◌, ◌++◌, map, flat_map}
use native.Mathlib.Omega.{arith}
use Rattle.std.specs.Prelude.{Option, Some, None, IsSome, false, is_none, unwrap_or}
use Rattle.geometry.specs.declared.rect.Line.{Line}
use Rattle.path.specs.declared.level.Level.{Level}
use Rattle.geometry.specs.declared.rect.Cell.{Cell}
use Rattle.geometry.specs.Cells.{on_grid}
use Rattle.tree.specs.Lists.{All}
use Rattle.tree.specs.Nodes.{Item, held}
use Rattle.tree.specs.Plan.{line_at, row}
use Rattle.tree.specs.Pass.{way_held}
use Rattle.tree.proofs.Lists.{all_first, all_flat_map, map_all}
use Rattle.tree.proofs.GoodWays.{GoodWay}
use Rattle.tree.proofs.Ways.{way_entries}
use Rattle.tree.proofs.Bags.{bag_all, bag_sym}
use Rattle.tree.proofs.SplitGroups.{row_entries_lem}
use Rattle.tree.proofs.OnePass.{line_row}
use Rattle.plane.specs.Lines.{no_line, CellEntry, leaf_line, Payload, some_payload, entry_of, OnGrid}
use Rattle.plane.specs.Fanout.{fanout, index_space}
use Rattle.plane.proofs.Rects.{plane_space_laws}
use Rattle.plane.proofs.Steps.{plane_steps}
use Rattle.memory.specs.Layout.{part}
use Rattle.layout.specs.Nodes.{count_at}
use Rattle.walks.specs.Walks.{Walkable}
use Rattle.walks.specs.Count as count
use Rattle.walks.specs.Count.{entries_at}
use Rattle.walks.proofs.WalkRows.{node_part_lem}
use Rattle.split_line.specs.FullLeaf.{entries_of, LeafHere, FullLeaf, LeafLineIs}
use Rattle.split_line.specs.Groups.{NodeHere, NodeLineIs}
use Rattle.path.specs.Path.{part_on, place_on, line_on, polygon_on}
use Rattle.tree_after.specs.Path.{way_at, PathFrom}
use Rattle.tree_after.proofs.PathLaws.{path_node}
use Rattle.insertion.specs.Descent.{items_at}
use Rattle.insertion.specs.Planning.{Full, LineOfLevel}
use Rattle.insertion.proofs.DescentLaws.{items_are}
use Rattle.insertion.proofs.NodePlan.{node_line_is, node_line_fits}
use Rattle.insertion.proofs.PathLaws.{path_below}
use Rattle.insertion.proofs.PlanLoop.{level_length}

-- A leaf that gets a ninth entry.
module _ (level : ℕ) (path : List Level) (m : List ℕ) (c : Cell) (f : Full 0 level path m c) where
  abbrev k : ℕ
  k = part_on path 0

  walk : Walkable 0 m 0 k
  walk = (path_node path m 0 (path_below path m level 0 f.path_is.from (omega arith))).walk

  entries_are : (t : Payload) → way_at 0 path m (entry_of c t) ≡ entries_of (part m k) ++ (entry_of c t ∷ [])
  unfolding way_at
  entries_are t = refl

  full_leaf : (t : Payload) → FullLeaf (entries_of (part m k) ++ (entry_of c t ∷ []))
  unfolding GoodWay row
  full_leaf t =
      let g = f.path_is.goods 0 (omega arith) t in
      let l = level_length level path m c f.path_is 0 (omega arith) f.splits.all t in
      let e = f.eight in
      subst (λ (es : List CellEntry). FullLeaf es) (entries_are t) (record { count = omega arith; grid = g.real; apart = g.apart })

  leaf_here : LeafHere (part m k) c
  leaf_here = record {
    leaf = node_part_lem 0 m 0 k walk (part m k) refl;
    grid = all_first (λ e. on_grid e.cell ≡ true) (entries_of (part m k)) (entry_of c some_payload ∷ []) (full_leaf some_payload).grid;
    cell = f.path_is.grid;
  }

  leaf_level : (r : Line) → LeafLineIs (part m k) c r → LineOfLevel 0 path m c r
  unfolding row
  leaf_level r l t =
      l t (full_leaf t) ∙ ap leaf_line (sym (entries_are t)) ∙ sym (line_row index_space 0 (way_at 0 path m (entry_of c t)))

-- A routing node that gets a ninth branch.
module _ (n level : ℕ) (path : List Level) (m : List ℕ) (c : Cell) (f : Full (suc n) level path m c) where
  abbrev at : ℕ
  at = part_on path (suc n)

  from : PathFrom (suc n) path m
  from = path_below path m level (suc n) f.path_is.from f.below

  here : Walkable (suc n) m 0 at
  here = (path_node path m (suc n) from).walk

  held_grid : OnGrid (flat_map (held index_space (suc n)) here.node.child)
  unfolding GoodWay
  held_grid =
      let e = entry_of c some_payload in
      let w = way_at (suc n) path m e in
      let g = f.path_is.goods (suc n) f.below some_payload in
      let rows : All (λ i. on_grid i.cell ≡ true) (flat_map (held index_space (suc n)) (row index_space (suc n) w)) =
      all_flat_map (λ i. on_grid i.cell ≡ true) (held index_space (suc n)) (row index_space (suc n) w) (unmap (row index_space (suc n) w) g.real) in
      let ways = bag_all (λ i. on_grid i.cell) (way_held index_space (suc n) w) (flat_map (held index_space (suc n)) (row index_space (suc n) w)) (bag_sym (flat_map (held index_space (suc n)) (row index_space (suc n) w)) (way_held index_space (suc n) w) (row_entries_lem index_space (suc n) w)) rows in
      let b = way_entries index_space (plane_space_laws fanout) (plane_steps fanout (omega arith)) (suc n) (polygon_on path (suc n)) (items_at (suc n) m at) e w (f.path_is.ways (suc n) f.below 0) in
      let all = bag_all (λ i. on_grid i.cell) (flat_map (held index_space (suc n)) (items_at (suc n) m at) ++ (e ∷ [])) (way_held index_space (suc n) w) (bag_sym (way_held index_space (suc n) w) (flat_map (held index_space (suc n)) (items_at (suc n) m at) ++ (e ∷ [])) b) ways in
      subst (λ (l : List (Item index_space (suc n))). OnGrid (flat_map (held index_space (suc n)) l)) (items_are (suc n) m at here.node here.reads)
      (all_first (λ i. on_grid i.cell ≡ true) (flat_map (held index_space (suc n)) (items_at (suc n) m at)) (e ∷ []) all)
    where
      unmap : (l : List (Item index_space (suc n))) → All (λ g. All (λ i. on_grid i.cell ≡ true) g) (map (held index_space (suc n)) l) → All (λ x. All (λ i. on_grid i.cell ≡ true) (held index_space (suc n) x)) l
      unmap l h = map_all (λ g. All (λ i. on_grid i.cell ≡ true) g) (held index_space (suc n)) l h

  under_grid : OnGrid (entries_at (suc n) m 0 at)
  unfolding entries_at count.entries_of held
  under_grid = rw here.reads held_grid

  place_in : place_on path (suc n) < count_at m at
  unfolding PathFrom
  place_in = from.1

  below_from : PathFrom n path m
  unfolding PathFrom
  below_from = from.2

  node_here : NodeHere m (suc n) 0 at (place_on path (suc n)) c
  node_here = record {
    walk = here;
    routing = omega arith;
    place_in = place_in;
    grid = under_grid;
    cell = f.path_is.grid;
  }

  node_level : (b r : Line) → line_on path n ≡ Some b → NodeLineIs m (suc n) 0 at (place_on path (suc n)) b c r → LineOfLevel (suc n) path m c r
  node_level b r z l t =
      let w = f.path_is.ways (suc n) f.below t in
      let g = f.path_is.goods (suc n) f.below t in
      let o = level_length level path m c f.path_is (suc n) f.below f.splits.all t in
      let e = f.eight in
      let q = f.splits.all n (omega arith) t in
      let y : b ≡ line_at index_space n (way_at n path m (entry_of c t)) = sym (ap (λ o. unwrap_or o no_line) z) ∙ (f.splits.each n (omega arith) t).line q in
      l t (node_line_fits n path m (entry_of c t) here w g q b y (omega arith)) ∙ node_line_is n path m (entry_of c t) here w g q b y

some_line : (o : Option Line) → is_none o ≡ false → IsSome o
some_line None h = let z : ◌≡◌ {A = ℕ} 0 1 = cc in absurd (omega arith)
some_line (Some l) h = refl

-- The same for the code, by its level.
module _ (n level : ℕ) (path : List Level) (m : List ℕ) (c : Cell) (f : Full n level path m c) where
  module _ (z : n ≡ 0) (p : List ℕ) (p_is : p ≡ part m (part_on path n)) where
    leaf_is : p ≡ part m (part_on path 0)
    leaf_is = p_is ∙ ap (part m) (ap (part_on path) z)

    pub leaf_ready : LeafHere p c
    leaf_ready = subst (λ (l : List ℕ). LeafHere l c) (sym leaf_is) (leaf_here level path m c (subst (λ (i : ℕ). Full i level path m c) z f))

    pub leaf_found : (r : Line) → LeafLineIs p c r → LineOfLevel n path m c r
    leaf_found r l =
        subst (λ (i : ℕ). LineOfLevel i path m c r) (sym z)
        (leaf_level level path m c (subst (λ (i : ℕ). Full i level path m c) z f) r (subst (λ (q : List ℕ). LeafLineIs q c r) leaf_is l))

  module _ (h : n ≡ 0 → ⊥) where
    up : suc (n - 1) ≡ n
    up = omega arith

    f' : Full (suc (n - 1)) level path m c
    f' = subst (λ (i : ℕ). Full i level path m c) (sym up) f

    -- the node below is split
    pub below_split : IsSome (line_on path (n - 1))
    below_split =
        some_line (line_on path (n - 1)) ((f.splits.each (n - 1) (omega arith) some_payload).split ∙ f.splits.all (n - 1) (omega arith) some_payload)

    pub node_ready : NodeHere m n 0 (part_on path n) (place_on path n) c
    node_ready = subst (λ (i : ℕ). NodeHere m i 0 (part_on path i) (place_on path i) c) up (node_here (n - 1) level path m c f')

    pub node_found : (b r : Line) → line_on path (n - 1) ≡ Some b → NodeLineIs m n 0 (part_on path n) (place_on path n) b c r → LineOfLevel n path m c r
    node_found b r z l =
        subst (λ (i : ℕ). LineOfLevel i path m c r) up (node_level (n - 1) level path m c f' b r z
        (subst (λ (i : ℕ). NodeLineIs m i 0 (part_on path i) (place_on path i) b c r) (sym up) l))
