-- The walk that collects what the entries below a node extent: it enters every node.
use Prim.Native.Nat.{ℕ, zero, suc, ◌+◌, ◌-◌, ◌≤◌, ◌<◌}
use mathlib.Core.Path.{◌≡◌, refl, sym, ap, ◌∙◌, subst}
use mathlib.Core.Bool.{Bool, true, false}
use Rattle.std.specs.Prelude.{Option, Some, None}
use mathlib.Core.List.{List, [], ◌∷◌, ◌++◌, flat_map}
use Rattle.geometry.specs.declared.rect.Cell.{Cell}
use Rattle.geometry.specs.declared.rect.Rect.{Rect}
use Rattle.geometry.specs.declared.rect.Side.{Side}
use Rattle.geometry.specs.Cells.{on_grid}
use Rattle.tree.specs.Lists.{keep}
use Rattle.tree.specs.Nodes.{Item, held}
use Rattle.tree.specs.Walk.{node_walk_entries}
use Rattle.tree.proofs.Lists.{flat_map_single, flat_map_same, keep_flat_map, all_first, all_second, all_head, all_any}
use Rattle.plane.specs.Lines.{CellEntry, OnGrid}
use Rattle.plane.specs.Fanout.{index_space}
use Rattle.memory.specs.Layout.{part, item_count, entry_in}
use Rattle.layout.specs.Nodes.{count_at, child_at}
use Rattle.walks.specs.Count.{entries_at, entries_of}
use Rattle.walks.specs.Walks.{visits_below, entries_from, entries_below, leaf_entries, Walkable, any_polygon}
use Rattle.walks.proofs.WalkRows.{leaf_entries_lem, node_part_lem}
use Rattle.walks.proofs.WalkLeaf.{AtEntry, entry_start, entry_miss, entry_hit, entry_end}
use Rattle.walks.proofs.WalkLoop.{AtChild, child_start, child_walkable, child_hit, end_entries}
use Rattle.split_line.specs.Sides.{on_every, on_test}
use Rattle.split_line.specs.GroupExtent.{group_extent, extent_add, extent_join, kept_under, LeafExtent, NodeExtent}
use Rattle.split_line.proofs.GroupExtentLaws.{empty_is, group_more, group_append}

-- the walk finds all entries that pass
walk_all : (u : CellEntry → Bool) (n : ℕ) (items : List (Item index_space n)) → keep u (flat_map (held index_space n) items) ≡ node_walk_entries index_space any_polygon u n items
unfolding node_walk_entries held any_polygon
walk_all u zero es = ap (keep u) (flat_map_single (held index_space zero) es (all_any _ es (λ e. refl)))
walk_all u (suc n) bs = keep_flat_map u (held index_space (suc n)) bs ∙ flat_map_same _ _ bs (λ b. walk_all u n b.child)

kept_walk : (ss : List Side) (n : ℕ) (m : List ℕ) (lo k : ℕ) → Walkable n m lo k → kept_under ss n m lo k ≡ entries_below any_polygon (on_test ss) n m lo k
unfolding kept_under entries_at entries_of entries_below entries_from held
kept_walk ss n m lo k v = rw v.reads (walk_all (on_test ss) n v.node.child)

-- Before the i-th of the n entries of a leaf: what those before it extent.
pub record ExtentLeaf (ss : List Side) (p : List ℕ) (n i : ℕ) (r : Option Rect) : Type 0 where
  pub es : List CellEntry
  pub at : AtEntry (on_test ss) p n i es
  pub grid : OnGrid (leaf_entries (on_test ss) p)
  pub so_far : r ≡ group_extent es

module _ (ss : List Side) (p : List ℕ) (n : ℕ) where
  pub leaf_start : n ≡ item_count p → LeafExtent p ss → ExtentLeaf ss p n 0 None
  leaf_start k h = record { es = []; at = entry_start (on_test ss) p n h.leaf k; grid = h.grid; so_far = empty_is }

  module _ (i : ℕ) (r : Option Rect) (a : ExtentLeaf ss p n i r) where
    pub leaf_end : n ≤ i → r ≡ group_extent (leaf_entries (on_test ss) p)
    leaf_end h = a.so_far ∙ ap group_extent (entry_end (on_test ss) p n i a.es a.at h)

    module _ (h : i < n) (c : Cell) (c_is : c ≡ (entry_in p i).cell) (b : Bool) (e : b ≡ on_every ss c) where
      tested : b ≡ on_test ss (entry_in p i)
      unfolding on_test
      tested = e ∙ ap (on_every ss) c_is

      pub leaf_miss : (r' : Option Rect) → b ≡ false → r' ≡ r → ExtentLeaf ss p n (i + 1) r'
      leaf_miss r' f g = record {
        es = a.es;
        at = entry_miss (on_test ss) p n i a.es a.at h b tested f;
        grid = a.grid;
        so_far = g ∙ a.so_far;
      }

      pub leaf_grid : b ≡ true → on_grid c ≡ true
      leaf_grid f =
          let y = entry_hit (on_test ss) p n i a.es a.at h b tested f in
          let g = all_first _ (a.es ++ (entry_in p i ∷ [])) _ (subst OnGrid (sym y.entries) a.grid) in
          rw c_is (all_head _ (entry_in p i) [] (all_second _ a.es (entry_in p i ∷ []) g))

      pub leaf_hit : (d : Rect) (r' : Option Rect) → b ≡ true → d ≡ extent_add r c → r' ≡ Some d → ExtentLeaf ss p n (i + 1) r'
      leaf_hit d r' f g j = record {
        es = a.es ++ (entry_in p i ∷ []);
        at = entry_hit (on_test ss) p n i a.es a.at h b tested f;
        grid = a.grid;
        so_far = j ∙ ap Some (g ∙ ap (extent_add r) c_is ∙ ap (λ q. extent_add q (entry_in p i).cell) a.so_far) ∙ group_more a.es (entry_in p i);
      }

module _ (ss : List Side) (level : ℕ) (m : List ℕ) (lo k : ℕ) (v : NodeExtent level m lo k ss) (z : level ≡ 0) (p : List ℕ) (p_is : p ≡ part m k) where
  leaf_kept : kept_under ss level m lo k ≡ leaf_entries (on_test ss) p
  leaf_kept =
      let w : Walkable 0 m lo k = rw z at v.walk in
      rw (z, kept_walk ss 0 m lo k w, leaf_entries_lem any_polygon (on_test ss) m lo k w, p_is)

  -- a node that is a leaf
  pub group_leaf : LeafExtent p ss
  group_leaf = record { leaf = node_part_lem level m lo k v.walk p p_is; grid = subst OnGrid leaf_kept v.grid }

  pub group_of_leaf : (r : Option Rect) → r ≡ group_extent (leaf_entries (on_test ss) p) → r ≡ group_extent (kept_under ss level m lo k)
  group_of_leaf r e = e ∙ ap group_extent (sym leaf_kept)

-- Before the i-th of the n children: what the entries below those before it extent.
pub record ExtentLoop (ss : List Side) (level : ℕ) (m : List ℕ) (lo k n i low : ℕ) (r : Option Rect) : Type 0 where
  pub vs : ℕ
  pub es : List CellEntry
  pub at : AtChild any_polygon (on_test ss) level m lo k n i low vs es
  pub grid : OnGrid (kept_under ss level m lo k)
  pub so_far : r ≡ group_extent es

module _ (ss : List Side) (level : ℕ) (m : List ℕ) (lo k n : ℕ) where
  pub group_start : (level ≡ 0 → ⊥) → NodeExtent level m lo k ss → n ≡ count_at m k → ExtentLoop ss level m lo k n 0 lo None
  group_start ne v c = record { vs = 1; es = []; at = child_start any_polygon (on_test ss) level m lo k n ne v.walk c; grid = v.grid; so_far = empty_is }

  module _ (i low : ℕ) (r : Option Rect) (a : ExtentLoop ss level m lo k n i low r) where
    pub group_end : n ≤ i → r ≡ group_extent (kept_under ss level m lo k)
    group_end h = a.so_far ∙ ap group_extent (end_entries any_polygon (on_test ss) level m lo k n i low a.vs a.es a.at h ∙ sym (kept_walk ss level m lo k a.at.walkable))

    module _ (h : i < n) (j : ℕ) (j_is : j ≡ child_at m k i) where
      walks : Walkable (level - 1) m low j
      walks = child_walkable any_polygon (on_test ss) level m lo k n i low a.vs a.es a.at h j j_is

      next : AtChild any_polygon (on_test ss) level m lo k n (i + 1) (j + 1) (a.vs + visits_below any_polygon (level - 1) m low j) (a.es ++ entries_below any_polygon (on_test ss) (level - 1) m low j)
      unfolding any_polygon
      next = child_hit any_polygon (on_test ss) level m lo k n i low a.vs a.es a.at h j j_is true refl refl

      pub group_child : NodeExtent (level - 1) m low j ss
      group_child = record {
        walk = walks;
        grid =
            let w = subst OnGrid (kept_walk ss level m lo k a.at.walkable ∙ sym next.entries) a.grid in
            subst OnGrid (sym (kept_walk ss (level - 1) m low j walks)) (all_second _ a.es _ (all_first _ (a.es ++ entries_below any_polygon (on_test ss) (level - 1) m low j) _ w));
      }

      pub group_again : (d r' : Option Rect) → d ≡ group_extent (kept_under ss (level - 1) m low j) → r' ≡ extent_join r d → ExtentLoop ss level m lo k n (i + 1) (j + 1) r'
      group_again d r' e f = record {
        vs = _;
        es = a.es ++ entries_below any_polygon (on_test ss) (level - 1) m low j;
        at = next;
        grid = a.grid;
        so_far = f ∙ rw (e, kept_walk ss (level - 1) m low j walks, a.so_far) (group_append a.es _);
      }
