-- The walk from the root of the tree that a memory reads as: it can be made, and it gives the queries' visits and entries.
use Prim.Native.Nat.{ℕ}
use mathlib.Core.Path.{◌≡◌, sym, ap, ◌∙◌}
use mathlib.Core.Bool.{Bool, cond}
use mathlib.Core.List.{List, [], head?}
use mathlib.Core.Option.{some, some-injective}
use native.Mathlib.Omega.{arith}
use Rattle.geometry.specs.declared.rect.Cell.{Cell}
use Rattle.geometry.specs.declared.rect.Rect.{Rect}
use Rattle.tree.specs.Tree.{top}
use Rattle.tree.specs.Query.{entry_at, visits, matches, window_visits}
use Rattle.tree.specs.Walk.{walk_visits, walk_entries}
use Rattle.tree.proofs.Depth.{top_sound}
use Rattle.tree.proofs.Walk.{point_visits, point_found_lem, window_visits_lem, window_entries}
use Rattle.plane.specs.Lines.{CellEntry}
use Rattle.plane.specs.Fanout.{fanout, index_space, index_root, index_window}
use Rattle.plane.proofs.Rects.{plane_space_laws}
use Rattle.plane.proofs.Windows.{plane_window_laws}
use Rattle.memory.specs.Layout.{root_in, part, polygon_in}
use Rattle.memory.specs.TreeIn.{TreeIn}
use Rattle.memory.proofs.ReadingLaws.{read_as, read_sound}
use Rattle.layout.specs.Nodes.{PolygonPart}
use Rattle.layout.proofs.ReadNodes.{node_polygon}
use Rattle.walks.specs.Walks.{has_test, cell_test, meets_test, inside_test, visits_from, visits_below, entries_from, entries_below, Walkable, SoundWalk, held_below, matches_below}
use Rattle.walks.proofs.WalkRows.{walkable, walk_polygon}

module _ (m : List ℕ) (level root : ℕ) (v : TreeIn m level root) where
  root_walkable : Walkable v.tree.level m 0 (root_in m)
  root_walkable =
      let r = read_as fanout m v.tree v.reads in
      walkable v.tree.level m 0 (root_in m) (top index_space v.tree) r.right (omega arith)
      r.root_node

  pub tree_walkable : Walkable level m 0 root
  tree_walkable = rw (← v.level_is, ← v.root_is) root_walkable

  -- the root is sound, too
  pub root_sound_walk : SoundWalk v.tree.level m 0 (root_in m)
  root_sound_walk =
      let n : root_walkable.node ≡ top index_space v.tree = some-injective _ _
      (sym root_walkable.reads ∙ (read_as fanout m v.tree v.reads).root_node) in
      record {
        walk = root_walkable;
        around = v.tree.root;
        sound = rw n (top_sound index_space index_root v.tree
            (read_sound fanout m v.tree v.reads).sound);
      }

  pub tree_sound_walk : SoundWalk level m 0 root
  tree_sound_walk = rw (← v.level_is, ← v.root_is) root_sound_walk

  pub tree_polygon : PolygonPart m root
  tree_polygon = walk_polygon level m 0 root tree_walkable

  pub root_polygon : polygon_in (part m root) ≡ v.tree.root
  root_polygon =
      let t = v.tree in
      let r = read_as fanout m t v.reads in
      rw (← v.root_is) (sym (node_polygon t.level m 0 (root_in m) (top index_space t) r.root_node))

  walk_visits_lem : (t : List Rect → Bool) → cond (t (polygon_in (part m root))) (visits_below t level m 0 root) 0 ≡ walk_visits index_space t (some v.tree)
  unfolding visits_below visits_from
  walk_visits_lem t = rw (root_polygon, ← v.level_is, ← v.root_is, (read_as fanout m v.tree v.reads).root_node)

  walk_entries_lem : (t : List Rect → Bool) (u : CellEntry → Bool)
      → cond (t (polygon_in (part m root))) (entries_below t u level m 0 root) [] ≡ walk_entries index_space t u (some v.tree)
  unfolding entries_below entries_from
  walk_entries_lem t u = rw (root_polygon, ← v.level_is, ← v.root_is, (read_as fanout m v.tree v.reads).root_node)

  pub tree_visits : (c : Cell) → cond (has_test c (polygon_in (part m root))) (visits_below (has_test c) level m 0 root) 0 ≡ visits index_space c (some v.tree)
  unfolding has_test
  tree_visits c =
      walk_visits_lem (has_test c)
      ∙ point_visits index_space (plane_space_laws fanout) index_root (some v.tree) (read_sound fanout m v.tree v.reads).sound c

  pub tree_entry_lem : (c : Cell) → head? (cond (has_test c (polygon_in (part m root))) (held_below c level m 0 root) []) ≡ entry_at index_space c (some v.tree)
  unfolding has_test cell_test
  tree_entry_lem c =
      ap head? (walk_entries_lem (has_test c) (cell_test c))
      ∙ point_found_lem index_space (plane_space_laws fanout) index_root (some v.tree) (read_sound fanout m v.tree v.reads).sound c

  pub tree_window_visits : (w : Rect) → cond (meets_test w (polygon_in (part m root))) (visits_below (meets_test w) level m 0 root) 0
      ≡ window_visits index_space index_window w (some v.tree)
  unfolding meets_test
  tree_window_visits w =
      walk_visits_lem (meets_test w)
      ∙ window_visits_lem index_space (plane_space_laws fanout) index_root (some v.tree) (read_sound fanout m v.tree v.reads).sound
      index_window (plane_window_laws fanout) w

  pub tree_matches : (w : Rect) → cond (meets_test w (polygon_in (part m root))) (matches_below w level m 0 root) [] ≡ matches index_space index_window w (some v.tree)
  unfolding meets_test inside_test
  tree_matches w =
      walk_entries_lem (meets_test w) (inside_test w)
      ∙ window_entries index_space (plane_space_laws fanout) index_root (some v.tree) (read_sound fanout m v.tree v.reads).sound
      index_window (plane_window_laws fanout) w
