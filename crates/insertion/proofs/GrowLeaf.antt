-- The leaf on a path, written in place with the entry behind its others.
use Prim.Native.Nat.{ℕ, ◌+◌, ◌≤◌}
use mathlib.Core.Path.{◌≡◌, sym, ap, ◌∙◌, subst}
use mathlib.Core.List.{List, [], ◌∷◌, ◌++◌, flat_map}
use mathlib.Core.Option.{some}
use native.Mathlib.Omega.{arith}
use native.Mathlib.Nat.{le_refl}
use lib.ListN.{length, length-append}
use Rattle.path.specs.declared.level.Level.{Level}
use Rattle.geometry.specs.declared.rect.Rect.{Rect}
use Rattle.tree.specs.Nodes.{nodes}
use Rattle.tree.proofs.Walk.{leaf_nodes}
use Rattle.plane.specs.Lines.{CellEntry}
use Rattle.plane.specs.Fanout.{fanout, index_space}
use Rattle.memory.specs.Layout.{parts_of, part, item_count, entries_in}
use Rattle.memory.specs.Image.{entry_numbers, node_part}
use Rattle.memory.specs.Reading.{read_node}
use Rattle.memory.proofs.PartImage as image
use Rattle.memory.proofs.ReadingLaws.{FitsAs, leaf_parts, make_leaf, fits_as, index_length, part_length, entries_length}
use Rattle.layout.specs.declared.node.Node.{Node}
use Rattle.layout.specs.Loaded.{leaf_of, node_in, with_entry}
use Rattle.layout.specs.Nodes.{count_at}
use Rattle.layout.specs.PartSet.{set_part, UsedPart}
use Rattle.layout.proofs.BesideLaws.{beside_wider}
use Rattle.layout.proofs.LoadedLaws.{entry_more, leaf_part}
use Rattle.layout.proofs.LoadedParts.{loaded_leaf}
use Rattle.walks.specs.Walks.{Walkable}
use Rattle.path.specs.Path.{part_on, polygon_on}
use Rattle.tree_after.specs.Path.{way_at}
use Rattle.tree_after.proofs.PathLaws.{path_node}
use Rattle.insertion.specs.Growing.{grown_items, grown_node, replaced, leaf_grown, Growing, Grown}
use Rattle.insertion.proofs.GrowPart.{ImagePut, image_put}

module _ (path : List Level) (m : List ℕ) (e : CellEntry) (g : Growing 0 path m) where
  abbrev k : ℕ
  k = part_on path 0

  walk : Walkable 0 m 0 k
  walk = (path_node path m 0 g.from).walk

  fits : FitsAs fanout 3 m k
  fits = fits_as fanout 3 m k (leaf_parts fanout m 0 k walk.node walk.reads).fits

  used : UsedPart m k
  used = record { below = walk.below; ends = walk.ends; used = fits.used }

  few_parts : parts_of m ≤ 256
  few_parts = (index_length m walk.right).few_parts

  abbrev p : List Rect
  p = polygon_on path 0

  -- its entries, the new one behind the others
  abbrev es : List CellEntry
  es = entries_in (part m k) (item_count (part m k)) ++ (e ∷ [])

  entries_count : length es ≡ count_at m k + 1
  entries_count = let n = entries_length (part m k) (item_count (part m k)) in rw length-append (omega arith)

  leaf_is : with_entry (node_in (part m k)) e ≡ leaf_of es
  leaf_is =
      let n = entries_length (part m k) (item_count (part m k)) in
      let h = g.leaf in
      ap (λ (x : Node). with_entry x e) (loaded_leaf (part m k) (part_length m k fits.below) fits.few_rects fits.few_items fits.rest)
      ∙ entry_more (entries_in (part m k) (item_count (part m k))) e (omega arith)

  abbrev leaf' : List ℕ
  leaf' = set_part m k (node_part p (length es) (flat_map entry_numbers es))

  new_leaf : leaf_grown path m e ≡ leaf'
  new_leaf = ap (replaced m k p) leaf_is ∙ ap (set_part m k) (leaf_part p es)

  some_rects : 1 ≤ length p
  some_rects = (g.linked.fine 0 (omega arith)).lower

  few_rects : length p ≤ 16
  few_rects = (g.linked.fine 0 (omega arith)).upper

  some_entries : 1 ≤ length es
  some_entries = let c = entries_count in omega arith

  few_entries : length es ≤ 8
  few_entries = let c = entries_count in let h = g.leaf in omega arith

  numbers_fit : length (flat_map entry_numbers es) ≤ 62
  numbers_fit = let l = image.length_entries es in let f = few_entries in omega arith

  put : ImagePut m k p (length es) (flat_map entry_numbers es) leaf'
  put =
      image_put m k used few_parts g.unused p (length es) (flat_map entry_numbers es) some_rects few_rects some_entries few_entries numbers_fit

  leaf_reads : (lo : ℕ) → read_node fanout 0 leaf' lo k ≡ some (grown_node 0 path m e)
  unfolding grown_items way_at
  leaf_reads lo =
      let f = few_entries in
      make_leaf fanout leaf' lo k (record { poly = p; child = es }) (record {
        fits = put.fits 3 (image.length_entries es);
        polygon = put.polygon;
        entries = sym (ap (λ (q : List ℕ). entries_in q (item_count q)) put.part_is
            ∙ ap (entries_in (node_part p (length es) (flat_map entry_numbers es))) (image.part_count p (length es) (flat_map entry_numbers es))
            ∙ image.part_entries p (length es) es few_rects (omega arith));
      })

  leaf_grown_lem : Grown 0 path m e leaf'
  unfolding nodes
  leaf_grown_lem = record {
    same_length = put.beside.same_length;
    bits = put.bits;
    in_use = put.in_use;
    unused = put.unused;
    node = λ lo b h r. record {
      reads = leaf_reads lo;
      as_many = let x = leaf_nodes index_space (grown_items 0 path m e) in let y = leaf_nodes index_space b.child in omega arith;
      beside = beside_wider m lo k k k leaf' h (le_refl k) put.beside;
    };
  }

  pub grown_leaf : (m' : List ℕ) → m' ≡ leaf_grown path m e → Grown 0 path m e m'
  grown_leaf m' q = subst (λ (x : List ℕ). Grown 0 path m e x) (sym (q ∙ new_leaf)) leaf_grown_lem
