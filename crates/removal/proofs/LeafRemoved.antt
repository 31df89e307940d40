-- Removal in a leaf: the entry is found, and what became of the leaf is what the definition leaves of it.
use Prim.Native.Nat.{ℕ, ◌-◌, ◌≤◌, ◌<◌}
use mathlib.Core.Path.{◌≡◌, refl, sym, ap, ◌∙◌}
use mathlib.Core.Bool.{Bool, true, false}
use mathlib.Core.List.{List}
use native.Mathlib.Omega.{arith}
use lib.ListN.{length, get_or}
use Rattle.geometry.specs.declared.rect.Cell.{Cell}
use Rattle.tree.specs.Nodes.{held, item_has}
use Rattle.tree.specs.Sound.{SoundItem}
use Rattle.tree.specs.Remove.{prune, without}
use Rattle.tree.proofs.Lists.{all_at, length_zero}
use Rattle.tree.proofs.Walk.{leaf_nodes}
use Rattle.plane.specs.Lines.{CellEntry}
use Rattle.plane.specs.Fanout.{fanout, index_space}
use Rattle.plane.proofs.Rects.{plane_space_laws}
use Rattle.memory.specs.Layout.{parts_of, part, item_count, entry_in, polygon_in}
use Rattle.memory.proofs.ReadingLaws.{LeafParts, FitsAs, leaf_parts, make_leaf, fits_as, index_length, part_length, entries_length}
use Rattle.layout.specs.Nodes.{NodePart}
use Rattle.layout.specs.Gap.{without_at}
use Rattle.layout.specs.PartSet.{set_part, freed, UsedPart}
use Rattle.layout.proofs.GapLists.{length_without}
use Rattle.layout.proofs.GapLaws.{entry_at}
use Rattle.layout.proofs.PartSetLaws.{set_part_lem, set_length, set_in_use, set_bits}
use Rattle.layout.proofs.BesideLaws.{beside_wider, set_beside, set_unused, freed_beside, freed_unused, freed_bits}
use Rattle.walks.specs.Walks.{cell_test}
use Rattle.removal.specs.Place.{EntryPlace, HoldsCell}
use Rattle.removal.specs.Below.{TakesItem, LeafShorter, NodeFreed, EntryTaken, Removable, RemovedBelow}
use Rattle.removal.proofs.TreeLaws.{without_at_lem, holder, holder_has}
use Rattle.removal.proofs.BelowLaws.{removed_remaining, removed_gone, fits_dropped}

module _ (m : List ℕ) (lo k : ℕ) (c : Cell) (v : Removable 0 m lo k c) where
  parts : LeafParts fanout m lo k v.path.walk.node
  parts = leaf_parts fanout m lo k v.path.walk.node v.path.walk.reads

  fits : FitsAs fanout 3 m k
  fits = fits_as fanout 3 m k parts.fits

  used : UsedPart m k
  used = record { below = v.path.walk.below; ends = v.path.walk.ends; used = fits.used }

  few_parts : parts_of m ≤ 256
  few_parts = (index_length m v.path.walk.right).few_parts

  count_is : length v.path.walk.node.child ≡ item_count (part m k)
  count_is = ap length parts.entries ∙ entries_length (part m k) (item_count (part m k))

  -- the i-th entry of the leaf
  entry_is : (i : ℕ) (d : CellEntry) → i < item_count (part m k)
      → get_or v.path.walk.node.child i d ≡ entry_in (part m k) i
  entry_is i d h = ap (λ (l : List CellEntry). get_or l i d) parts.entries ∙ entry_at (part m k) (item_count (part m k)) i d h

  node_part_lem : NodePart (part m k)
  node_part_lem = record { length_is = part_length m k fits.below; few_rects = fits.few_rects; few_items = fits.few_items }

  -- the leaf holds the cell
  pub leaf_holds_lem : HoldsCell (part m k) c
  unfolding held SoundItem item_has cell_test
  leaf_holds_lem =
      let d = entry_in (part m k) 0 in
      let s = v.path.sound in
      let n = count_is in
      let h = holder index_space (plane_space_laws fanout) 0 c v.path.walk.node.child d v.holds in
      let i = h.inside in
      let e = holder_has index_space (plane_space_laws fanout) 0 c v.path.walk.node.poly _
      (all_at (SoundItem index_space 0 v.path.walk.node.poly) v.path.walk.node.child h.at
      d i s.each) h.holds in
      record {
        leaf = node_part_lem;
        at = h.at;
        place = record { inside = omega arith; is = rw (entry_is h.at d (omega arith)) at e };
      }

  module _ (i : ℕ) (place : EntryPlace (part m k) c i) where
    pub leaf_takes : TakesItem m k i
    leaf_takes = record { used = used; item = record { node = node_part_lem; inside = place.inside } }

    -- what is left of the entries
    leaf_without : without index_space 0 c v.path.walk.node.child
        ≡ without_at i v.path.walk.node.child
    unfolding SoundItem item_has cell_test prune
    leaf_without =
        let d = entry_in (part m k) 0 in
        let s = v.path.sound in
        let n = count_is in
        let i_in = place.inside in
        let e = entry_is i d place.inside in
        let t : item_has index_space 0 (get_or v.path.walk.node.child i d) c ≡ true = rw e place.is in
        without_at_lem index_space (plane_space_laws fanout) 0 c v.path.walk.node.poly
        v.path.walk.node.child i d s.each s.apart (omega arith) t
        ∙ rw t

    remaining_length : length (without_at i v.path.walk.node.child) ≡ item_count (part m k) - 1
    remaining_length =
        let n = count_is in
        let h = place.inside in
        length_without i v.path.walk.node.child (omega arith) ∙ ap (λ (x : ℕ). x - 1) n

    -- the leaf lost one of several entries
    leaf_remaining_lem : (m' : List ℕ) → LeafShorter m k i m' → RemovedBelow 0 m lo k c m' true
    leaf_remaining_lem m' z =
        let p = z.dropped.new in
        let d = z.dropped.entry.item in
        let size : length p ≡ 128 = d.same_length ∙ node_part_lem.length_is in
        let e = v.path.walk.ends in
        let same = set_part_lem m k p e size in
        let f = z.several in
        let n = remaining_length in
        let g = d.count in
        let a = leaf_nodes index_space v.path.walk.node.child in
        let b = leaf_nodes index_space (without_at i v.path.walk.node.child) in
        let o = set_bits m k p e size in
        rw z.dropped.memory
        (removed_remaining 0 m lo k c (set_part m k p) v.path.walk.node v.path.walk.reads
        (set_unused m k used few_parts v.unused p size)
        (beside_wider m lo k k k _ v.path.walk.from (omega arith)
        (set_beside m k used few_parts v.unused p size))
        (without_at i v.path.walk.node.child) leaf_without (omega arith)
        (make_leaf fanout (set_part m k p) lo k _ (record {
          fits = fits_dropped 3 m k m (set_part m k p) p parts.fits (set_length m k p e size) refl
              (set_in_use m k p e size k v.path.walk.below ∙ fits.used) same d f;
          polygon = parts.polygon ∙ sym d.polygon ∙ ap polygon_in (sym same);
          entries = rw (same, parts.entries) (sym z.dropped.entry.entries);
        }))
        (omega arith))

    -- the leaf lost its only entry
    leaf_gone : (m' : List ℕ) → NodeFreed m k m' → RemovedBelow 0 m lo k c m' false
    leaf_gone m' z =
        let f = z.last in
        let n = remaining_length in
        let a = leaf_nodes index_space v.path.walk.node.child in
        let o = freed_bits m k used few_parts v.unused in
        rw z.memory
        (removed_gone 0 m lo k c (freed m k) v.path.walk.node v.path.walk.reads
        (freed_unused m k used few_parts v.unused)
        (beside_wider m lo k k k _ v.path.walk.from (omega arith) (freed_beside m k used few_parts v.unused))
        (leaf_without ∙ length_zero (without_at i v.path.walk.node.child) (omega arith)) (omega arith))

    pub leaf_removed : (m' : List ℕ) (r : Bool) → EntryTaken m k i m' r → RemovedBelow 0 m lo k c m' r
    leaf_removed m' true z = leaf_remaining_lem m' z
    leaf_removed m' false z = leaf_gone m' z
