-- The image of a tree reads as that tree.
use mathlib.Core.Path.{◌≡◌, ◌∙◌}
use mathlib.Core.Bool.{true}
use mathlib.Core.List.{List}
use mathlib.Core.Option.{some, bind}
use Prim.Native.Nat.{ℕ, suc, ◌+◌, ◌*◌, ◌-◌, ◌≤◌}
use native.Mathlib.Omega.{arith}
use native.Mathlib.Nat.{le_refl}
use borrow.Author.Tests.{eq-eqb, eqb-true}
use lib.Dec.{eqb}
use lib.ListN.{length}
use Rattle.polygons.proofs.Booleans.{both}
use Rattle.geometry.specs.Cells.{all_valid}
use Rattle.cover.specs.Tests.{all_pass, pairs_pass}
use Rattle.tree.specs.Nodes.{Item, nodes}
use Rattle.tree.specs.Tree.{Tree, top}
use Rattle.plane.specs.Plane.{plane_space}
use Rattle.memory.specs.Layout.{parts_of, is_index_length, root_in, others_zero}
use Rattle.memory.specs.SoundTest.{count_test, apart_test, item_test, sound_test}
use Rattle.memory.specs.Reading.{read_node, read_tree, rest_fits, reading}
use Rattle.memory.specs.Image.{write_node, image}
use Rattle.memory.proofs.NodeImage.{Sized, NodeOk, all5, count_ok, length_node, node_sized, node_reads}
use Rattle.memory.proofs.MemoryImage.{memory_height, memory_root, memory_head_zero, memory_bits, memory_length, memory_parts, memory_right, memory_holds, memory_others}

-- the root of a tree that passes the test fits its part
pub root_ok : (fanout : ℕ) (t : Tree (plane_space fanout)) → sound_test fanout t ≡ true → NodeOk fanout t.level (top (plane_space fanout) t)
unfolding sound_test
root_ok fanout t h =
    let s =
    all5 (eqb (length t.root) 1) (all_valid t.root) (count_test fanout t.items) (all_pass (item_test fanout t.level t.root) t.items)
    (pairs_pass (apart_test fanout t.level) t.items) h in
    let e : length t.root ≡ 1 = eqb-true (length t.root) 1 s.0 in
    let c = count_ok fanout t.items s.2 in
    record { some_rects = omega arith; few_rects = omega arith; valid = s.1; some_items = c.0; few_items = c.1; each = s.3 }

-- a tree of at most N nodes that passes the test
module _ (fanout N : ℕ) (t : Tree (plane_space fanout)) (small : fanout ≤ 20) (some_part : 1 ≤ N) (few_parts : N ≤ 256)
    (fit : nodes (plane_space fanout) (suc t.level) (top (plane_space fanout) t) ≤ N) (sound : sound_test fanout t ≡ true) where
  -- its root and parts
  abbrev b : Item (plane_space fanout) (suc t.level)
  b = top (plane_space fanout) t

  abbrev ps : List (List ℕ)
  ps = write_node fanout t.level 0 b

  ps_sized : Sized ps
  ps_sized = node_sized fanout small t.level 0 b (root_ok fanout t sound)

  ps_fit : length ps ≤ N
  ps_fit = let l = length_node fanout t.level 0 b in omega arith

  -- its image has the length of a memory of N parts
  pub image_length : length (image fanout N t) ≡ 64 + 128 * N
  unfolding image
  image_length = memory_length N (suc t.level) ps ps_sized ps_fit

  -- that length is right
  pub image_right : is_index_length (image fanout N t) ≡ true
  unfolding image
  image_right = memory_right N (suc t.level) ps ps_sized ps_fit some_part few_parts

  -- its unused parts are zero
  pub image_others : others_zero (image fanout N t) (parts_of (image fanout N t)) ≡ true
  unfolding image
  image_others = rw (memory_parts N (suc t.level) ps ps_sized ps_fit) (memory_others N (suc t.level) ps ps_sized ps_fit few_parts)

  -- its root is read back
  image_root : read_node fanout t.level (image fanout N t) 0 (root_in (image fanout N t)) ≡ some b
  unfolding image
  image_root =
      let e : 0 + length ps - 1 ≡ length ps - 1 = omega arith in
      let h = memory_holds N (suc t.level) ps ps_sized ps_fit few_parts in
      rw (memory_root N (suc t.level) ps, ← e) (node_reads fanout small t.level _ 0 0 b (root_ok fanout t sound) (le_refl 0) h)

  -- the bits and the unused numbers are right
  image_rest : rest_fits fanout t.level (image fanout N t) b ≡ true
  unfolding image rest_fits
  image_rest =
      let f = ps_fit in
      let bits = memory_bits N (suc t.level) ps (omega arith) ∙ length_node fanout t.level 0 b in
      both _ _ (both _ _ (eq-eqb _ _ bits) (memory_head_zero N (suc t.level) ps)) image_others

  -- the tree is read back at its height
  image_tree : read_tree fanout t.level (image fanout N t) ≡ some t
  unfolding read_tree bind
  image_tree = rw (image_root, image_rest, sound)

  -- its image reads as that tree
  pub image_reads : reading fanout (image fanout N t) ≡ some (some t)
  unfolding image reading bind
  image_reads = rw (image_right, memory_height N (suc t.level) ps, image_tree)
