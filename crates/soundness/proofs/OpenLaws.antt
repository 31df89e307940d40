-- Opening an index: what each way out says of the memory's reading.
use mathlib.Core.Path.{◌≡◌, refl, sym, ap, ◌∙◌}
use mathlib.Core.Bool.{Bool, true, false, ◌&&◌, not}
use mathlib.Core.List.{List}
use mathlib.Core.Option.{Option, none, some}
use Prim.Native.Nat.{ℕ, suc, ◌-◌, ◌<◌, ◌≤◌}
use native.Mathlib.Omega.{arith}
use borrow.Author.Tests.{le-leb, eqb-true, eq-eqb, not-false}
use lib.Dec.{leb, eqb}
use lib.ListN.{length, take, drop}
use Rattle.polygons.proofs.Booleans.{not_both, both, split_and, all4}
use Rattle.geometry.specs.Cells.{all_valid}
use Rattle.geometry.proofs.NumberLaws.{length_rects}
use Rattle.cover.specs.Tests.{all_pass, pairs_pass}
use Rattle.tree.specs.Nodes.{Item, nodes}
use Rattle.tree.specs.Tree.{Tree, top}
use Rattle.plane.specs.Fanout.{fanout, index_space}
use Rattle.memory.specs.Layout.{parts_of, is_index_length, part, bits_set, height_in, root_in, all_zero, rect_count, others_zero, rect_numbers}
use Rattle.memory.specs.SoundTest.{polygon_fits, count_test, apart_test, item_test, sound_test}
use Rattle.memory.specs.Reading.{read_node, tree_of, reading}
use Rattle.memory.specs.TreeIn.{TreeIn}
use Rattle.memory.proofs.ReadingLaws.{index_length, ReadAs, read_as, read_empty, make_reading, zeros_read, zero_at, level_range}
use Rattle.layout.specs.Nodes.{PartIn}
use Rattle.layout.proofs.ReadNodes.{node_polygon, node_part_lem}
use Rattle.std.specs.Prelude.{Some, None}
use Rattle.std.specs.Prelude as S
use Rattle.soundness.specs.Check.{node_test, checked, checked_at}
use Rattle.answers.specs.declared.answer.Refusal.TheVariants as R
use Rattle.soundness.specs.Open.{NoTree}
use Rattle.soundness.proofs.CheckLaws.{found, counted_none, same_count}

-- a length that was tested is right
pub right_is : (m : List ℕ) (b : Bool) → b ≡ is_index_length m → b ≡ true → is_index_length m ≡ true
right_is m b e f = sym e ∙ f

-- its head can be read
pub right_head : (m : List ℕ) → is_index_length m ≡ true → 64 ≤ length m
right_head m e = let r = index_length m e in omega arith

pub right_bits : (m : List ℕ) → is_index_length m ≡ true → 8 ≤ length m
right_bits m e = let r = right_head m e in omega arith

-- a tree passes where its root is sound in itself and has one rectangle
sound_root : (n : ℕ) (b : Item index_space (suc n)) → node_test n b ≡ true → length b.poly ≡ 1 → sound_test fanout (tree_of fanout n b) ≡ true
unfolding sound_test node_test polygon_fits
sound_root n b e l =
    let f = all4 (polygon_fits b.poly) (count_test fanout b.child) (all_pass (item_test fanout n b.poly) b.child) (pairs_pass (apart_test fanout n) b.child) e in
    let v = (split_and (leb 1 (length b.poly) && leb (length b.poly) 16) (all_valid b.poly) f.0).1 in
    both _ _ (both _ _ (both _ _ (both _ _ (eq-eqb _ _ l) v) f.1) f.2) f.3

-- what a tree that passes says of its root
record SoundRoot (t : Tree index_space) : Type 0 where
  one : length t.root ≡ 1
  sound : node_test t.level (top index_space t) ≡ true

root_sound : (t : Tree index_space) → sound_test fanout t ≡ true → SoundRoot t
unfolding sound_test node_test polygon_fits
root_sound t e =
    let a = split_and _ (pairs_pass (apart_test fanout t.level) t.items) e in
    let b = split_and _ (all_pass (item_test fanout t.level t.root) t.items) a.0 in
    let c = split_and _ (count_test fanout t.items) b.0 in
    let d = split_and (eqb (length t.root) 1) (all_valid t.root) c.0 in
    let l : length t.root ≡ 1 = eqb-true _ _ d.0 in
    record {
      one = l;
      sound = both _ _ (both _ _ (both _ _ (both _ _ (both _ _ (le-leb 1 (length t.root) (omega arith)) (le-leb (length t.root) 16 (omega arith))) d.1) c.1) b.1) a.1;
    }

-- a memory of height 0
module _ (m : List ℕ) (r : is_index_length m ≡ true) (g : ℕ) (g_is : g ≡ height_in m) (z : g ≡ 0) (a : Bool) (e : a ≡ all_zero m) where
  pub open_empty : a ≡ true → reading fanout m ≡ some none
  open_empty f = zeros_read fanout m r (sym e ∙ f)

  pub open_zero : a ≡ false → NoTree m R.NoSoundTree
  unfolding reading
  open_zero f = record { reason = refl; reads = rw (r, ← g_is, z, ← e, f) }

-- a memory that reads as no tree and is not empty
no_tree_lem : (m : List ℕ) → (height_in m ≡ 0 → ⊥) → ((t : Tree index_space) → ReadAs fanout m t → ⊥) → NoTree m R.NoSoundTree
no_tree_lem m n f = go (reading fanout m) refl
  where
    go : (o : Option (Option (Tree index_space))) → reading fanout m ≡ o → NoTree m R.NoSoundTree
    go none e = record { reason = refl; reads = e }
    go (some none) e = absurd (n (zero_at m 8 (read_empty fanout m e).1))
    go (some (some t)) e = absurd (f t (read_as fanout m t e))

-- a tree that was read is counted
tree_counted : (m : List ℕ) (t : Tree index_space) → ReadAs fanout m t
    → checked_at (height_in m - 1) m 0 (root_in m) ≡ Some (nodes index_space (suc t.level) (top index_space t))
unfolding checked_at checked
tree_counted m t x =
    let h = x.height_is in
    let q : height_in m - 1 ≡ t.level = omega arith in
    ap (λ n. checked_at n m 0 (root_in m)) q ∙ rw (x.root_node, (root_sound t x.tested).sound)

-- the root of a tree that was read has one rectangle
tree_one : (m : List ℕ) (t : Tree index_space) → ReadAs fanout m t → rect_count (part m (root_in m)) ≡ 1
tree_one m t x =
    let p = node_polygon t.level m 0 (root_in m) (top index_space t) x.root_node in
    sym (length_rects (rect_numbers (part m (root_in m))) (rect_count (part m (root_in m)))) ∙ sym (ap length p) ∙ (root_sound t x.tested).one

-- a memory of a height g that is not 0, its root at part k
module _ (m : List ℕ) (g : ℕ) (g_is : g ≡ height_in m) (z : g ≡ 0 → ⊥) (k : ℕ) (k_is : k ≡ root_in m) where
  not_empty_lem : height_in m ≡ 0 → ⊥
  not_empty_lem e = z (g_is ∙ e)

  pub open_deep : k < g - 1 → NoTree m R.NoSoundTree
  open_deep h = no_tree_lem m not_empty_lem λ t x.
      let a = level_range fanout m t.level 0 (root_in m) (top index_space t) (omega arith) x.root_node in
      let b = x.height_is in
      omega arith

  pub open_head : (a : Bool) → a ≡ all_zero (drop 10 (take 64 m)) → a ≡ false → NoTree m R.NoSoundTree
  open_head a e f = no_tree_lem m not_empty_lem λ t x. not_both a (e ∙ x.head_zero) f

  pub open_wide : (p : List ℕ) (r : ℕ) → p ≡ part m k → r ≡ rect_count p → (r ≡ 1 → ⊥) → NoTree m R.NoSoundTree
  open_wide p r p_is r_is f = no_tree_lem m not_empty_lem λ t x. f (r_is ∙ ap rect_count (p_is ∙ ap (part m) k_is) ∙ tree_one m t x)

  pub open_unused : (d : Bool) → d ≡ others_zero m (parts_of m) → d ≡ false → NoTree m R.NoSoundTree
  open_unused d q f = no_tree_lem m not_empty_lem λ t x. not_both d (q ∙ x.others_zero) f

  module _ (r : S.Option ℕ) (e : r ≡ checked_at (g - 1) m 0 k) where
    checked_is : r ≡ checked_at (height_in m - 1) m 0 (root_in m)
    checked_is = rw (g_is, k_is) at e

    pub open_unsound : r ≡ None → NoTree m R.NoSoundTree
    open_unsound f = no_tree_lem m not_empty_lem λ t x. counted_none _ (sym (tree_counted m t x) ∙ sym checked_is ∙ f)

    module _ (c : ℕ) (s : r ≡ Some c) where
      count_is : Some c ≡ checked_at (height_in m - 1) m 0 (root_in m)
      count_is = sym s ∙ checked_is

      pub open_bits : (b : ℕ) → b ≡ bits_set m → (c ≡ b → ⊥) → NoTree m R.NoSoundTree
      open_bits b q f = no_tree_lem m not_empty_lem λ t x. f (same_count _ _ (count_is ∙ tree_counted m t x) ∙ x.bits ∙ sym q)

      pub open_in : PartIn m k
      unfolding checked_at
      open_in =
          let x = found (g - 1) (read_node fanout (g - 1) m 0 k) c (sym s ∙ e) in
          let b = (node_part_lem (g - 1) m 0 k x.node x.read).below in
          omega arith

      open_root : (a : Bool) (b : ℕ) (p : List ℕ) (r : ℕ) (d : Bool) → is_index_length m ≡ true → a ≡ all_zero (drop 10 (take 64 m)) → a ≡ true → b ≡ bits_set m → c ≡ b
          → p ≡ part m k → r ≡ rect_count p → r ≡ 1 → d ≡ others_zero m (parts_of m) → d ≡ true → TreeIn m (height_in m - 1) (root_in m)
      unfolding checked_at
      open_root a b p r d l ea fa eb fb p_is r_is one ed fd =
          let x = found (height_in m - 1) (read_node fanout (height_in m - 1) m 0 (root_in m)) c count_is in
          let q = node_polygon (height_in m - 1) m 0 (root_in m) x.node x.read in
          let o : rect_count (part m (root_in m)) ≡ 1 = sym (r_is ∙ ap rect_count (p_is ∙ ap (part m) k_is)) ∙ one in
          let w : length x.node.poly ≡ 1 = ap length q ∙ length_rects (rect_numbers (part m (root_in m))) (rect_count (part m (root_in m))) ∙ o in
          record {
            tree = tree_of fanout (height_in m - 1) x.node;
            reads = make_reading fanout m (tree_of fanout (height_in m - 1) x.node) (record {
              right = l;
              height_is = (let n = not_empty_lem in omega arith);
              root_node = x.read;
              bits = sym x.count ∙ fb ∙ eb;
              head_zero = sym ea ∙ fa;
              others_zero = sym ed ∙ fd;
              tested = sound_root (height_in m - 1) x.node x.sound w;
            });
            level_is = refl;
            root_is = refl;
          }

      pub open_tree : (a : Bool) (b : ℕ) (p : List ℕ) (r : ℕ) (d : Bool) → is_index_length m ≡ true → a ≡ all_zero (drop 10 (take 64 m)) → a ≡ true → b ≡ bits_set m → c ≡ b
          → p ≡ part m k → r ≡ rect_count p → r ≡ 1 → d ≡ others_zero m (parts_of m) → d ≡ true → TreeIn m (g - 1) k
      open_tree a b p r d l ea fa eb fb p_is r_is one ed fd = rw (g_is, k_is) (open_root a b p r d l ea fa eb fb p_is r_is one ed fd)

-- the length was tested
pub length_tested : (m : List ℕ) (b : Bool) → b ≡ is_index_length m → not b ≡ false → is_index_length m ≡ true
length_tested m b e f = sym e ∙ not-false b f
