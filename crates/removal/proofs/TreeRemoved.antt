-- Removal from the tree that a memory reads as: what the memory reads as once the root is left, or gone.
use Prim.Native.Nat.{ℕ, suc, ◌+◌, ◌-◌, ◌≤◌}
use mathlib.Core.Path.{◌≡◌, refl, sym, ap, ◌∙◌}
use mathlib.Core.Bool.{Bool, true, false, not}
use mathlib.Core.List.{List, [], ◌∷◌}
use mathlib.Core.Option.{none, some, some-injective}
use native.Mathlib.Omega.{arith}
use borrow.Author.Tests.{not-true, not-false}
use lib.ListN.{length, get_or, set, take, drop, length-set}
use Rattle.geometry.specs.declared.rect.Cell.{Cell}
use Rattle.tree.specs.Lists.{total, count_of, not_empty}
use Rattle.tree.specs.Nodes.{Item, held, nodes}
use Rattle.tree.specs.Split.{branch_if}
use Rattle.tree.specs.Tree.{SoundTree, entries, top}
use Rattle.tree.specs.Query.{of_cell, holds}
use Rattle.tree.specs.Remove.{prune, without, tree_if, remove}
use Rattle.tree.proofs.Counts.{count_of_both}
use Rattle.tree.proofs.Leaves.{cell_once}
use Rattle.tree.proofs.RemoveIndex.{remove_entries, remove_sound}
use Rattle.plane.specs.Fanout.{fanout, index_space, index_root}
use Rattle.plane.proofs.Rects.{plane_space_laws}
use Rattle.memory.specs.Layout.{bits_set, root_in, all_zero}
use Rattle.memory.specs.Reading.{reading}
use Rattle.memory.specs.TreeIn.{TreeIn}
use Rattle.memory.proofs.SoundTested.{test_of_sound}
use Rattle.memory.proofs.ReadingLaws.{ReadAs, read_as, read_sound, make_reading, zeros_read, index_length}
use Rattle.layout.specs.PartSet.{no_tree}
use Rattle.layout.proofs.BesideLaws.{right_same, head_same}
use Rattle.std.specs.Prelude.{Ok, Err}
use Rattle.answers.specs.declared.answer.Refusal.TheVariants.{NotHeld}
use Rattle.answers.specs.Answers.{remove_end, remove_read}
use Rattle.answers.specs.Changes.{removed_index}
use Rattle.walks.specs.Count.{entries_at}
use Rattle.walks.proofs.TreeWalk.{root_sound_walk}
use Rattle.walks.proofs.CountWalk.{tree_held}
use Rattle.queries.specs.Held.{held_read}
use Rattle.removal.specs.Below.{node_remaining, Removable, RemovedBelow}
use Rattle.removal.specs.Tree.{RemoveDone}
use Rattle.removal.proofs.ZeroMemory.{all_zeros}

-- the cell is not held
pub not_held : (m : List ℕ) (level root : ℕ) (c : Cell) (b : Bool) → TreeIn m level root → b ≡ held_read c (reading fanout m) → not b ≡ true → RemoveDone m c m (Err NotHeld)
unfolding held_read remove_read remove_end
not_held m level root c b v e f =
    let h : holds index_space c (some v.tree) ≡ false = sym (rw v.reads at e) ∙ not-true b f in
    record { answer = rw (v.reads, h); memory = refl; memory_length = refl }

-- the memory has the numbers before the parts
pub head_in : (m : List ℕ) (level root : ℕ) (c : Cell) (m₁ : List ℕ) (s : Bool) → TreeIn m level root → RemovedBelow level m 0 root c m₁ s → 64 ≤ length m₁
head_in m level root c m₁ s v w =
    let r = (index_length m (read_as fanout m v.tree v.reads).right).length_is in
    let l = w.beside.same_length in
    omega arith

module _ (m : List ℕ) (level root : ℕ) (c : Cell) (b : Bool) (v : TreeIn m level root) (e : b ≡ held_read c (reading fanout m)) (f : not b ≡ false) where
  is_held : holds index_space c (some v.tree) ≡ true
  unfolding held_read
  is_held = sym (rw v.reads at e) ∙ not-false b f

  read : ReadAs fanout m v.tree
  read = read_as fanout m v.tree v.reads

  sound : SoundTree index_space index_root v.tree
  sound = (read_sound fanout m v.tree v.reads).sound

  -- one entry goes
  entries_remaining : length (entries index_space (remove index_space c (some v.tree))) + 1 ≡ length (entries index_space (some v.tree))
  entries_remaining =
      let es = entries index_space (some v.tree) in
      let a : count_of (of_cell index_space c) es ≡ 1 = cell_once index_space (plane_space_laws fanout) index_root (some v.tree) sound c ∙ rw is_held in
      let d = count_of_both (of_cell index_space c) es in
      let g = ap length (remove_entries index_space c (some v.tree)) in
      omega arith

  -- the root as a node from which the cell can be removed
  root_removable : Removable v.tree.level m 0 (root_in m) c
  unfolding held
  root_removable =
      let t = v.tree in
      let w = root_sound_walk m level root v in
      let n : w.walk.node ≡ top index_space t = some-injective _ _
      (sym w.walk.reads ∙ read.root_node) in
      record { path = w; unused = read.others_zero; holds = rw n is_held }

  pub tree_removable : Removable level m 0 root c
  tree_removable = rw (← v.level_is, ← v.root_is) root_removable

  module _ (n : ℕ) (g : n ≡ length (entries_at level m 0 root)) where
    count_is : n ≡ length (entries index_space (some v.tree))
    count_is = g ∙ ap length (tree_held m level root v)

    pub held_some : 1 ≤ n
    held_some = let a = entries_remaining in let h = count_is in omega arith

    -- the answer, and the memory by what it reads as
    done : (m' : List ℕ) → reading fanout m' ≡ some (remove index_space c (some v.tree)) → length m' ≡ length m → RemoveDone m c m' (Ok (n - 1))
    unfolding remove_read remove_end removed_index
    done m' r l =
        let a = entries_remaining in
        let h = count_is in
        let q : n - 1 ≡ length (entries index_space (remove index_space c (some v.tree))) = omega arith in
        record { answer = rw (v.reads, is_held, q); memory = rw (v.reads, is_held) r; memory_length = l }

    module _ (m₁ : List ℕ) (s : Bool) (w : RemovedBelow level m 0 root c m₁ s) where
      below : RemovedBelow v.tree.level m 0 (root_in m) c m₁ s
      below = rw (v.level_is, v.root_is) w

      root_was : below.node ≡ top index_space v.tree
      root_was = some-injective _ _ (sym below.before ∙ read.root_node)

      bits_are : bits_set m₁ ≡ total (nodes index_space (suc v.tree.level)) (node_remaining v.tree.level c (top index_space v.tree))
      bits_are =
          let x = rw root_was at below.bits in
          let y = read.bits in
          omega arith

      remaining_is : s ≡ not_empty (node_remaining v.tree.level c (top index_space v.tree))
      remaining_is = rw root_was at below.remaining_is

      height_kept : get_or m₁ 8 0 ≡ suc v.tree.level
      height_kept = below.beside.head 8 (omega arith) (omega arith) ∙ read.height_is

      root_kept : root_in m₁ ≡ root_in m
      root_kept = below.beside.head 9 (omega arith) (omega arith)

      -- the memory reads as the tree with the items that are left
      reads_remaining : (l : List (Item index_space v.tree.level)) → without index_space v.tree.level c v.tree.items ≡ l
          → true ≡ not_empty (branch_if index_space v.tree.root l) → reading fanout m₁ ≡ some (tree_if index_space v.tree.level v.tree.root l)
      unfolding prune total
      reads_remaining [] q t = let z : ◌≡◌ {A = ℕ} 0 1 = cc in absurd (omega arith)
      reads_remaining (x ∷ xs) q t =
          let u : node_remaining v.tree.level c (top index_space v.tree) ≡ record { poly = v.tree.root; child = x ∷ xs } ∷ [] = ap (branch_if index_space v.tree.root) q in
          let k = ap (total (nodes index_space (suc v.tree.level))) u in
          let y = bits_are in
          make_reading fanout m₁ (record { level = v.tree.level; root = v.tree.root; items = x ∷ xs }) (record {
            right = right_same m m₁ below.beside.same_length read.right;
            height_is = height_kept;
            root_node = rw root_kept (below.after (record { poly = v.tree.root; child = x ∷ xs }) (rw root_was u));
            bits = omega arith;
            head_zero = rw (head_same m (root_in m) m₁ below.beside) read.head_zero;
            others_zero = below.unused;
            tested = test_of_sound fanout _ (rw q at (remove_sound index_space (plane_space_laws fanout) index_root c (some v.tree) sound));
          })

      pub tree_remaining : s ≡ true → RemoveDone m c m₁ (Ok (n - 1))
      unfolding prune
      tree_remaining t =
          done m₁ (reads_remaining (without index_space v.tree.level c v.tree.items) refl (sym t ∙ remaining_is)) below.beside.same_length

      none_remaining_lem : (l : List (Item index_space v.tree.level)) → false ≡ not_empty (branch_if index_space v.tree.root l) → l ≡ []
      none_remaining_lem [] q = refl
      none_remaining_lem (x ∷ l) q = let z : ◌≡◌ {A = ℕ} 0 1 = cc in absurd (omega arith)

      -- nothing is left: the memory is all zeros
      pub tree_gone : (m₂ : List ℕ) → s ≡ false → m₂ ≡ no_tree m₁ → RemoveDone m c m₂ (Ok (n - 1))
      unfolding prune total
      tree_gone m₂ t d =
          let q = none_remaining_lem (without index_space v.tree.level c v.tree.items) (sym t ∙ remaining_is) in
          let u : node_remaining v.tree.level c (top index_space v.tree) ≡ [] = ap (branch_if index_space v.tree.root) q in
          let l : length (no_tree m₁) ≡ length m = length-set (set m₁ 8 0) 9 0 ∙ length-set m₁ 8 0 ∙ below.beside.same_length in
          let z : bits_set m₁ ≡ 0 = bits_are ∙ ap (total (nodes index_space (suc v.tree.level))) u in
          let h : all_zero (drop 10 (take 64 m₁)) ≡ true = rw (head_same m (root_in m) m₁ below.beside) read.head_zero in
          let r : reading fanout (no_tree m₁) ≡ some none =
          zeros_read fanout (no_tree m₁) (right_same m (no_tree m₁) l read.right)
          (all_zeros m₁ (right_same m m₁ below.beside.same_length read.right) z h below.unused) in
          rw d (done (no_tree m₁) (r ∙ ap (λ i. some (tree_if index_space v.tree.level v.tree.root i)) (sym q)) l)
