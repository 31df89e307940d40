-- Removal below a routing node: the child that holds the cell, and what became of the node once the child is left or gone.
use Prim.Native.Nat.{ℕ, suc, ◌+◌, ◌-◌, ◌/◌, ◌≤◌, ◌<◌}
use mathlib.Core.Path.{◌≡◌, refl, sym, ap, ◌∙◌}
use mathlib.Core.Bool.{Bool, true, false}
use mathlib.Core.List.{List, [], ◌∷◌, ◌++◌}
use mathlib.Core.Logic.{◌⊎◌, inl, inr}
use mathlib.Core.Option.{some-injective}
use native.Mathlib.Omega.{arith}
use native.Mathlib.Numerals.{add-one}
use lib.ListN.{length, get_or, set, take, drop, length-set}
use lib.Seq.{set_split}
use Rattle.polygons.proofs.Booleans.{not_both}
use Rattle.geometry.specs.declared.rect.Cell.{Cell}
use Rattle.tree.specs.Lists.{total, not_empty}
use Rattle.tree.specs.Nodes.{Item, held, item_has, nodes}
use Rattle.tree.specs.Sound.{SoundItem}
use Rattle.tree.specs.Remove.{other, without}
use Rattle.tree.proofs.Counts.{total_append}
use Rattle.tree.proofs.Prune.{prune_one}
use Rattle.tree.proofs.Lists.{length_zero}
use Rattle.plane.specs.Fanout.{fanout, index_space}
use Rattle.plane.proofs.Rects.{plane_space_laws}
use Rattle.memory.specs.Layout.{parts_of, part, in_use, bits_set, item_count, polygon_in, children_in}
use Rattle.memory.proofs.ReadingLaws.{NodeParts, FitsAs, node_parts_lem, fits_as, index_length, part_length, low_at, change_node, remove_node}
use Rattle.layout.specs.Beside.{Beside}
use Rattle.layout.specs.Nodes.{count_at}
use Rattle.layout.specs.Gap.{without_at}
use Rattle.layout.specs.PartSet.{set_part, freed, UsedPart}
use Rattle.layout.proofs.GapLists.{length_without}
use Rattle.layout.proofs.PartSetLaws.{set_part_lem, set_in_use, set_bits}
use Rattle.layout.proofs.BesideLaws.{beside_wider, beside_then, set_beside, set_unused, freed_beside, freed_unused, freed_bits}
use Rattle.walks.specs.Walks.{has_test}
use Rattle.walks.specs.Children.{NoneBefore, ChildHas}
use Rattle.walks.proofs.ChildLaws.{blank, branch_count, in_row, in_branches, child_reads, child_from, child_below, child_polygon, child_sound, child_sound_walk, child_node}
use Rattle.removal.specs.Below.{node_remaining, TakesItem, NodeShorter, NodeFreed, BranchTaken, Removable, RemovedBelow}
use Rattle.removal.proofs.TreeLaws.{total_at, without_at_lem, holder, holder_has, has_holds}
use Rattle.removal.proofs.BelowLaws.{removed_remaining, removed_gone, fits_dropped, fits_kept}

-- the one element of a list
record Only {A : Type 0} (l : List A) : Type 0 where
  item : A
  is : l ≡ item ∷ []

only : {A : Type 0} (l : List A) → true ≡ not_empty l → length l ≤ 1 → Only l
only [] e h = let z : ◌≡◌ {A = ℕ} 0 1 = cc in absurd (omega arith)
only (a ∷ []) e h = record { item = a; is = refl }
only (a ∷ b ∷ l) e h = absurd (omega arith)

not_remaining : {A : Type 0} (l : List A) → false ≡ not_empty l → l ≡ []
not_remaining [] e = refl
not_remaining (a ∷ l) e = let z : ◌≡◌ {A = ℕ} 0 1 = cc in absurd (omega arith)

module _ (n : ℕ) (m : List ℕ) (lo k : ℕ) (c : Cell) (v : Removable (suc n) m lo k c) where
  parts : NodeParts fanout n m lo k v.path.walk.node
  parts = node_parts_lem fanout n m lo k v.path.walk.node v.path.walk.reads

  fits : FitsAs fanout 1 m k
  fits = fits_as fanout 1 m k parts.fits

  few_parts : parts_of m ≤ 256
  few_parts = (index_length m v.path.walk.right).few_parts

  -- a child has the cell
  pub some_has : NoneBefore m k c (count_at m k) → ⊥
  unfolding held item_has has_test
  some_has q =
      let r = holder index_space (plane_space_laws fanout) (suc n) c v.path.walk.node.child
      (blank n m lo k v.path) v.holds in
      let s : r.at < count_at m k = (let e = branch_count n m lo k v.path in let f = r.inside in omega arith) in
      let t = holder_has index_space (plane_space_laws fanout) (suc n) c v.path.walk.node.poly _
      (child_sound n m lo k v.path r.at s) r.holds in
      not_both _ t (rw (child_polygon n m lo k v.path r.at s) (q r.at s))

  module _ (i : ℕ) (q : ChildHas m k c i) where
    here : i < length v.path.walk.node.child
    here = in_branches n m lo k v.path i q.inside

    child_has : item_has index_space (suc n) (get_or v.path.walk.node.child i (blank n m lo k v.path)) c
        ≡ true
    unfolding item_has has_test
    child_has = rw (child_polygon n m lo k v.path i q.inside) q.has

    -- the cell can be removed below the child
    pub child_removable : Removable n m (low_at lo (children_in (part m k)) i) (get_or (children_in (part m k)) i 0) c
    unfolding SoundItem held
    child_removable = record {
      path = child_sound_walk n m lo k v.path i q.inside;
      unused = v.unused;
      holds = rw (child_node n m lo k v.path i q.inside)
          (has_holds index_space (plane_space_laws fanout) (suc n) c v.path.walk.node.poly
          v.path.walk.node.child i (blank n m lo k v.path) v.path.sound.each v.path.sound.apart
          here child_has v.holds);
    }

    -- what is left of the branches
    branches_remaining : without index_space (suc n) c v.path.walk.node.child
        ≡ take i v.path.walk.node.child ++
        (node_remaining n c (get_or v.path.walk.node.child i (blank n m lo k v.path)) ++ drop (i + 1)
        v.path.walk.node.child)
    unfolding SoundItem
    branches_remaining =
        without_at_lem index_space (plane_space_laws fanout) (suc n) c v.path.walk.node.poly
        v.path.walk.node.child i (blank n m lo k v.path) v.path.sound.each v.path.sound.apart
        here child_has

    module _ (m₁ : List ℕ) (t : Bool) (r : RemovedBelow n m (low_at lo (children_in (part m k)) i) (get_or (children_in (part m k)) i 0) c m₁ t) where
      child_was : r.node ≡ get_or v.path.walk.node.child i (blank n m lo k v.path)
      child_was = some-injective _ _ (sym r.before ∙ child_reads n m lo k v.path i q.inside)

      -- the node's own part is as it was
      part_kept : part m₁ k ≡ part m k
      part_kept = r.beside.parts k (inr (child_below n m lo k v.path i q.inside))

      use_kept : in_use m₁ k ≡ in_use m k
      use_kept = r.beside.in_use k v.path.walk.below (inr (child_below n m lo k v.path i q.inside))

      beside₁ : Beside m lo k m₁
      beside₁ =
          let b = child_below n m lo k v.path i q.inside in
          beside_wider m lo _ _ k m₁ (child_from n m lo k v.path i q.inside) (omega arith) r.beside

      -- the bits fall with the nodes
      bits₁ : bits_set m₁ + total (nodes index_space (suc n)) v.path.walk.node.child
          ≡ bits_set m + total (nodes index_space (suc n))
          (without index_space (suc n) c v.path.walk.node.child)
      bits₁ =
          let f = nodes index_space (suc n) in
          let bs = v.path.walk.node.child in
          let l = node_remaining n c (get_or bs i (blank n m lo k v.path)) in
          let a = total_at f bs i (blank n m lo k v.path) here in
          let b : total f (without index_space (suc n) c bs) ≡ total f (take i bs) + (total f l + total f (drop (i + 1) bs)) =
          ap (total f) branches_remaining ∙ total_append f (take i bs) (l ++ drop (i + 1) bs) ∙ ap (λ (x : ℕ). total f (take i bs) + x) (total_append f l (drop (i + 1) bs)) in
          let e : bits_set m₁ + f (get_or bs i (blank n m lo k v.path))
          ≡ bits_set m + total f l = rw child_was at r.bits in
          omega arith

      parts₁ : (j : ℕ) → lo ≤ j → j < k → (j < low_at lo (children_in (part m k)) i) ⊎ (get_or (children_in (part m k)) i 0 < j) → part m₁ j ≡ part m j
      parts₁ j a b o = r.beside.parts j o

      uses₁ : (j : ℕ) → lo ≤ j → j < k → (j < low_at lo (children_in (part m k)) i) ⊎ (get_or (children_in (part m k)) i 0 < j) → in_use m₁ j ≡ in_use m j
      uses₁ j a b o = r.beside.in_use j (let h = v.path.walk.below in omega arith) o

      parts_are : parts_of m₁ ≡ parts_of m
      parts_are = ap (λ (x : ℕ). (x - 64) / 128) r.beside.same_length

      -- the child is left as y
      child_remaining : (y : Item index_space (suc n))
          → node_remaining n c (get_or v.path.walk.node.child i (blank n m lo k v.path)) ≡ y ∷ []
          → RemovedBelow (suc n) m lo k c m₁ true
      child_remaining y e =
          let bs = v.path.walk.node.child in
          let w : without index_space (suc n) c bs ≡ set bs i y = branches_remaining
          ∙ rw (e, add-one) (sym (set_split bs i y here)) in
          let s = length-set bs i y in
          let z = here in
          let b = bits₁ in
          let u = ap (total (nodes index_space (suc n))) w in
          removed_remaining (suc n) m lo k c m₁ v.path.walk.node v.path.walk.reads r.unused beside₁
          (set bs i y) w (omega arith)
          (change_node fanout m m₁ parts_are n lo k i v.path.walk.node v.path.walk.reads
          (in_row n m lo k v.path i q.inside) parts₁ uses₁
          (fits_kept 1 m k m₁ parts.fits r.beside.same_length part_kept use_kept) v.path.walk.node.poly
          (parts.polygon ∙ ap polygon_in (sym part_kept)) y (ap children_in part_kept) (r.after y (rw child_was e)))
          (omega arith)

      pub child_stays : t ≡ true → RemovedBelow (suc n) m lo k c m₁ true
      child_stays e =
          let bs = v.path.walk.node.child in
          let x = only (node_remaining n c (get_or bs i (blank n m lo k v.path))) (rw (e, child_was) at r.remaining_is)
          (prune_one index_space (other index_space c) (λ p. p) (suc n)
          (get_or bs i (blank n m lo k v.path))) in
          child_remaining x.item x.is

      used₁ : UsedPart m₁ k
      used₁ = record {
        below = v.path.walk.below;
        ends = rw r.beside.same_length v.path.walk.ends;
        used =
            use_kept ∙ fits.used;
      }

      -- the child's branch can be taken out
      pub branch_takes : TakesItem m₁ k i
      branch_takes = record {
        used = used₁;
        item = rw part_kept (record {
          node = record { length_is = part_length m k fits.below; few_rects = fits.few_rects; few_items = fits.few_items };
          inside = q.inside;
        });
      }

      few_parts₁ : parts_of m₁ ≤ 256
      few_parts₁ = rw parts_are few_parts

      module _ (e : t ≡ false) where
        branches_without : without index_space (suc n) c v.path.walk.node.child
            ≡ without_at i v.path.walk.node.child
        branches_without = branches_remaining
            ∙ rw (not_remaining (node_remaining n c (get_or v.path.walk.node.child i (blank n m lo k v.path)))
            (rw (e, child_was) at r.remaining_is))

        remaining_length : length (without_at i v.path.walk.node.child) ≡ count_at m k - 1
        remaining_length = length_without i v.path.walk.node.child here
            ∙ ap (λ (x : ℕ). x - 1) (branch_count n m lo k v.path)

        count₁ : item_count (part m₁ k) ≡ count_at m k
        count₁ = ap item_count part_kept

        -- the node lost one of several branches
        node_remaining_lem : (m₂ : List ℕ) → NodeShorter m₁ k i m₂ → RemovedBelow (suc n) m lo k c m₂ true
        node_remaining_lem m₂ z =
            let p = z.dropped.new in
            let d = z.dropped.branch.item in
            let size : length p ≡ 128 = d.same_length ∙ ap length part_kept ∙ part_length m k fits.below in
            let ends = used₁.ends in
            let same = set_part_lem m₁ k p ends size in
            let b₂ = set_beside m₁ k used₁ few_parts₁ r.unused p size in
            let long = b₂.same_length ∙ r.beside.same_length in
            let f = z.several in
            let g = remaining_length in
            let h = count₁ in
            let o = set_bits m₁ k p ends size in
            let b = bits₁ in
            let u = ap (total (nodes index_space (suc n))) branches_without in
            let kids : children_in (part (set_part m₁ k p) k) ≡ without_at i (children_in (part m k)) = ap children_in same ∙ z.dropped.branch.children ∙ ap (λ (l : List ℕ). without_at i (children_in l)) part_kept in
            rw z.dropped.memory
            (removed_remaining (suc n) m lo k c (set_part m₁ k p) v.path.walk.node v.path.walk.reads
            (set_unused m₁ k used₁ few_parts₁ r.unused p size)
            (beside_then m lo k m₁ _ beside₁ (beside_wider m₁ lo k k k _ v.path.walk.from (omega arith) b₂))
            (without_at i v.path.walk.node.child) branches_without (omega arith)
            (remove_node fanout m (set_part m₁ k p) (ap (λ (x : ℕ). (x - 64) / 128) long) n lo k i
            v.path.walk.node v.path.walk.reads (in_row n m lo k v.path i q.inside)
            (λ j x y w. b₂.parts j (inl y) ∙ parts₁ j x y w)
            (λ j x y w. b₂.in_use j (let l = v.path.walk.below in omega arith) (inl y) ∙ uses₁ j x y w)
            (fits_dropped 1 m k m₁ (set_part m₁ k p) p parts.fits long part_kept
            (set_in_use m₁ k p ends size k v.path.walk.below ∙ used₁.used) same d f)
            v.path.walk.node.poly (parts.polygon
            ∙ sym (ap polygon_in same ∙ d.polygon ∙ ap polygon_in part_kept)) kids)
            (omega arith))

        -- the node lost its only branch
        node_gone : (m₂ : List ℕ) → NodeFreed m₁ k m₂ → RemovedBelow (suc n) m lo k c m₂ false
        unfolding total
        node_gone m₂ z =
            let b₂ = freed_beside m₁ k used₁ few_parts₁ r.unused in
            let f = z.last in
            let g = remaining_length in
            let h = count₁ in
            let o = freed_bits m₁ k used₁ few_parts₁ r.unused in
            let b = bits₁ in
            let w : without index_space (suc n) c v.path.walk.node.child ≡ [] = branches_without
            ∙ length_zero (without_at i v.path.walk.node.child) (omega arith) in
            let u : total (nodes index_space (suc n))
            (without index_space (suc n) c v.path.walk.node.child)
            ≡ 0 = ap (total (nodes index_space (suc n))) w in
            rw z.memory
            (removed_gone (suc n) m lo k c (freed m₁ k) v.path.walk.node v.path.walk.reads
            (freed_unused m₁ k used₁ few_parts₁ r.unused)
            (beside_then m lo k m₁ _ beside₁ (beside_wider m₁ lo k k k _ v.path.walk.from (omega arith) b₂))
            w (omega arith))

        pub node_removed : (m₂ : List ℕ) (s : Bool) → BranchTaken m₁ k i m₂ s → RemovedBelow (suc n) m lo k c m₂ s
        node_removed m₂ true z = node_remaining_lem m₂ z
        node_removed m₂ false z = node_gone m₂ z
