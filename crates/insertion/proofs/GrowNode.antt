-- A routing node on a path, written in place after its child on the path.
use Prim.Native.Nat.{ℕ, zero, suc, ◌-◌, ◌/◌, ◌≤◌, ◌<◌}
use mathlib.Core.Path.{◌≡◌, refl, sym, ap, ◌∙◌, subst}
use mathlib.Core.List.{List, [], ◌∷◌}
use mathlib.Core.Logic.{◌⊎◌, inl, inr}
use mathlib.Core.Option.{some}
use native.Mathlib.Omega.{arith}
use native.Mathlib.Nat.{le_refl}
use lib.ListN.{length, get_or, set}
use Rattle.path.specs.declared.level.Level.{Level}
use Rattle.geometry.specs.declared.rect.Rect.{Rect}
use Rattle.tree.specs.Lists.{total}
use Rattle.tree.specs.Nodes.{Item, nodes}
use Rattle.plane.specs.Lines.{CellEntry}
use Rattle.plane.specs.Fanout.{fanout, index_space}
use Rattle.memory.specs.Layout.{parts_of, part, in_use, children_in}
use Rattle.memory.specs.Image.{node_part}
use Rattle.memory.specs.Reading.{read_node}
use Rattle.memory.proofs.PartImage as image
use Rattle.memory.proofs.ReadingLaws.{NodeParts, FitsAs, node_parts_lem, fits_as, index_length, part_length, low_at, low_from, low_to, part_below, row_at_lem, row_length, node_lower, frame, change_node}
use Rattle.layout.specs.Beside.{Beside}
use Rattle.layout.specs.Loaded.{routing_of, node_in}
use Rattle.layout.specs.Nodes.{count_at}
use Rattle.layout.specs.PartSet.{set_part, UsedPart}
use Rattle.layout.proofs.BesideLaws.{beside_wider, beside_then}
use Rattle.layout.proofs.LoadedLaws.{routing_part}
use Rattle.layout.proofs.LoadedParts.{loaded_routing}
use Rattle.layout.proofs.NodeLaws.{child_in_lem}
use Rattle.walks.specs.Walks.{Walkable}
use Rattle.walks.proofs.WalkLoop.{children_count}
use Rattle.path.specs.Path.{part_on, place_on, polygon_on}
use Rattle.tree_after.specs.Path.{row_at}
use Rattle.tree_after.proofs.PathLaws.{path_node, path_place}
use Rattle.tree_after.proofs.RowLaws.{row_of}
use Rattle.insertion.specs.Growing.{grown_items, grown_node, replaced, node_grown, Growing, GrownNode, Grown}
use Rattle.insertion.proofs.GrowPart.{ImagePut, image_put}

-- a sum in which one element is replaced by one of the same size
total_set : {A : Type 0} (f : A → ℕ) (l : List A) (i : ℕ) (a d : A) → i < length l → f a ≡ f (get_or l i d)
    → total f (set l i a) ≡ total f l
unfolding total
total_set f [] i a d h e = absurd (omega arith)
total_set f (b ∷ l) zero a d h e = omega arith
total_set f (b ∷ l) (suc i) a d h e = let ih = total_set f l i a d (omega arith) e in omega arith

-- a routing node, whose child on the path was written before it
module _ (n : ℕ) (path : List Level) (m : List ℕ) (e : CellEntry) (g : Growing (suc n) path m) (m₁ : List ℕ) (below : Grown n path m e m₁) where
  abbrev k : ℕ
  k = part_on path (suc n)

  abbrev i : ℕ
  i = place_on path (suc n)

  abbrev ks : List ℕ
  ks = children_in (part m k)

  walk : Walkable (suc n) m 0 k
  walk = (path_node path m (suc n) g.from).walk

  fits : FitsAs fanout 1 m k
  fits = fits_as fanout 1 m k (node_parts_lem fanout n m 0 k walk.node walk.reads).fits

  in_node : i < count_at m k
  in_node = path_place path m (suc n) (omega arith) g.from

  children : length ks ≡ count_at m k
  children = children_count (suc n) m 0 k walk

  in_row : i < length ks
  in_row = let c = children in let h = in_node in omega arith

  child_is : part_on path n ≡ get_or ks i 0
  child_is = g.linked.child n (omega arith) ∙ sym (child_in_lem (part m k) i in_node)

  -- stands for a child where there is none
  blank : Item index_space (suc n)
  blank = record { poly = []; child = [] }

  -- The node as it read with its subtree in the parts from lo on.
  module _ (lo : ℕ) (b : Item index_space (suc (suc n))) (reads : read_node fanout (suc n) m lo k ≡ some b) where
    parts : NodeParts fanout n m lo k b
    parts = node_parts_lem fanout n m lo k b reads

    abbrev low : ℕ
    low = low_at lo ks i

    child_from : lo ≤ low
    child_from = low_from (read_node fanout n m) lo k ks i b.child parts.row

    child_to : low ≤ part_on path n
    child_to = rw child_is (low_to (read_node fanout n m) lo k ks i b.child parts.row in_row)

    child_below : part_on path n < k
    child_below = rw child_is (part_below (read_node fanout n m) lo k ks i b.child parts.row in_row)

    child_reads : read_node fanout n m low (part_on path n) ≡ some (get_or b.child i blank)
    child_reads = ap (read_node fanout n m low) child_is
        ∙ row_at_lem (read_node fanout n m) lo k ks i b.child blank parts.row in_row

    child_grown : GrownNode n path m e m₁ low (get_or b.child i blank)
    child_grown = below.node low (get_or b.child i blank) child_to child_reads

    row_is : row_at n m k ≡ b.child
    row_is = row_of n m k b (node_lower fanout (suc n) m lo 0 k b (omega arith) reads)

    in_branches : i < length b.child
    in_branches =
        let l = row_length (read_node fanout n m) lo k ks b.child parts.row in let h = in_row in omega arith

    as_many : nodes index_space (suc (suc n)) (grown_node (suc n) path m e) ≡ nodes index_space (suc (suc n)) b
    unfolding nodes grown_items
    as_many =
        let t =
        total_set (nodes index_space (suc n)) b.child i (grown_node n path m e) blank in_branches child_grown.as_many in
        rw row_is (omega arith)

  -- its own part is as it was
  own_kept : part m₁ k ≡ part m k
  own_kept = (child_grown 0 walk.node walk.reads).beside.parts k (inr (child_below 0 walk.node walk.reads))

  same_parts : parts_of m₁ ≡ parts_of m
  same_parts = ap (λ (x : ℕ). (x - 64) / 128) below.same_length

  few_parts : parts_of m₁ ≤ 256
  few_parts = let f = (index_length m walk.right).few_parts in let q = same_parts in omega arith

  used : UsedPart m₁ k
  used =
      record { below = walk.below; ends = (let l = below.same_length in let x = walk.ends in omega arith); used = below.in_use k walk.below ∙ fits.used }

  abbrev p : List Rect
  p = polygon_on path (suc n)

  node_is : node_in (part m₁ k) ≡ routing_of ks
  node_is = ap node_in own_kept
      ∙ loaded_routing (part m k) (part_length m k fits.below) fits.few_rects fits.few_items fits.rest

  abbrev node' : List ℕ
  node' = set_part m₁ k (node_part p (length ks) ks)

  new_node : node_grown (suc n) path m₁ ≡ node'
  new_node = ap (replaced m₁ k p) node_is ∙ ap (set_part m₁ k) (routing_part p ks)

  some_rects : 1 ≤ length p
  some_rects = (g.linked.fine (suc n) (omega arith)).lower

  few_rects : length p ≤ 16
  few_rects = (g.linked.fine (suc n) (omega arith)).upper

  some_children : 1 ≤ length ks
  some_children = let c = children in let f = fits.some_items in omega arith

  few_children : length ks ≤ 8
  few_children = let c = children in let f = fits.few_items in omega arith

  numbers_fit : length ks ≤ 62
  numbers_fit = let f = few_children in omega arith

  put : ImagePut m₁ k p (length ks) ks node'
  put =
      image_put m₁ k used few_parts below.unused p (length ks) ks some_rects few_rects some_children few_children numbers_fit

  own_parts : parts_of node' ≡ parts_of m₁
  own_parts = ap (λ (x : ℕ). (x - 64) / 128) put.beside.same_length

  module _ (lo : ℕ) (b : Item index_space (suc (suc n))) (from : lo ≤ k) (reads : read_node fanout (suc n) m lo k ≡ some b) where
    child : GrownNode n path m e m₁ (low lo b reads) (get_or b.child i blank)
    child = child_grown lo b reads

    -- the child's subtree is not touched by the write
    child_read : read_node fanout n node' (low lo b reads) (get_or ks i 0) ≡ some (grown_node n path m e)
    child_read =
        let c = child_below lo b reads in
        let z = walk.below in
        ap (read_node fanout n node' (low lo b reads)) (sym child_is)
        ∙ frame fanout m₁ node' own_parts n (low lo b reads) (part_on path n) (child_to lo b reads) (λ j x y. put.beside.parts j (inl (omega arith))) (λ j x y. put.in_use j (omega arith))
        ∙ child.reads

    parts_kept : (j : ℕ) → lo ≤ j → j < k → (j < low_at lo ks i) ⊎ (get_or ks i 0 < j) → part node' j ≡ part m j
    parts_kept j x y o = put.beside.parts j (inl y)
        ∙ child.beside.parts j (subst (λ (z : ℕ). (j < low_at lo ks i) ⊎ (z < j)) (sym child_is) o)

    uses_kept : (j : ℕ) → lo ≤ j → j < k → (j < low_at lo ks i) ⊎ (get_or ks i 0 < j) → in_use node' j ≡ in_use m j
    uses_kept j x y o = let z = walk.below in put.in_use j (omega arith) ∙ below.in_use j (omega arith)

    node_read : read_node fanout (suc n) node' lo k ≡ some (grown_node (suc n) path m e)
    unfolding grown_items
    node_read =
        change_node fanout m node' (own_parts ∙ same_parts) n lo k i b reads in_row parts_kept uses_kept
        (put.fits 1 (omega arith))
        p put.polygon
        (grown_node n path m e) (ap children_in put.part_is ∙ image.part_children p (length ks) ks few_rects numbers_fit refl) child_read
        ∙ ap (λ (l : List (Item index_space (suc n))). some (record { poly = p; child = set l i (grown_node n path m e) })) (sym (row_is lo b reads))

    node_beside : Beside m lo k node'
    node_beside =
        let c = child_below lo b reads in
        beside_then m lo k m₁ node' (beside_wider m lo (low lo b reads) (part_on path n) k m₁ (child_from lo b reads) (omega arith) child.beside) (beside_wider m₁ lo k k k node' from (le_refl k) put.beside)

  node_grown_lem : Grown (suc n) path m e node'
  node_grown_lem = record {
    same_length = put.beside.same_length ∙ below.same_length;
    bits = put.bits ∙ below.bits;
    in_use = λ j h. put.in_use j h ∙ below.in_use j h;
    unused = put.unused;
    node = λ lo b h r. record { reads = node_read lo b h r; as_many = as_many lo b r; beside = node_beside lo b h r };
  }

  pub grown_node_lem : (m' : List ℕ) → m' ≡ node_grown (suc n) path m₁ → Grown (suc n) path m e m'
  grown_node_lem m' q = subst (λ (x : List ℕ). Grown (suc n) path m e x) (sym (q ∙ new_node)) node_grown_lem
