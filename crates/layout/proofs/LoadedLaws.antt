-- Nodes by value: with one more item they are the node of one more item, and their part is the image of a node with these items.
use Prim.Native.Nat.{ℕ, suc, ◌+◌, ◌*◌, ◌-◌, ◌≤◌, ◌<◌}
use mathlib.Core.Path.{◌≡◌, refl, sym, ap, ◌∙◌}
use mathlib.Core.List.{List, [], ◌∷◌, ◌++◌, append_assoc, flat_map}
use mathlib.Core.Bool.{Bool}
use native.Mathlib.Omega.{arith}
use lib.ListN.{length, get_or, take, drop, set, replicate, length-append, length-replicate, replicate-append-replicate}
use lib.Seq.{set-append_seam, append_snoc, get_or-take, get_or-drop}
use Rattle.polygons.proofs.ListLaws.{flat_map_append}
use Rattle.geometry.specs.declared.rect.Cell.{Cell}
use Rattle.geometry.specs.declared.rect.Rect.{Rect}
use Rattle.tree.proofs.Lists.{flat_map_one}
use Rattle.plane.specs.Lines.{CellEntry}
use Rattle.memory.specs.Layout.{part, item_count, entry_in}
use Rattle.memory.specs.Image.{padded, entry_numbers, node_part}
use Rattle.memory.proofs.PartImage.{length_padded, length_entries}
use Rattle.layout.specs.declared.entry.Entry.{Entry}
use Rattle.layout.specs.declared.node.Node.{Node}
use Rattle.layout.proofs.NodeLaws.{rest_is}
use Rattle.layout.specs.Nodes.{NodePart, child_in, count_at, child_at}
use Rattle.layout.specs.Entries.{tree_entry}
use Rattle.layout.specs.Items.{put_entry}
use Rattle.layout.specs.Loaded.{node_of, leaf_of, routing_of, node_in, child_among, entry_among, node_child, node_entry, with_entry, with_child}

-- a node without items is a leaf without entries, and a routing node without children
pub no_entries : node_of 0 [] ≡ leaf_of []
unfolding leaf_of flat_map
no_entries = refl

pub no_children : node_of 0 [] ≡ routing_of []
unfolding routing_of
no_children = refl

pub count_entries : (es : List CellEntry) → (leaf_of es).count ≡ length es
unfolding leaf_of node_of
count_entries es = refl

pub count_children : (ks : List ℕ) → (routing_of ks).count ≡ length ks
unfolding routing_of node_of
count_children ks = refl

pub entry_is : (n : Node) (e : CellEntry) (l : List ℕ) → l ≡ put_entry n.items n.count e → record { count = n.count + 1; items = l } ≡ with_entry n e
unfolding with_entry
entry_is n e l q = rw q

-- an entry of a part, among the numbers of its items
pub entry_placed : (p : List ℕ) (i : ℕ) (e : Entry) → tree_entry e ≡ entry_among (take (length p - 66) (drop 66 p)) i → e.cell ≡ (entry_in p i).cell
unfolding entry_among entry_in
entry_placed p i e q =
    let a : 66 + (3 * i + 1) ≡ 66 + 3 * i + 1 = omega arith in
    ap (λ (x : CellEntry). x.cell) q ∙ rw (rest_is p, get_or-drop 66 p (3 * i) 0, get_or-drop 66 p (3 * i + 1) 0, a)

-- What a loaded node has is what its part has.
module _ (p : List ℕ) (n : Node) (q : n ≡ node_in p) where
  pub loaded_count : n.count ≡ item_count p
  unfolding node_in
  loaded_count = rw q

  loaded_item : (x : ℕ) → x < 27 → get_or n.items x 0 ≡ get_or p (66 + x) 0
  unfolding node_in
  loaded_item x h = rw q (get_or-take 27 (drop 66 p) x 0 h ∙ get_or-drop 66 p x 0)

  pub loaded_child : (i j : ℕ) → i < 8 → j ≡ node_child n i → j ≡ child_in p i
  unfolding child_among
  loaded_child i j h e = e ∙ loaded_item i (omega arith)

  pub loaded_entry : (i : ℕ) → i < 8 → node_entry n i ≡ entry_in p i
  unfolding entry_among entry_in
  loaded_entry i h =
      let e : 66 + (3 * i + 1) ≡ 66 + 3 * i + 1 = omega arith in
      let f : 66 + (3 * i + 2) ≡ 66 + 3 * i + 2 = omega arith in
      rw (loaded_item (3 * i) (omega arith), loaded_item (3 * i + 1) (omega arith), loaded_item (3 * i + 2) (omega arith), e, f)

  pub loaded_test : (u : CellEntry → Bool) (i : ℕ) (b : Bool) → i < 8 → b ≡ u (node_entry n i) → b ≡ u (entry_in p i)
  loaded_test u i b h e = e ∙ ap u (loaded_entry i h)

  pub loaded_cell : (i : ℕ) (c : Cell) → i < 8 → c ≡ (node_entry n i).cell → c ≡ (entry_in p i).cell
  loaded_cell i c h e = e ∙ ap (λ (x : CellEntry). x.cell) (loaded_entry i h)

  pub loaded_is : (i : ℕ) (e : Entry) → i < 8 → tree_entry e ≡ node_entry n i → tree_entry e ≡ entry_in p i
  loaded_is i e h q = q ∙ loaded_entry i h

-- an entry of a leaf's part, by the leaf as it was loaded
module _ (p : List ℕ) (v : NodePart p) (n : Node) (q : n ≡ node_in p) (i : ℕ) (h : i < n.count) where
  part_small : i < 8
  part_small = let c = loaded_count p n q in let f = v.few_items in omega arith

  pub part_nine : i < 9
  part_nine = let s = part_small in omega arith

  pub part_cell : (c : Cell) → c ≡ (node_entry n i).cell → c ≡ (entry_in p i).cell
  part_cell c e = loaded_cell p n q i c part_small e

-- the same of the node at part k
module _ (m : List ℕ) (k : ℕ) (n : Node) (q : n ≡ node_in (part m k)) where
  pub count_at_lem : n.count ≡ count_at m k
  count_at_lem = loaded_count (part m k) n q

  pub child_at_lem : (i j : ℕ) → i < 8 → j ≡ node_child n i → j ≡ child_at m k i
  child_at_lem i j h e = loaded_child (part m k) n q i j h e

-- the items of a node are as many numbers as it has room for
pub routing_length : (ks : List ℕ) → length ks ≤ 27 → length (routing_of ks).items ≡ 27
unfolding routing_of node_of
routing_length ks h = length_padded 27 ks h

-- a number in place of the first zero behind a list
set_padded : (n : ℕ) (l : List ℕ) (at a : ℕ) → length l ≡ at → at < n → set (padded n l) at a ≡ padded n (l ++ (a ∷ []))
unfolding padded
set_padded n l at a q h =
    let r : ℕ = n - length l - 1 in
    let e : n - length l ≡ suc r = omega arith in
    let f : n - length (l ++ (a ∷ [])) ≡ r = rw length-append (omega arith) in
    ap (λ (j : ℕ). set (l ++ replicate (n - length l) 0) j a) (sym q)
    ∙ ap (λ (j : ℕ). set (l ++ replicate j 0) (length l) a) e ∙ set-append_seam l 0 (replicate r 0) a
    ∙ sym (append_snoc l a (replicate r 0)) ∙ ap (λ (j : ℕ). (l ++ (a ∷ [])) ++ replicate j 0) (sym f)

-- one more child
pub child_more : (ks : List ℕ) (k : ℕ) → length ks < 27 → with_child (routing_of ks) k ≡ routing_of (ks ++ (k ∷ []))
unfolding with_child routing_of node_of
child_more ks k h = rw (set_padded 27 ks (length ks) k refl h, length-append)

-- one more entry
pub entry_more : (es : List CellEntry) (e : CellEntry) → length es < 9 → with_entry (leaf_of es) e ≡ leaf_of (es ++ (e ∷ []))
unfolding with_entry leaf_of node_of put_entry entry_numbers
entry_more es e h =
    let l : List ℕ = flat_map entry_numbers es in
    let c : ℕ = length es in
    let x = e.cell.x in
    let y = e.cell.y in
    let t = e.tag in
    let n = length_entries es in
    let n₁ : length (l ++ (x ∷ [])) ≡ 3 * c + 1 = rw length-append (omega arith) in
    let n₂ : length (l ++ (x ∷ []) ++ (y ∷ [])) ≡ 3 * c + 2 = rw (length-append, n₁) (omega arith) in
    let one = set_padded 27 l (3 * c) x n (omega arith) in
    let two = set_padded 27 (l ++ (x ∷ [])) (3 * c + 1) y n₁ (omega arith) in
    let three = set_padded 27 (l ++ (x ∷ []) ++ (y ∷ [])) (3 * c + 2) t n₂ (omega arith) in
    let all : l ++ (x ∷ []) ++ (y ∷ []) ++ (t ∷ []) ≡ flat_map entry_numbers (es ++ (e ∷ [])) =
    ap (λ (z : List ℕ). z ++ (t ∷ [])) (append_assoc l (x ∷ []) (y ∷ [])) ∙ append_assoc l (x ∷ y ∷ []) (t ∷ [])
    ∙ sym (flat_map_append entry_numbers es (e ∷ []) ∙ ap (λ (z : List ℕ). l ++ z) (flat_map_one entry_numbers e)) in
    rw (one, two, three, all, length-append)

-- a list filled up twice
pub padded_twice : (n k : ℕ) (l : List ℕ) → n ≤ k → padded k (padded n l) ≡ padded k l
unfolding padded
padded_twice n k l h =
    let a : ℕ = n - length l in
    let e : length (l ++ replicate a 0) ≡ length l + a = rw (length-append, length-replicate) in
    let f : a + (k - (length l + a)) ≡ k - length l = omega arith in
    append_assoc l (replicate a 0) (replicate (k - length (l ++ replicate a 0)) 0)
    ∙ ap (λ (j : ℕ). l ++ (replicate a 0 ++ replicate (k - j) 0)) e
    ∙ ap (λ (z : List ℕ). l ++ z) (replicate-append-replicate a (k - (length l + a)) 0) ∙ ap (λ (j : ℕ). l ++ replicate j 0) f

-- the part of a node by value, from its items
pub leaf_part : (p : List Rect) (es : List CellEntry) → node_part p (leaf_of es).count (leaf_of es).items ≡ node_part p (length es) (flat_map entry_numbers es)
unfolding leaf_of node_of node_part
leaf_part p es = rw (padded_twice 27 62 (flat_map entry_numbers es) (omega arith))

pub routing_part : (p : List Rect) (ks : List ℕ) → node_part p (routing_of ks).count (routing_of ks).items ≡ node_part p (length ks) ks
unfolding routing_of node_of node_part
routing_part p ks = rw (padded_twice 27 62 ks (omega arith))
