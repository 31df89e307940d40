-- Writing nodes in several goes: nothing, rows one after another, a part, a node on top of its children; and the loop over a node's items that
-- keeps their top nodes as the children of a node.
use Prim.Native.Nat.{ℕ, suc, ◌+◌, ◌*◌, ◌-◌, ◌≤◌, ◌<◌}
use mathlib.Core.Path.{◌≡◌, refl, sym, ap, ◌∙◌}
use mathlib.Core.List.{List, [], ◌∷◌, ◌++◌, append_assoc, append-nil, flat_map}
use native.Mathlib.Omega.{arith}
use lib.ListN.{length, take, length-append}
use Rattle.polygons.proofs.ListLaws.{flat_map_append}
use Rattle.geometry.specs.declared.rect.Rect.{Rect}
use Rattle.tree.specs.Lists.{total}
use Rattle.tree.specs.Nodes.{Item, nodes}
use Rattle.tree.proofs.Lists.{flat_map_one}
use Rattle.tree.proofs.Counts.{total_append}
use Rattle.plane.specs.Lines.{CellEntry}
use Rattle.plane.specs.Fanout.{fanout, index_space}
use Rattle.memory.specs.Image.{node_part, entry_numbers, write_row, write_node}
use Rattle.memory.proofs.NodeImage.{length_row, length_node}
use Rattle.layout.specs.declared.node.Node.{Node}
use Rattle.layout.specs.Loaded.{node_of, routing_of, with_child}
use Rattle.layout.specs.Parts.{PartPut}
use Rattle.layout.proofs.LoadedLaws.{no_children, count_children, child_more, routing_part}
use Rattle.tree_after.specs.Writes.{Writes}

-- the numbers of some parts, one after another
abbrev pub numbers : List (List ℕ) → List ℕ
numbers ps = flat_map (λ p. p) ps

-- the parts of some branches and the parts of their top nodes
abbrev pub parts_from : (n next : ℕ) → List (Item index_space (suc n)) → List (List ℕ)
parts_from n next bs = (write_row (write_node fanout n) next bs).parts

abbrev pub branches_from : (n next : ℕ) → List (Item index_space (suc n)) → List ℕ
branches_from n next bs = (write_row (write_node fanout n) next bs).roots

-- how many nodes some branches have
abbrev pub nodes_of : (n : ℕ) → List (Item index_space (suc n)) → ℕ
nodes_of n bs = total (nodes index_space (suc n)) bs

-- rows that follow one another
module _ {B : Type 0} (write : ℕ → B → List (List ℕ)) where
  pub row_parts_append : (next : ℕ) (bs cs : List B) →
      (write_row write next (bs ++ cs)).parts ≡ (write_row write next bs).parts ++ (write_row write (next + length (write_row write next bs).parts) cs).parts
  unfolding write_row
  row_parts_append next [] cs = let e : next + 0 ≡ next = omega arith in rw e
  row_parts_append next (b ∷ bs) cs =
      let own = write next b in
      let after = (write_row write (next + length own) bs).parts in
      let e : next + length own + length after ≡ next + length (own ++ after) = rw length-append (omega arith) in
      ap (λ (l : List (List ℕ)). own ++ l) (row_parts_append (next + length own) bs cs)
      ∙ sym (append_assoc own after _) ∙ ap (λ (k : ℕ). (own ++ after) ++ (write_row write k cs).parts) e

  pub row_roots_append : (next : ℕ) (bs cs : List B) →
      (write_row write next (bs ++ cs)).roots ≡ (write_row write next bs).roots ++ (write_row write (next + length (write_row write next bs).parts) cs).roots
  unfolding write_row
  row_roots_append next [] cs = let e : next + 0 ≡ next = omega arith in rw e
  row_roots_append next (b ∷ bs) cs =
      let own = write next b in
      let after = (write_row write (next + length own) bs).parts in
      let e : next + length own + length after ≡ next + length (own ++ after) = rw length-append (omega arith) in
      ap (λ (l : List ℕ). (next + length own - 1) ∷ l)
      (row_roots_append (next + length own) bs cs ∙ ap (λ (k : ℕ). (write_row write (next + length own) bs).roots ++ (write_row write k cs).roots) e)

-- there are as many parts as nodes
pub length_parts : (n next : ℕ) (bs : List (Item index_space (suc n))) → length (parts_from n next bs) ≡ nodes_of n bs
length_parts n next bs = length_row (write_node fanout n) (nodes index_space (suc n)) (length_node fanout n) next bs

-- nothing is written for no branch
pub writes_none : (n : ℕ) (w : List ℕ) (next : ℕ) → Writes n w next [] w next
unfolding write_row flat_map total
writes_none n w next = record { written = sym (append-nil _); next_is = omega arith; same_length = refl }

-- some branches, and then some more
pub writes_more : (n : ℕ) (w : List ℕ) (next : ℕ) (bs : List (Item index_space (suc n))) (w₁ : List ℕ) (next₁ : ℕ)
    (cs : List (Item index_space (suc n))) (w₂ : List ℕ) (next₂ : ℕ)
    → Writes n w next bs w₁ next₁ → Writes n w₁ next₁ cs w₂ next₂ → Writes n w next (bs ++ cs) w₂ next₂
writes_more n w next bs w₁ next₁ cs w₂ next₂ x y =
    let a = x.next_is in
    let b = y.next_is in
    let l = length_parts n next bs in
    let t = total_append (nodes index_space (suc n)) bs cs in
    let e : next₁ ≡ next + length (parts_from n next bs) = omega arith in
    let all : parts_from n next (bs ++ cs) ≡ parts_from n next bs ++ parts_from n next₁ cs =
    row_parts_append (write_node fanout n) next bs cs ∙ ap (λ (k : ℕ). parts_from n next bs ++ parts_from n k cs) (sym e) in
    record {
      written =
          y.written ∙ ap (λ (z : List ℕ). z ++ numbers (parts_from n next₁ cs)) x.written
          ∙ append_assoc (take (64 + 128 * next) w) (numbers (parts_from n next bs)) (numbers (parts_from n next₁ cs))
          ∙ ap (λ (z : List ℕ). take (64 + 128 * next) w ++ z)
          (sym (flat_map_append (λ p. p) (parts_from n next bs) (parts_from n next₁ cs)) ∙ ap numbers (sym all));
      next_is = omega arith;
      same_length = y.same_length ∙ x.same_length;
    }

-- A leaf written to the part next.
pub writes_leaf : (w : List ℕ) (next : ℕ) (p : List Rect) (es : List CellEntry) (w₁ : List ℕ)
    → PartPut w next (node_part p (length es) (flat_map entry_numbers es)) w₁ → Writes 0 w next (record { poly = p; child = es } ∷ []) w₁ (next + 1)
unfolding write_row write_node
writes_leaf w next p es w₁ x =
    let b : Item index_space 1 = record { poly = p; child = es } in
    let l : 1 ≡ nodes_of 0 (b ∷ []) = length_parts 0 next (b ∷ []) in
    record {
      written = x.written ∙ ap (λ (z : List ℕ). take (64 + 128 * next) w ++ z) (sym (flat_map_one (λ q. q) (node_part p (length es) (flat_map entry_numbers es))));
      next_is = omega arith;
      same_length = x.same_length;
    }

-- A routing node written behind its children.
pub writes_node : (n : ℕ) (w : List ℕ) (next : ℕ) (p : List Rect) (bs : List (Item index_space (suc n))) (w₁ : List ℕ) (next₁ : ℕ) (w₂ : List ℕ)
    → Writes n w next bs w₁ next₁ → PartPut w₁ next₁ (node_part p (length bs) (branches_from n next bs)) w₂
    → Writes (suc n) w next (record { poly = p; child = bs } ∷ []) w₂ (next₁ + 1)
unfolding write_row write_node
writes_node n w next p bs w₁ next₁ w₂ x y =
    let own : List ℕ = node_part p (length bs) (branches_from n next bs) in
    let b : Item index_space (suc (suc n)) = record { poly = p; child = bs } in
    let whole : parts_from (suc n) next (b ∷ []) ≡ parts_from n next bs ++ (own ∷ []) = append-nil _ in
    let l = length_parts (suc n) next (b ∷ []) in
    let k = length_parts n next bs in
    let s = ap length whole ∙ length-append (parts_from n next bs) (own ∷ []) in
    let a = x.next_is in
    record {
      written =
          y.written ∙ ap (λ (z : List ℕ). z ++ own) x.written ∙ append_assoc (take (64 + 128 * next) w) (numbers (parts_from n next bs)) own
          ∙ ap (λ (z : List ℕ). take (64 + 128 * next) w ++ z)
          (ap (λ (z : List ℕ). numbers (parts_from n next bs) ++ z) (sym (flat_map_one (λ q. q) own))
          ∙ sym (flat_map_append (λ q. q) (parts_from n next bs) (own ∷ [])) ∙ ap numbers (sym whole));
      next_is = omega arith;
      same_length = y.same_length ∙ x.same_length;
    }

-- While the items of a node are written one after another: the branches bs were written so far, and the node has their top nodes as children.
pub record Row (n : ℕ) (w : List ℕ) (next : ℕ) (bs : List (Item index_space (suc n))) (w₁ : List ℕ) (next₁ : ℕ) (node : Node) : Type 0 where
  pub written : Writes n w next bs w₁ next₁
  pub count_is : node.count ≡ length bs
  pub node_is : node ≡ routing_of (branches_from n next bs)

-- the part of that node
pub row_part : (n : ℕ) (w : List ℕ) (next : ℕ) (bs : List (Item index_space (suc n))) (w₁ : List ℕ) (next₁ : ℕ) (node : Node) → Row n w next bs w₁ next₁ node
    → (p : List Rect) → node_part p node.count node.items ≡ node_part p (length bs) (branches_from n next bs)
row_part n w next bs w₁ next₁ node x p =
    let ts : List ℕ = branches_from n next bs in
    let s : length ts ≡ length bs = sym (count_children ts) ∙ sym (ap (λ (m : Node). m.count) x.node_is) ∙ x.count_is in
    ap (λ (m : Node). node_part p m.count m.items) x.node_is ∙ routing_part p ts ∙ ap (λ (j : ℕ). node_part p j ts) s

pub row_start : (n : ℕ) (w : List ℕ) (next : ℕ) (node : Node) → node ≡ node_of 0 [] → Row n w next [] w next node
unfolding write_row node_of
row_start n w next node e = record { written = writes_none n w next; count_is = rw e; node_is = e ∙ no_children }

module _ (n : ℕ) (w : List ℕ) (next : ℕ) (bs : List (Item index_space (suc n))) (w₁ : List ℕ) (next₁ : ℕ) (node : Node)
    (x : Row n w next bs w₁ next₁ node) (cs : List (Item index_space (suc n))) (w₂ : List ℕ) (next₂ : ℕ) (y : Writes n w₁ next₁ cs w₂ next₂)
    (one : length cs ≤ 1) where
  -- no branch where the next free part stayed
  none_written : next₂ ≡ next₁ → cs ≡ []
  unfolding total nodes
  none_written e = go cs y.next_is
    where
      go : (cs : List (Item index_space (suc n))) → next₂ ≡ next₁ + nodes_of n cs → cs ≡ []
      go [] h = refl
      go (c ∷ cs) h = absurd (omega arith)

  pub row_nothing : next₂ ≡ next₁ → Row n w next (bs ++ cs) w₂ next₂ node
  row_nothing e =
      let z = none_written e in
      let q : bs ++ cs ≡ bs = ap (λ (l : List (Item index_space (suc n))). bs ++ l) z ∙ append-nil bs in
      record {
        written = writes_more n w next bs w₁ next₁ cs w₂ next₂ x.written y;
        count_is = x.count_is ∙ sym (ap length q);
        node_is = x.node_is ∙ ap (λ (l : List (Item index_space (suc n))). routing_of (branches_from n next l)) (sym q);
      }

  -- one branch where it moved on: its top node is the last that was written
  pub row_one : (next₂ ≡ next₁ → ⊥) → node.count < 9 → Row n w next (bs ++ cs) w₂ next₂ (with_child node (next₂ - 1))
  unfolding write_row total with_child
  row_one ne h = go cs y one
    where
      go : (cs : List (Item index_space (suc n))) → Writes n w₁ next₁ cs w₂ next₂ → length cs ≤ 1
          → Row n w next (bs ++ cs) w₂ next₂ (with_child node (next₂ - 1))
      go [] z o = absurd (ne (let a = z.next_is in omega arith))
      go (c ∷ c' ∷ cs) z o = absurd (omega arith)
      go (c ∷ []) z o =
          let a = x.written.next_is in
          let b = z.next_is in
          let l = length_parts n next bs in
          let k = length_node fanout n next₁ c in
          let d = x.count_is in
          let e : next + length (parts_from n next bs) ≡ next₁ = omega arith in
          let f : next₁ + length (write_node fanout n next₁ c) - 1 ≡ next₂ - 1 = omega arith in
          let ts : List ℕ = branches_from n next bs in
          let s : node.count ≡ length ts = ap (λ (m : Node). m.count) x.node_is ∙ count_children ts in
          let all : ts ++ ((next₂ - 1) ∷ []) ≡ branches_from n next (bs ++ (c ∷ [])) =
          sym (row_roots_append (write_node fanout n) next bs (c ∷ []) ∙ ap (λ (j : ℕ). ts ++ branches_from n j (c ∷ [])) e ∙ ap (λ (j : ℕ). ts ++ (j ∷ [])) f) in
          record {
            written = writes_more n w next bs w₁ next₁ (c ∷ []) w₂ next₂ x.written z;
            count_is = rw length-append (omega arith);
            node_is = ap (λ (m : Node). with_child m (next₂ - 1)) x.node_is ∙ child_more ts (next₂ - 1) (omega arith) ∙ ap routing_of all;
          }
