-- Document 01, 'Insertion', step 4 and 'Splitting'.
-- docs/RULES.md 4.12, 4.13, 4.15 to 4.17, 5.1
use Rattle.std.specs.Prelude.{ℕ, zero, suc, cond, leb, length}
use mathlib.Core.List.{List, [], ◌∷◌, ◌++◌, map, flat_map}
use Rattle.tree.specs.Space.{Side, left, right, Branch, Space}
use Rattle.tree.specs.Nodes.{Item, on, held}

module _ (S : Space) where
  -- A branch with these items; none where they are gone: "a half without entries is dropped".
  abbrev pub branch_if : {A : Type 0} → S.Poly → List A → List (Branch S.Poly A)
  branch_if p [] = []
  branch_if p (x ∷ xs) = record { poly = p; child = x ∷ xs } ∷ []

  -- What is left of an item on one side of a line, one item or none: an entry is on the side or not; the polygon of a
  -- branch is clipped, and "Branches are split recursively at the same line".
  unfoldable pub half : (n : ℕ) → Side S.Line → Item S n → List (Item S n)
  half zero s e = cond (on S s e.cell) (e ∷ []) []
  half (suc n) s b = branch_if (S.clip s b.poly) (flat_map (half n s) b.child)

  -- "Entries and branches keep their order on each side."
  abbrev pub half_items : (n : ℕ) → Side S.Line → List (Item S n) → List (Item S n)
  half_items n s items = flat_map (half n s) items

  -- The line: of a leaf by its entries, of a routing node by the entries that each branch holds.
  abbrev pub line_of : (n : ℕ) → List (Item S n) → S.Line
  line_of zero es = S.leaf_line es
  line_of (suc n) bs = S.node_line (map (held S (suc n)) bs)

  -- "The left node takes the old place, the right follows it."
  abbrev pub halves : (n : ℕ) → S.Line → Item S (suc n) → List (Item S (suc n))
  halves n l b = half (suc n) (left l) b ++ half (suc n) (right l) b

  -- "a node with nine is split at a line": the branches that take the place of a node with the polygon p and these
  -- items, one or two.
  unfoldable pub split : (n : ℕ) → S.Poly → List (Item S n) → List (Item S (suc n))
  split n p items =
      let whole : Item S (suc n) = record { poly = p; child = items } in
      cond (leb (length items) S.most) (whole ∷ []) (halves n (line_of n items) whole)
