-- Document 01, 'Removal'.
-- docs/RULES.md 5.1 to 5.3
use Rattle.std.specs.Prelude.{ℕ, zero, suc, Bool, cond, not}
use mathlib.Core.List.{List, [], ◌∷◌, flat_map}
use Rattle.std.proofs.Math.Option.{none, some}
use Rattle.tree.specs.Space.{Space}
use Rattle.tree.specs.Nodes.{EntryOf, Item}
use Rattle.tree.specs.Tree.{Index}
use Rattle.tree.specs.Split.{branch_if}

module _ (S : Space) where
  -- An item with the entries that pass t: "closes the gap, removes an emptied leaf and emptied nodes above". q says
  -- what becomes of a polygon.
  unfoldable pub prune : (n : ℕ) → (EntryOf S → Bool) → (S.Poly → S.Poly) → Item S n → List (Item S n)
  prune zero t q e = cond (t e) (e ∷ []) []
  prune (suc n) t q b = branch_if S (q b.poly) (flat_map (prune n t q) b.child)

  -- The entry is of another cell.
  abbrev pub other : S.Cell → EntryOf S → Bool
  other c e = not (S.same e.cell c)

  -- A node's items without the entry of that cell. "Polygons don't shrink."
  abbrev pub without : (n : ℕ) → S.Cell → List (Item S n) → List (Item S n)
  without n c items = flat_map (prune n (other c) (λ p. p)) items

  -- A tree with these items; the empty index where they are gone.
  abbrev pub tree_if : (n : ℕ) → S.Poly → List (Item S n) → Index S
  tree_if n p [] = none
  tree_if n p (x ∷ l) = some (record { level = n; root = p; items = x ∷ l })

  -- "Removal takes the entry out, closes the gap, removes an emptied leaf and emptied nodes above."
  abbrev pub remove : S.Cell → Index S → Index S
  remove c none = none
  remove c (some t) = tree_if t.level t.root (without t.level c t.items)
