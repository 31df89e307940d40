-- A.6: "Insertion passes on the total removed by siblings, summed over all levels, and 0 where nothing grew."
-- docs/RULES.md 4.26
use Rattle.std.specs.Prelude.{ℕ, zero, suc, ◌+◌, List}
use Rattle.std.proofs.Math.Option.{Option, none, some}
use Rattle.tree.specs.Space.{Space, Chosen}
use Rattle.tree.specs.Nodes.{Item}
use Rattle.tree.specs.Root.{Root}
use Rattle.tree.specs.Tree.{Index}

-- A number of the branch that step 2 chose; 0 where it refuses.
abbrev pub of_chosen : {P A : Type 0} → (Chosen P A → ℕ) → Option (Chosen P A) → ℕ
of_chosen f none = 0
of_chosen f (some ch) = f ch

module _ (S : Space) where
  -- The cells removed at a node with the polygon p (as grown in this insertion) and at the nodes below it that
  -- insertion goes to. A leaf's entries have no rectangles.
  unfoldable pub removed_at : (n : ℕ) → S.Poly → List (Item S n) → S.Cell → ℕ
  removed_at zero p es c = 0
  removed_at (suc n) p bs c =
      S.removed bs c + of_chosen (λ ch. removed_at n ch.grown ch.old.child c) (S.choose p bs c)

module _ (S : Space) (R : Root S) where
  -- The total of the insertion of a cell. The root has no siblings: its growth removes nothing.
  unfoldable pub removed_total : Index S → S.Cell → ℕ
  removed_total none c = 0
  removed_total (some t) c = removed_at S t.level (R.grow_root t.root c) t.items c
