-- Document 01, 'Insertion'.
-- docs/RULES.md 4.1, 4.2, 4.6, 4.9 to 4.11, 4.14, 4.22, 7.2
use Rattle.std.specs.Prelude.{ℕ, zero, suc, cond, List, [], ◌∷◌, ◌++◌, leb}
use Rattle.std.proofs.Math.Option.{Option, none, some, bind}
use Rattle.tree.specs.Space.{Space}
use Rattle.tree.specs.Nodes.{EntryOf, Item}
use Rattle.tree.specs.Root.{Root}
use Rattle.tree.specs.Tree.{Tree, Index, node_count}
use Rattle.tree.specs.Split.{split}

module _ (S : Space) where
  -- Steps 2 to 4 below a node with the polygon p (as grown in this insertion): the one or two branches that take its
  -- place; nothing where step 2 refuses.
  unfoldable pub insert_at : (n : ℕ) → S.Poly → List (Item S n) → EntryOf S → Option (List (Item S (suc n)))
  -- "The entry goes last in the leaf."
  insert_at zero p es e = some (split S zero p (es ++ (e ∷ [])))
  -- Step 2 names the branch; "Go on there"; "From the leaf up, a node with nine is split".
  insert_at (suc n) p bs e =
      bind (S.choose p bs e.cell) λ ch.
      bind (insert_at n ch.grown ch.old.child e) λ got.
      some (split S (suc n) p (ch.before ++ (got ++ ch.after)))

  -- What took the root's place becomes the tree. One branch: its node is the root. Two: "A split root gets a new root
  -- above, with the old rectangle." (No branch: does not occur.)
  abbrev pub rooted : (n : ℕ) → S.Poly → List (Item S (suc n)) → Tree S
  rooted n p [] = record { level = suc n; root = p; items = [] }
  rooted n p (b ∷ []) = record { level = n; root = p; items = b.child }
  rooted n p (a ∷ b ∷ bs) = record { level = suc n; root = p; items = a ∷ b ∷ bs }

  -- How an insertion ends: refused by a number of the table, or the index after.
  pub data Outcome : Type 0 where
    refused : ℕ → Outcome
    accepted : Index S → Outcome

  -- 7: "in step 2, at any level: .."; 8: "tree after would exceed N nodes"
  abbrev pub limited : ℕ → Option (Tree S) → Outcome
  limited N none = refused 7
  limited N (some t) = cond (leb (node_count S (some t)) N) (accepted (some t)) (refused 8)

module _ (S : Space) (R : Root S) where
  -- Step 1: "The root's rectangle grows to the cell; an empty index gets a leaf with that cell alone." Then steps 2 to
  -- 4; nothing where step 2 refuses.
  unfoldable pub insert_tree : Index S → EntryOf S → Option (Tree S)
  insert_tree none e = some (record { level = zero; root = R.leaf_of e.cell; items = e ∷ [] })
  insert_tree (some t) e =
      let p = R.grow_root t.root e.cell in
      bind (insert_at S t.level p t.items e) λ got. some (rooted S t.level p got)

  -- Insertion of an entry, whose cell is not held, with room for N nodes.
  abbrev pub insert : ℕ → Index S → EntryOf S → Outcome S
  insert N i e = limited S N (insert_tree i e)
