-- Insertion as code does it, not stated by document 01: first down the path (steps 2 and 3), then all splits (step 4)
-- in one pass. That this gives document 01's insertion is proved in proofs/OnePass.
use Rattle.std.specs.Prelude.{ℕ, zero, suc, Bool, cond, leb, length}
use mathlib.Core.List.{List, [], ◌∷◌, ◌++◌, map, flat_map}
use Rattle.std.proofs.Math.Option.{Option, some, bind}
use Rattle.tree.specs.Lists.{keep}
use Rattle.tree.specs.Space.{Side, left, right, Branch, Space}
use Rattle.tree.specs.Nodes.{EntryOf, Item, entry_on, held}
use Rattle.tree.specs.Split.{branch_if, half_items, split}

-- One routing node on the way down: its branches but the chosen one, the polygon that the chosen one gets, and the way
-- below it.
pub record Turn (P B W : Type 0) : Type 0 where
  pub before : List B
  pub grown : P
  pub below : W
  pub after : List B

module _ (S : Space) where
  -- The nodes on the way, from a node down to its leaf, which has the new entry.
  abbrev pub Way : ℕ → Type 0
  Way zero = List (EntryOf S)
  Way (suc n) = Turn S.Poly (Item S (suc n)) (Way n)

  -- Steps 2 and 3; nothing where step 2 refuses.
  unfoldable pub descend : (n : ℕ) → S.Poly → List (Item S n) → EntryOf S → Option (Way n)
  descend zero p es e = some (es ++ (e ∷ []))
  descend (suc n) p bs e =
      bind (S.choose p bs e.cell) λ ch.
      bind (descend n ch.grown ch.old.child e) λ w.
      some (record { before = ch.before; grown = ch.grown; below = w; after = ch.after })

  -- Step 4, from the leaf up: the items of a node on the way, all below it split.
  unfoldable pub row : (n : ℕ) → Way n → List (Item S n)
  row zero es = es
  row (suc n) w = w.before ++ (split S n w.grown (row n w.below) ++ w.after)

  -- The one or two branches that take the node's place.
  abbrev pub build : (n : ℕ) → S.Poly → Way n → List (Item S (suc n))
  build n p w = split S n p (row n w)

  -- The plan, from entries alone. A group is the list of the entries that one item holds.
  unfoldable pub flat : List (List (EntryOf S)) → List (EntryOf S)
  flat gs = flat_map (λ g. g) gs

  -- The node has no item too many.
  abbrev pub few_of : (n : ℕ) → List (List (EntryOf S)) → Bool
  few_of n gs = leb (length gs) S.most

  -- The line of a node, by the groups of its items.
  abbrev pub line_for : (n : ℕ) → List (List (EntryOf S)) → S.Line
  line_for zero gs = S.leaf_line (flat gs)
  line_for (suc n) gs = S.node_line gs

  -- A group, unless it is empty.
  abbrev pub group_if : List (EntryOf S) → List (List (EntryOf S))
  group_if [] = []
  group_if (e ∷ es) = (e ∷ es) ∷ []

  -- The groups of the one or two branches that take the node's place.
  abbrev pub cut_groups : (n : ℕ) → List (List (EntryOf S)) → List (List (EntryOf S))
  cut_groups n gs =
      cond (few_of n gs) (flat gs ∷ [])
      (group_if (keep (entry_on S (left (line_for n gs))) (flat gs))
      ++ group_if (keep (entry_on S (right (line_for n gs))) (flat gs)))

  -- The groups of a node on the way, all below it split.
  unfoldable pub groups : (n : ℕ) → Way n → List (List (EntryOf S))
  groups zero es = map (held S zero) es
  groups (suc n) w = map (held S (suc n)) w.before
      ++ (cut_groups n (groups n w.below) ++ map (held S (suc n)) w.after)

  -- Whether a node on the way is not split, and its line.
  abbrev pub few : (n : ℕ) → Way n → Bool
  few n w = few_of n (groups n w)

  abbrev pub line_at : (n : ℕ) → Way n → S.Line
  line_at n w = line_for n (groups n w)

  -- Items under several sides, one after another.
  unfoldable pub under : (n : ℕ) → List (Side S.Line) → List (Item S n) → List (Item S n)
  under n [] items = items
  under n (s ∷ ss) items = under n ss (half_items S n s items)

  -- A polygon under several sides, one after another.
  unfoldable pub clips : List (Side S.Line) → S.Poly → S.Poly
  clips [] p = p
  clips (s ∷ ss) p = clips ss (S.clip s p)

  -- A node under sides is dropped where nothing is left in it.
  abbrev pub branch_under : {A : Type 0} → List (Side S.Line) → S.Poly → List A → List (Branch S.Poly A)
  branch_under [] p items = record { poly = p; child = items } ∷ []
  branch_under (s ∷ ss) p items = branch_if S (clips (s ∷ ss) p) items

  -- One branch under the sides, or one for each side of a line; the new side goes to the front, as it is applied first.
  abbrev pub cut_into : {A : Type 0} → Bool → S.Line → S.Poly → (List (Side S.Line) → List A)
      → List (Side S.Line) → List (Branch S.Poly A)
  cut_into few l p f ss = cond few (branch_under ss p (f ss)) (branch_under (left l ∷ ss) p (f (left l ∷ ss))
      ++ branch_under (right l ∷ ss) p (f (right l ∷ ss)))

  -- Writing in one pass: the items of a node on the way under the sides of the splits above it.
  unfoldable pub write_row : (n : ℕ) → List (Side S.Line) → Way n → List (Item S n)
  write_row zero ss es = under zero ss es
  write_row (suc n) ss w =
      under (suc n) ss w.before
      ++ (cut_into (few n w.below) (line_at n w.below) w.grown (λ ts. write_row n ts w.below) ss
      ++ under (suc n) ss w.after)

  -- The one or two branches that take the node's place, under the sides of the splits above it.
  abbrev pub write : (n : ℕ) → List (Side S.Line) → S.Poly → Way n → List (Item S (suc n))
  write n ss p w = cut_into (few n w) (line_at n w) p (λ ts. write_row n ts w) ss
