-- The one pass as code computes it, not stated by document 01: all sides applied at once, lines from the entries in
-- the order of the tree before. That it gives the same is proved in proofs/Pass.
use Rattle.std.specs.Prelude.{ℕ, zero, suc, Bool, true, cond, ◌&&◌, leb, length}
use mathlib.Core.List.{List, [], ◌∷◌, ◌++◌, map, flat_map}
use Rattle.tree.specs.Lists.{keep, Bag}
use Rattle.tree.specs.Space.{Side, left, right, Space}
use Rattle.tree.specs.Nodes.{EntryOf, Item, entry_on, held}
use Rattle.tree.specs.Plan.{Way, group_if, branch_under}

module _ (S : Space) where
  -- The entry is on every side.
  unfoldable pub on_all : List (Side S.Line) → EntryOf S → Bool
  on_all [] e = true
  on_all (s ∷ ss) e = entry_on S s e && on_all ss e

  -- An item under several sides, in one pass.
  unfoldable pub deep : (n : ℕ) → List (Side S.Line) → Item S n → List (Item S n)
  deep zero ss e = cond (on_all ss e) (e ∷ []) []
  deep (suc n) ss b = branch_under S ss b.poly (flat_map (deep n ss) b.child)

  -- The entries below a node on the way, before any split.
  unfoldable pub way_held : (n : ℕ) → Way S n → List (EntryOf S)
  way_held zero es = es
  way_held (suc n) w = flat_map (held S (suc n)) w.before
      ++ (way_held n w.below ++ flat_map (held S (suc n)) w.after)

  -- The node has no item too many.
  abbrev pub plain_few : List (List (EntryOf S)) → Bool
  plain_few gs = leb (length gs) S.most

  -- The line of a node: a leaf's by its entries, a routing node's by the groups of its branches.
  abbrev pub plain_line : (n : ℕ) → List (List (EntryOf S)) → List (EntryOf S) → S.Line
  plain_line zero gs es = S.leaf_line es
  plain_line (suc n) gs es = S.node_line gs

  -- The groups of the one or two branches that take the node's place.
  abbrev pub cut_plain : (n : ℕ) → List (List (EntryOf S)) → List (EntryOf S) → List (List (EntryOf S))
  cut_plain n gs es = cond (plain_few gs) (es ∷ []) (group_if S (keep (entry_on S (left (plain_line n gs es))) es)
      ++ group_if S (keep (entry_on S (right (plain_line n gs es))) es))

  -- The groups of a node on the way, each in the order of the tree before.
  unfoldable pub plain : (n : ℕ) → Way S n → List (List (EntryOf S))
  plain zero es = map (held S zero) es
  plain (suc n) w = map (held S (suc n)) w.before
      ++ (cut_plain n (plain n w.below) (way_held n w.below) ++ map (held S (suc n)) w.after)

  -- Equal groups but for the order inside them.
  abbrev pub Alike : List (List (EntryOf S)) → List (List (EntryOf S)) → Type 0
  Alike [] [] = Unit {0}
  Alike [] (h ∷ hs) = ⊥
  Alike (g ∷ gs) [] = ⊥
  Alike (g ∷ gs) (h ∷ hs) = Bag g h × Alike gs hs
