-- Document 01, 'The tree and its memory': the whole index, its measures, and "Sound".
-- docs/RULES.md 3.4 to 3.7, 4.22
use Rattle.std.specs.Prelude.{ℕ, suc, ◌+◌}
use mathlib.Core.List.{List, [], flat_map}
use Rattle.std.proofs.Math.Option.{Option, none, some}
use Rattle.tree.specs.Lists.{total}
use Rattle.tree.specs.Space.{Space}
use Rattle.tree.specs.Nodes.{EntryOf, Item, held, nodes}
use Rattle.tree.specs.Sound.{Count, SoundItems}
use Rattle.tree.specs.Root.{Root}

-- A tree that is not empty, with polygons P: its leaves lie level steps below the root, whose items are of the type I
-- level. So "leaves are equally deep" by its type. No plane stands in it: trees of all fanouts are one type.
pub record TreeOf (P : Type 0) (I : ℕ → Type 0) : Type 0 where
  pub level : ℕ
  pub root : P
  pub items : List (I level)

module _ (S : Space) where
  -- A tree of this plane.
  abbrev pub Tree : Type 0
  Tree = TreeOf S.Poly (Item S)

  -- The index: a tree, or nothing when it is empty.
  abbrev pub Index : Type 0
  Index = Option Tree

  -- The root with its polygon, in the form that branches have.
  abbrev pub top : (t : Tree) → Item S (suc t.level)
  top t = record { poly = t.root; child = t.items }

  -- "Height is the number of levels, 0 when empty."
  abbrev pub height : Index → ℕ
  height none = 0
  height (some t) = suc t.level

  -- The entries held, in depth-first order.
  abbrev pub entries : Index → List (EntryOf S)
  entries none = []
  entries (some t) = flat_map (held S t.level) t.items

  -- The number of nodes: the root and those below it.
  abbrev pub node_count : Index → ℕ
  node_count none = 0
  node_count (some t) = 1 + total (nodes S t.level) t.items

module _ (S : Space) (R : Root S) where
  -- "Sound means: all the above; ..", of a tree that is not empty.
  pub record SoundTree (t : Tree S) : Type 0 where
    pub fine : S.Fine t.root
    pub one : R.One t.root
    pub count : Count S t.items
    pub items : SoundItems S t.level t.root t.items

  -- The empty index is sound.
  abbrev pub Sound : Index S → Type 0
  Sound none = Unit {0}
  Sound (some t) = SoundTree t
