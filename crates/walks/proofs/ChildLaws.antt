-- The children of a routing node: as the code reads them, and, below a sound node, as nodes that can be walked and
-- are sound.
use Prim.Native.Nat.{ℕ, zero, suc, ◌+◌, ◌≤◌, ◌<◌}
use mathlib.Core.Path.{◌≡◌, refl, sym, ◌∙◌}
use mathlib.Core.List.{List, [], ◌∷◌}
use mathlib.Core.Option.{some, some-injective}
use native.Mathlib.Omega.{arith}
use lib.ListN.{length, get_or, length-take, length-drop}
use Rattle.tree.specs.Nodes.{Item}
use Rattle.tree.specs.Sound.{SoundItem}
use Rattle.tree.proofs.Lists.{all_at}
use Rattle.plane.specs.Fanout.{fanout, index_space}
use Rattle.memory.specs.Layout.{part, polygon_in, children_in}
use Rattle.memory.specs.Reading.{read_node}
use Rattle.memory.proofs.ReadingLaws.{NodeParts, node_parts_lem, part_length, low_at, low_from, low_to, part_below, row_at_lem, row_length}
use Rattle.layout.specs.Nodes.{count_at, child_at, PartIn}
use Rattle.layout.proofs.NodeLaws.{child_in_lem}
use Rattle.layout.proofs.ReadNodes.{node_polygon}
use Rattle.walks.specs.Walks.{Walkable, SoundWalk}
use Rattle.walks.specs.Children.{Children}
use Rattle.walks.proofs.WalkRows.{walkable, walk_polygon}

-- the first child of a row has the row's lower end
pub low_first : (lo : ℕ) (ks : List ℕ) → low_at lo ks 0 ≡ lo
unfolding low_at
low_first lo [] = refl
low_first lo (k ∷ ks) = refl

-- a later child's lower end is behind the part of the child before
pub low_next : (lo : ℕ) (ks : List ℕ) (i : ℕ) → i < length ks → low_at lo ks (suc i) ≡ get_or ks i 0 + 1
unfolding low_at
low_next lo [] i h = absurd (omega arith)
low_next lo (k ∷ ks) zero h = low_first (k + 1) ks
low_next lo (k ∷ ks) (suc i) h = low_next (k + 1) ks i (omega arith)

-- the children of a node as the code reads them
pub record ChildNumbers (m : List ℕ) (k : ℕ) : Type 0 where
  pub count : length (children_in (part m k)) ≡ count_at m k
  pub at : (i : ℕ) → i < count_at m k → get_or (children_in (part m k)) i 0 ≡ child_at m k i

pub child_numbers : (m : List ℕ) (k : ℕ) → PartIn m k → count_at m k ≤ 8 → ChildNumbers m k
child_numbers m k e f =
    let l = part_length m k (omega arith) in
    record {
      count = simp (length-take, length-drop) (omega arith);
      at = λ i h. child_in_lem (part m k) i h;
    }

module _ (n : ℕ) (m : List ℕ) (lo k : ℕ) (v : SoundWalk (suc n) m lo k) where
  parts : NodeParts fanout n m lo k v.walk.node
  parts = node_parts_lem fanout n m lo k v.walk.node v.walk.reads

  numbers : ChildNumbers m k
  numbers = child_numbers m k v.walk.ends v.walk.few

  pub branch_count : length v.walk.node.child ≡ count_at m k
  branch_count = row_length (read_node fanout n m) lo k (children_in (part m k)) v.walk.node.child parts.row
      ∙ numbers.count

  -- stands for a child where there is none
  abbrev pub blank : Item index_space (suc n)
  blank = record { poly = []; child = [] }

  -- the i-th child
  module _ (i : ℕ) (h : i < count_at m k) where
    pub in_row : i < length (children_in (part m k))
    in_row = let e = numbers.count in omega arith

    pub in_branches : i < length v.walk.node.child
    in_branches = let e = branch_count in omega arith

    pub child_is : get_or (children_in (part m k)) i 0 ≡ child_at m k i
    child_is = numbers.at i h

    pub child_reads : read_node fanout n m (low_at lo (children_in (part m k)) i) (get_or (children_in (part m k)) i 0)
        ≡ some (get_or v.walk.node.child i blank)
    child_reads = row_at_lem (read_node fanout n m) lo k (children_in (part m k)) i v.walk.node.child blank
        parts.row in_row

    pub child_from : lo ≤ low_at lo (children_in (part m k)) i
    child_from = low_from (read_node fanout n m) lo k (children_in (part m k)) i v.walk.node.child parts.row

    pub child_below : get_or (children_in (part m k)) i 0 < k
    child_below = part_below (read_node fanout n m) lo k (children_in (part m k)) i v.walk.node.child parts.row
        in_row

    child_walk_lem : Walkable n m (low_at lo (children_in (part m k)) i) (get_or (children_in (part m k)) i 0)
    child_walk_lem = walkable n m _ _ (get_or v.walk.node.child i blank) v.walk.right
        (low_to (read_node fanout n m) lo k (children_in (part m k)) i v.walk.node.child parts.row in_row)
        child_reads

    pub child_polygon : (get_or v.walk.node.child i blank).poly ≡ polygon_in (part m (child_at m k i))
    child_polygon = rw (← child_is) (node_polygon n m _ _ (get_or v.walk.node.child i blank) child_reads)

    pub child_sound : SoundItem index_space (suc n) v.walk.node.poly (get_or v.walk.node.child i blank)
    unfolding SoundItem
    child_sound = all_at (SoundItem index_space (suc n) v.walk.node.poly) v.walk.node.child
        i blank in_branches v.sound.each

    pub child_sound_walk : SoundWalk n m (low_at lo (children_in (part m k)) i) (get_or (children_in (part m k)) i 0)
    child_sound_walk = record {
      walk = child_walk_lem;
      around = v.walk.node.poly;
      sound = rw (some-injective _ _ (sym child_walk_lem.reads ∙ child_reads)) child_sound;
    }

    pub child_node : child_sound_walk.walk.node ≡ get_or v.walk.node.child i blank
    child_node = some-injective _ _ (sym child_sound_walk.walk.reads ∙ child_reads)

  pub children_of : Children m k
  children_of = record {
    below = v.walk.below;
    ends = v.walk.ends;
    few = v.walk.few;
    lower = λ i h. rw (← (child_is i h)) (child_below i h);
    each = λ i h. rw (← (child_is i h)) (walk_polygon n m _ _ (child_walk_lem i h));
  }
