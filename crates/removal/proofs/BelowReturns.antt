-- The recursion of removal, with the level as a number that falls: a leaf, and a routing node before and after the call for its child.
use Prim.Native.Nat.{ℕ, zero, suc, ◌-◌}
use mathlib.Core.Path.{◌≡◌, refl, sym, ◌∙◌}
use mathlib.Core.Bool.{Bool, true, false}
use mathlib.Core.List.{List}
use native.Mathlib.Omega.{arith}
use lib.ListN.{get_or}
use Rattle.geometry.specs.declared.rect.Cell.{Cell}
use Rattle.memory.specs.Layout.{part, children_in}
use Rattle.memory.proofs.ReadingLaws.{low_at}
use Rattle.walks.specs.declared.child.Child.{Child}
use Rattle.std.specs.Prelude.{Option, Some, None}
use Rattle.walks.specs.Children.{Children, FirstChild, ChildIs}
use Rattle.walks.proofs.ChildLaws.{child_is, children_of}
use Rattle.removal.specs.Place.{EntryPlace, HoldsCell}
use Rattle.removal.specs.Below.{TakesItem, EntryTaken, BranchTaken, Removable, RemovedBelow}
use Rattle.removal.proofs.LeafRemoved.{leaf_holds_lem, leaf_takes, leaf_removed}
use Rattle.removal.proofs.NodeRemoved.{some_has, child_removable, child_stays, branch_takes, node_removed}

module _ (level : ℕ) (m : List ℕ) (lo k : ℕ) (c : Cell) (v : Removable level m lo k c) (z : level ≡ 0) where
  -- the leaf's part
  module _ (p : List ℕ) (e : p ≡ part m k) where
    pub below_holds : HoldsCell p c
    below_holds = rw e (leaf_holds_lem m lo k c (rw z at v))

    module _ (i : ℕ) (q : EntryPlace p c i) where
      pub below_takes : TakesItem m k i
      below_takes = leaf_takes m lo k c (rw z at v) i (rw e at q)

      pub below_leaf : (m' : List ℕ) (r : Bool) → EntryTaken m k i m' r → RemovedBelow level m lo k c m' r
      below_leaf m' r t = rw z (leaf_removed m lo k c (rw z at v) i (rw e at q) m' r t)

-- the children of a routing node, of which one has the cell
pub below_children : (level : ℕ) (m : List ℕ) (lo k : ℕ) (c : Cell) → Removable level m lo k c → (level ≡ 0 → ⊥)
    → Children m k
below_children zero m lo k c v ne = absurd (ne refl)
below_children (suc n) m lo k c v ne = children_of n m lo k v.path

pub below_some : (level : ℕ) (m : List ℕ) (lo k : ℕ) (c : Cell) (r : Option Child) → Removable level m lo k c
    → (level ≡ 0 → ⊥) → ChildIs m lo k c r → r ≡ None
    → RemovedBelow level m lo k c m true
below_some zero m lo k c r v ne w e = absurd (ne refl)
below_some (suc n) m lo k c r v ne w e = absurd (some_has n m lo k c v (rw e at w))

-- the child that was found, at the i-th place and part j
module _ (m : List ℕ) (lo k : ℕ) (c : Cell) (i low j : ℕ) (q : FirstChild m lo k c i low j) where
  -- its number in the node's list
  child_number : (n : ℕ) → Removable (suc n) m lo k c → j ≡ get_or (children_in (part m k)) i 0
  child_number n v = q.part_is ∙ sym (child_is n m lo k v.path i q.place.inside)

  child_at_lem : (level : ℕ) → Removable level m lo k c → (level ≡ 0 → ⊥) → Removable (level - 1) m low j c
  child_at_lem zero v ne = absurd (ne refl)
  child_at_lem (suc n) v ne =
      let e : suc n - 1 ≡ n = omega arith in
      rw (e, q.low_is, child_number n v) (child_removable n m lo k c v i q.place)

  -- the call for the child gave m₁, and t says whether the child is left
  module _ (m₁ : List ℕ) (t : Bool) where
    child_removed : (n : ℕ) → Removable (suc n) m lo k c → RemovedBelow (suc n - 1) m low j c m₁ t
        → RemovedBelow n m (low_at lo (children_in (part m k)) i) (get_or (children_in (part m k)) i 0) c m₁ t
    child_removed n v x =
        let e : suc n - 1 ≡ n = omega arith in
        rw (e, q.low_is, child_number n v) at x

    stays : (level : ℕ) → Removable level m lo k c → (level ≡ 0 → ⊥) → RemovedBelow (level - 1) m low j c m₁ t
        → t ≡ true → RemovedBelow level m lo k c m₁ true
    stays zero v ne x e = absurd (ne refl)
    stays (suc n) v ne x e = child_stays n m lo k c v i q.place m₁ t (child_removed n v x) e

    takes : (level : ℕ) → Removable level m lo k c → (level ≡ 0 → ⊥) → RemovedBelow (level - 1) m low j c m₁ t
        → TakesItem m₁ k i
    takes zero v ne x = absurd (ne refl)
    takes (suc n) v ne x = branch_takes n m lo k c v i q.place m₁ t (child_removed n v x)

    taken : (level : ℕ) → Removable level m lo k c → (level ≡ 0 → ⊥) → RemovedBelow (level - 1) m low j c m₁ t
        → t ≡ false
        → (m₂ : List ℕ) (s : Bool) → BranchTaken m₁ k i m₂ s → RemovedBelow level m lo k c m₂ s
    taken zero v ne x e m₂ s y = absurd (ne refl)
    taken (suc n) v ne x e m₂ s y = node_removed n m lo k c v i q.place m₁ t (child_removed n v x) e m₂ s y

-- the same, from what was found
module _ (level : ℕ) (m : List ℕ) (lo k : ℕ) (c : Cell) (v : Removable level m lo k c) (ne : level ≡ 0 → ⊥)
    (r : Option Child) (w : ChildIs m lo k c r)
    (b : Child) (e : r ≡ Some b) where
  found : FirstChild m lo k c b.at b.low b.part
  found = rw e at w

  pub below_child : Removable (level - 1) m b.low b.part c
  below_child = child_at_lem m lo k c b.at b.low b.part found level v ne

  module _ (m₁ : List ℕ) (t : Bool) (x : RemovedBelow (level - 1) m b.low b.part c m₁ t) where
    pub below_stays : t ≡ true → RemovedBelow level m lo k c m₁ true
    below_stays = stays m lo k c b.at b.low b.part found m₁ t level v ne x

    pub below_takes_branch : TakesItem m₁ k b.at
    below_takes_branch = takes m lo k c b.at b.low b.part found m₁ t level v ne x

    pub below_node : t ≡ false → (m₂ : List ℕ) (s : Bool) → BranchTaken m₁ k b.at m₂ s → RemovedBelow level m lo k c m₂ s
    below_node = taken m lo k c b.at b.low b.part found m₁ t level v ne x
