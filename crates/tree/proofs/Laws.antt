-- What the tree asks of the plane. Every theorem takes these records as premises; nothing here is assumed of itself.
use Prim.Native.Nat.{zero, suc, ◌≤◌}
use mathlib.Core.Bool.{Bool, true}
use mathlib.Core.Path.{◌≡◌}
use mathlib.Core.List.{List, ◌∷◌, ◌++◌}
use mathlib.Core.Option.{some}
use lib.ListN.{length}
use Rattle.tree.specs.Lists.{keep, All, Pairs, not_empty}
use Rattle.tree.specs.Space.{Space, Side, left, right, Branch, Chosen}
use Rattle.tree.specs.Nodes.{on, entry_on, EntryOf}
use Rattle.tree.specs.Sound.{Apart, Count}
use Rattle.tree.specs.Root.{Root}
use Rattle.tree.specs.Query.{Window}

-- Clipping keeps exactly a polygon's cells on that side, and keeps it good where a cell is left; a good polygon lies on the grid; `same` is equality;
-- no cell of a polygon is nearer than its least distance, and of a good polygon one is that near; ties leave one cell.
pub record Laws (S : Space) : Type 0 where
  pub clip_old : (s : Side S.Line) (p : S.Poly) (c : S.Cell) → S.has (S.clip s p) c ≡ true → S.has p c ≡ true
  pub clip_on : (s : Side S.Line) (p : S.Poly) (c : S.Cell) → S.has (S.clip s p) c ≡ true → on S s c ≡ true
  pub clip_has : (s : Side S.Line) (p : S.Poly) (c : S.Cell) → S.has p c ≡ true → on S s c ≡ true → S.has (S.clip s p) c ≡ true
  pub clip_fine : (s : Side S.Line) (p : S.Poly) (c : S.Cell) → S.Fine p → S.has (S.clip s p) c ≡ true → S.Fine (S.clip s p)
  pub fine_real : (p : S.Poly) (c : S.Cell) → S.Fine p → S.has p c ≡ true → S.Real c
  pub same_is : (c d : S.Cell) → S.same c d ≡ true → c ≡ d
  pub same_self : (c : S.Cell) → S.same c c ≡ true
  pub distance_low : (p : S.Poly) (c d : S.Cell) → S.has p d ≡ true → S.min_distance c p ≤ S.distance c d
  pub distance_met : (p : S.Poly) (c : S.Cell) → S.Fine p → (d : S.Cell) × (S.has p d ≡ true) × (S.distance c d ≡ S.min_distance c p)
  pub ties_cell : (e f : EntryOf S) → S.ties e ≡ S.ties f → e.cell ≡ f.cell

module _ (S : Space) where
  -- Some of these entries are on that side.
  abbrev pub on_side : Side S.Line → List (EntryOf S) → Bool
  on_side s g = not_empty (keep (entry_on S s) g)

  -- "each side must receive 1 to 8": the line fits, for entries by entry_on, for branches by on_side of the entries they hold.
  pub record Fit {A : Type 0} (test : Side S.Line → A → Bool) (l : S.Line) (gs : List A) : Type 0 where
    pub lefts : Count S (keep (test (left l)) gs)
    pub rights : Count S (keep (test (right l)) gs)

  -- What step 2 gives at a node with the polygon p: one of the branches, with a good polygon that has the cell and the old cells, within p, and shares no cell with a sibling.
  pub record Chose {A : Type 0} (p : S.Poly) (bs : List (Branch S.Poly A)) (c : S.Cell) (ch : Chosen S.Poly A) : Type 0 where
    pub row : bs ≡ ch.before ++ (ch.old ∷ ch.after)
    pub fine : S.Fine ch.grown
    pub cell : S.has ch.grown c ≡ true
    pub keeps : (d : S.Cell) → S.has ch.old.poly d ≡ true → S.has ch.grown d ≡ true
    pub inside : (d : S.Cell) → S.has ch.grown d ≡ true → S.has p d ≡ true
    pub clear : All (λ b. (d : S.Cell) → S.has b.poly d ≡ true → S.has ch.grown d ≡ true → ⊥) (ch.before ++ ch.after)

  -- Step 2 gives that for sound branches; the leaf's line fits a leaf with one too many; the routing node's line fits wherever some line does.
  pub record Steps : Type 1 where
    pub chosen_row : {A : Type 0} (p : S.Poly) (bs : List (Branch S.Poly A)) (c : S.Cell) (ch : Chosen S.Poly A)
        → S.choose p bs c ≡ some ch → bs ≡ ch.before ++ (ch.old ∷ ch.after)
    pub chosen : {A : Type 0} (p : S.Poly) (bs : List (Branch S.Poly A)) (c : S.Cell) (ch : Chosen S.Poly A)
        → S.choose p bs c ≡ some ch → S.Fine p → S.has p c ≡ true → All (λ b. S.Fine b.poly) bs
        → All (λ b. (d : S.Cell) → S.has b.poly d ≡ true → S.has p d ≡ true) bs
        → Pairs (λ a b. (d : S.Cell) → S.has a.poly d ≡ true → S.has b.poly d ≡ true → ⊥) bs
        → Chose p bs c ch
    pub leaf_fits : (es : List (EntryOf S)) → length es ≡ suc S.most → Pairs (Apart S zero) es → Fit (entry_on S) (S.leaf_line es) es
    pub node_fits : (gs : List (List (EntryOf S))) (l : S.Line) → All (λ g. All (λ e. S.Real e.cell) g) gs → Fit on_side l gs → Fit on_side (S.node_line gs) gs

-- Of the root's polygon: it has the new cell and the old ones, and stays good and one rectangle.
pub record RootLaws (S : Space) (R : Root S) : Type 0 where
  pub leaf_has : (c : S.Cell) → S.has (R.leaf_of c) c ≡ true
  pub leaf_fine : (c : S.Cell) → S.Real c → S.Fine (R.leaf_of c)
  pub leaf_one : (c : S.Cell) → R.One (R.leaf_of c)
  pub grow_has : (p : S.Poly) (c : S.Cell) → R.One p → S.has (R.grow_root p c) c ≡ true
  pub grow_old : (p : S.Poly) (c d : S.Cell) → S.has p d ≡ true → S.has (R.grow_root p c) d ≡ true
  pub grow_fine : (p : S.Poly) (c : S.Cell) → S.Real c → S.Fine p → S.Fine (R.grow_root p c)
  pub grow_one : (p : S.Poly) (c : S.Cell) → R.One p → R.One (R.grow_root p c)

-- Of windows: a polygon meets the window exactly if some cell is in both.
pub record WindowLaws (S : Space) (Win : Window S) : Type 0 where
  pub meets_cell : (p : S.Poly) (w : Win.W) → Win.meets p w ≡ true → (c : S.Cell) × (S.has p c ≡ true) × (Win.inside w c ≡ true)
  pub cell_meets : (p : S.Poly) (w : Win.W) (c : S.Cell) → S.has p c ≡ true → Win.inside w c ≡ true → Win.meets p w ≡ true
