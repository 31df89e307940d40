-- The way of an insertion: what soundness gives at each of its nodes, for the plan of its splits.
use Prim.Native.Nat.{ℕ, zero, suc, ◌+◌, ◌<◌, ◌≤◌}
use mathlib.Core.List.{List, map}
use lib.ListN.{length}
use Rattle.tree.specs.Lists.{All, Pairs}
use Rattle.tree.specs.Space.{Space}
use Rattle.tree.specs.Nodes.{EntryOf, held}
use Rattle.tree.specs.Sound.{Apart}
use Rattle.tree.specs.Split.{split, line_of}
use Rattle.tree.specs.Plan.{Way, row}
use Rattle.tree.proofs.Fits.{FitAt}
use Rattle.tree.proofs.Keeps.{Shape}

module _ (S : Space) where
  -- The leaf of the way, with the new entry.
  pub record LeafWay (es : List (EntryOf S)) : Type 0 where
    pub some : 1 ≤ length es
    pub few : length es ≤ suc S.most
    pub real : All (λ e. S.Real e.cell) es
    pub apart : Pairs (Apart S zero) es
    -- where it has one too many, its line fits
    pub fits : S.most < length es → FitAt S zero (line_of S zero es) es

  -- A routing node of the way: what took the place of the branch gone to is one branch or the two halves of a split.
  pub record NodeWay (n : ℕ) (w : Way S (suc n)) (Below : Type 0) : Type 0 where
    pub below : Below
    pub room : length w.before + suc (length w.after) ≤ S.most
    pub shape : Shape S (suc n) (split S n w.grown (row S n w.below))
    pub real : All (λ g. All (λ e. S.Real e.cell) g) (map (held S (suc n)) (row S (suc n) w))
    pub full : All (λ g. 1 ≤ length g) (map (held S (suc n)) (row S (suc n) w))
    pub fits : S.most < length (row S (suc n) w) → FitAt S (suc n) (line_of S (suc n) (row S (suc n) w)) (row S (suc n) w)

  unfoldable pub GoodWay : (n : ℕ) → Way S n → Type 0
  GoodWay zero es = LeafWay es
  GoodWay (suc n) w = NodeWay n w (GoodWay n w.below)

  -- where a node of the way has one item too many, its line fits
  pub way_fits : (n : ℕ) (w : Way S n) → GoodWay n w → S.most < length (row S n w) → FitAt S n (line_of S n (row S n w)) (row S n w)
  unfolding row GoodWay
  way_fits zero es g o = g.fits o
  way_fits (suc n) w g o = g.fits o
