-- Where some line fits a routing node, the chosen one does.
use Prim.Native.Nat.{ℕ, zero, suc, ◌+◌, ◌<◌, ◌≤◌}
use mathlib.Core.Bool.{Bool, true, not, false}
use mathlib.Core.Path.{◌≡◌, subst}
use mathlib.Core.List.{List, map}
use lib.ListN.{length}
use lib.Dec.{leb}
use native.Mathlib.Omega.{arith}
use native.Mathlib.Decide.{dec_le, ℕ_discrete}
use borrow.Author.Tests.{le-leb, leb-true}
use Rattle.polygons.proofs.Booleans.{split_and, not_both}
use Rattle.geometry.specs.declared.rect.Line.{Line}
use Rattle.geometry.specs.declared.rect.Line.TheVariants.{AtX, AtY}
use Rattle.geometry.specs.Cells.{on_grid}
use Rattle.geometry.specs.Clip.{below}
use Rattle.tree.specs.Lists.{All, keep, not_empty}
use Rattle.tree.specs.Space.{Side, left, right}
use Rattle.tree.proofs.Lists.{all_first, all_second, all_any, not_empty_length, map_all}
use Rattle.tree.proofs.Counted.{none_passes}
use Rattle.plane.specs.Best.{up_from}
use Rattle.plane.specs.Lines.{CellEntry, holds_on, fits_in, fits, on_both, lines, no_line, node_line}
use Rattle.plane.proofs.Best.{best_some}
use Rattle.plane.proofs.Kept.{keep_one, keep_all}
use Rattle.plane.proofs.Range.{InRange, between}

-- The line fits: `fits` as facts that omega reads.
pub record Fits {G : Type 0} (on : Side Line → G → Bool) (fanout : ℕ) (gs : List G) (l : Line) : Type 0 where
  pub lefts_some : 1 ≤ length (keep (on (left l)) gs)
  pub lefts_few : length (keep (on (left l)) gs) ≤ fanout
  pub rights_some : 1 ≤ length (keep (on (right l)) gs)
  pub rights_few : length (keep (on (right l)) gs) ≤ fanout

module _ {G : Type 0} (on : Side Line → G → Bool) (fanout : ℕ) (gs : List G) (l : Line) where
  -- a line that fits: the facts give the test
  pub of_fits : Fits on fanout gs l → fits on fanout gs l ≡ true
  of_fits f = simp (le-leb _ _ f.lefts_some, le-leb _ _ f.lefts_few, le-leb _ _ f.rights_some, le-leb _ _ f.rights_few)

  -- a line that fits: the test gives the facts
  pub fits_of : fits on fanout gs l ≡ true → Fits on fanout gs l
  fits_of h =
      let a = split_and (fits_in fanout (length (keep (on (left l)) gs))) (fits_in fanout (length (keep (on (right l)) gs))) h in
      let b = split_and (leb 1 (length (keep (on (left l)) gs))) (leb (length (keep (on (left l)) gs)) fanout) a.0 in
      let c = split_and (leb 1 (length (keep (on (right l)) gs))) (leb (length (keep (on (right l)) gs)) fanout) a.1 in
      record { lefts_some = leb-true _ _ b.0; lefts_few = leb-true _ _ b.1; rights_some = leb-true _ _ c.0; rights_few = leb-true _ _ c.1 }

-- the lines of the definition are those from 1 to 65535
all_up : (P : ℕ → Type 0) (k n i : ℕ) → All P (up_from k n) → k ≤ i → i < k + n → P i
unfolding up_from All
all_up P k zero i h a b = absurd (omega arith)
all_up P k (suc n) i h a b = go (ℕ_discrete k i) (all_up P (suc k) n i h.1)
  where
    go : Dec (k ≡ i) → (suc k ≤ i → i < suc k + n → P i) → P i
    go (yes e) f = subst P e h.0
    go (no e) f = f (omega arith) (omega arith)

pub in_lines : (P : Line → Type 0) (l : Line) → InRange l → All P lines → P l
unfolding lines
in_lines P (AtX l) r h = all_up (λ i. P (AtX i)) 1 65535 l (map_all P AtX (up_from 1 65535) (all_first P (map AtX (up_from 1 65535)) (map AtY (up_from 1 65535)) h)) r.0 (omega arith)
in_lines P (AtY l) r h = all_up (λ i. P (AtY i)) 1 65535 l (map_all P AtY (up_from 1 65535) (all_second P (map AtX (up_from 1 65535)) (map AtY (up_from 1 65535)) h)) r.0 (omega arith)

-- every cell of the groups is on the grid
abbrev pub GridGroups : List (List CellEntry) → Type 0
GridGroups gs = All (λ g. All (λ e. on_grid e.cell ≡ true) g) gs

-- where some group passes by an entry, there is such an entry
some_entry : (t : CellEntry → Bool) (gs : List (List CellEntry)) → GridGroups gs → 1 ≤ length (keep (λ g. not_empty (keep t g)) gs) → (e : CellEntry) × (t e ≡ true) × (on_grid e.cell ≡ true)
some_entry t gs re n =
    let g = keep_one (λ g. not_empty (keep t g)) (λ g. All (λ e. on_grid e.cell ≡ true) g) gs re n in
    keep_one t (λ e. on_grid e.cell ≡ true) g.0 g.2 (not_empty_length (keep t g.0) g.1)

module _ (fanout : ℕ) (gs : List (List CellEntry)) (grid : GridGroups gs) where
  -- a line that fits is from 1 to 65535
  pub fits_range : (l : Line) → Fits holds_on fanout gs l → InRange l
  fits_range l f =
      let a = some_entry (λ e. below l e.cell) gs grid f.lefts_some in
      let b = some_entry (λ e. not (below l e.cell)) gs grid f.rights_some in
      between l a.0.cell b.0.cell a.1 b.1 b.2

  module _ (some_Fits : (l : Line) × Fits holds_on fanout gs l) where
    -- where some line fits, some line of the definition does
    pub lines_fit : 1 ≤ length (keep (fits holds_on fanout gs) lines)
    lines_fit = go (dec_le 1 (length (keep (fits holds_on fanout gs) lines)))
      where
        go : Dec (1 ≤ length (keep (fits holds_on fanout gs) lines)) → 1 ≤ length (keep (fits holds_on fanout gs) lines)
        go (yes n) = n
        go (no n) =
            let l = some_Fits.0 in let f = some_Fits.1 in
            let none = in_lines (λ k. fits holds_on fanout gs k ≡ false) l (fits_range l f) (none_passes (fits holds_on fanout gs) lines (omega arith)) in
            absurd (not_both (fits holds_on fanout gs l) (of_fits holds_on fanout gs l f) none)

    -- and so does the chosen one
    pub node_fits : Fits holds_on fanout gs (node_line fanout gs)
    unfolding node_line
    node_fits =
        let b = best_some (on_both holds_on gs) (λ k. fits holds_on fanout gs k ≡ true) (keep (fits holds_on fanout gs) lines) lines_fit (keep_all (fits holds_on fanout gs) (λ k. fits holds_on fanout gs k ≡ true) lines (all_any _ lines (λ k e. e))) in
        rw b.found (fits_of holds_on fanout gs b.it b.has)

    -- it is from 1 to 65535
    pub node_range : InRange (node_line fanout gs)
    node_range = fits_range (node_line fanout gs) node_fits

    -- so it is not the value for no line
    pub no_line_unused : node_line fanout gs ≡ no_line → ⊥
    no_line_unused e = let r : InRange no_line = subst InRange e node_range in let a = r.0 in omega arith
