-- The tests of one candidate line.
use Prim.Native.Nat.{ℕ, ◌-◌, ◌≤◌}
use mathlib.Core.Path.{◌≡◌, refl, sym}
use mathlib.Core.Bool.{Bool, true, false}
use native.Mathlib.Omega.{arith}
use borrow.Author.Tests.{le-leb, lt-leb, ltb-true, ltb-false}
use lib.Dec.{leb, ltb}
use Rattle.geometry.specs.declared.rect.Line.{Line}
use Rattle.geometry.specs.declared.rect.Line.TheVariants.{AtX, AtY}
use Rattle.geometry.specs.declared.rect.Rect.{Rect}
use Rattle.geometry.specs.Cells.{valid}
use Rattle.geometry.proofs.CellLaws.{valid_of}
use Rattle.tree.specs.Space.{right}
use Rattle.plane.specs.Candidates.{extent_on}
use Rattle.split_line.specs.Extents.{rect_extent}

-- entries right of a line: the rectangle's ur is excluded
module _ (r : Rect) (line : Line) (l : ℕ) where
  upto : (a : ℕ) → 1 ≤ a → ltb l a ≡ leb l (a - 1)
  upto a h = go (ltb l a) refl
    where
      go : (b : Bool) → ltb l a ≡ b → b ≡ leb l (a - 1)
      go true e = let k = ltb-true l a e in sym (le-leb l (a - 1) (omega arith))
      go false e = let k = ltb-false l a e in sym (lt-leb l (a - 1) (omega arith))

  pub right_x : valid r ≡ true → line ≡ AtX l → ltb l r.urx ≡ extent_on (right line) (rect_extent r)
  unfolding rect_extent
  right_x v e = rw e (upto r.urx (let w = valid_of r v in omega arith))

  pub right_y : valid r ≡ true → line ≡ AtY l → ltb l r.ury ≡ extent_on (right line) (rect_extent r)
  unfolding rect_extent
  right_y v e = rw e (upto r.ury (let w = valid_of r v in omega arith))
