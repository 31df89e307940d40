-- The extents of a node's branches as rectangles, and the line found from them.
use Rattle.std.specs.Prelude.{◌+◌, ◌-◌, ◌≤◌, Bool, true, ◌&&◌, cond, List, [], ◌∷◌, map, ◌≡◌, length}
use Rattle.geometry.specs.declared.rect.Line.{Line}
use Rattle.geometry.specs.declared.rect.Line.TheVariants.{AtX, AtY}
use Rattle.geometry.specs.declared.rect.Rect.{Rect}
use Rattle.geometry.specs.Cells.{valid}
use Rattle.tree.specs.Lists.{All, keep}
use Rattle.tree.specs.Space.{left, right}
use Rattle.plane.specs.Lines.{fits_in, on_both}
use Rattle.plane.specs.Candidates.{Extent, extent_on, line_number}
use Rattle.plane.specs.Fanout.{fanout}
use Rattle.split_line.specs.declared.candidates.Counts.{Counts}

-- the extent of a rectangle's cells: its ur is excluded
unfoldable pub rect_extent : Rect → Extent
rect_extent r = record { min_x = r.llx; max_x = r.urx - 1; min_y = r.lly; max_y = r.ury - 1 }

-- the extents of some rectangles
unfoldable pub extents_in : List Rect → List Extent
extents_in l = map rect_extent l

-- at most nine rectangles, each valid
pub record ExtentList (l : List Rect) : Type 0 where
  pub few : length l ≤ 9
  pub each : All (λ r. valid r ≡ true) l

-- how many branches hold entries left of a line, right of it, and on both sides
unfoldable pub counts_of : List Extent → Line → Counts
counts_of es l = record {
  lefts = length (keep (extent_on (left l)) es);
  rights = length (keep (extent_on (right l)) es);
  both = on_both extent_on es l;
}

unfoldable pub added_counts : Counts → Bool → Bool → Counts
added_counts k a b = record {
  lefts = k.lefts + cond a 1 0;
  rights = k.rights + cond b 1 0;
  both = k.both + cond a (cond b 1 0) 0;
}

-- 'each side must receive 1 to 8 branches'
unfoldable pub counts_fit : Counts → Bool
counts_fit k = fits_in fanout k.lefts && fits_in fanout k.rights

-- A line that is tried: it is at most 65536, one behind the grid.
pub record TriedLine (l : List Rect) (line : Line) : Type 0 where
  pub list : ExtentList l
  pub small : line_number line ≤ 131072

-- the lines just behind the extremes of a branch
unfoldable pub lines_behind : Rect → List Line
lines_behind r = AtX (r.llx + 1) ∷ AtX r.urx ∷ AtY (r.lly + 1) ∷ AtY r.ury ∷ []
