-- The routing node's line as code finds it: only lines just behind an extreme coordinate of a branch are looked at.
use Rattle.std.specs.Prelude.{ℕ, ◌+◌, ◌*◌, ◌-◌, ◌%◌, min, max, Bool, cond, leb, ltb}
use mathlib.Core.List.{List, [], ◌∷◌, map, flat_map}
use Rattle.std.proofs.Math.Option.{none}
use Rattle.polygons.specs.Lists.{least}
use Rattle.geometry.specs.declared.rect.Cell.{Cell}
use Rattle.geometry.specs.declared.rect.Line.{Line}
use Rattle.geometry.specs.declared.rect.Line.TheVariants.{AtX, AtY}
use Rattle.tree.specs.Space.{Side, left, right}
use Rattle.plane.specs.Best.{greatest, scan}
use Rattle.plane.specs.Lines.{CellEntry, x_of, y_of, fits, on_both, line_or}

-- the least and the greatest coordinates of a branch's entries
pub record Extent : Type 0 where
  pub min_x : ℕ
  pub max_x : ℕ
  pub min_y : ℕ
  pub max_y : ℕ

-- the extent of a branch, by the entries it holds
unfoldable pub extent_of : List CellEntry → Extent
extent_of g = record { min_x = least x_of g; max_x = greatest x_of g; min_y = least y_of g; max_y = greatest y_of g }

-- the extents of a node's branches
abbrev pub extents : List (List CellEntry) → List Extent
extents gs = map extent_of gs

-- the extent of one cell
unfoldable pub cell_extent : Cell → Extent
cell_extent c = record { min_x = c.x; max_x = c.x; min_y = c.y; max_y = c.y }

-- the extent of two groups of entries together
unfoldable pub join_extents : Extent → Extent → Extent
join_extents a b = record {
  min_x = min a.min_x b.min_x;
  max_x = max a.max_x b.max_x;
  min_y = min a.min_y
      b.min_y;
  max_y = max a.max_y b.max_y;
}

-- a branch with this extent holds entries on the side
abbrev pub extent_on : Side Line → Extent → Bool
extent_on (left (AtX l)) e = ltb e.min_x l
extent_on (left (AtY l)) e = ltb e.min_y l
extent_on (right (AtX l)) e = leb l e.max_x
extent_on (right (AtY l)) e = leb l e.max_y

-- 'ties to x, then smaller l': the place of a line in that order
abbrev pub line_number : Line → ℕ
line_number (AtX l) = l
line_number (AtY l) = 65536 + l

-- the number by which lines compare: branches on both sides first, then the order of lines
abbrev pub key : List Extent → Line → ℕ
key es l = on_both extent_on es l * 131072 + line_number l

-- the lines just behind the extremes of each branch
unfoldable pub candidates : List Extent → List Line
candidates es = flat_map (λ e. AtX (e.min_x + 1) ∷ AtX (e.max_x + 1) ∷ AtY (e.min_y + 1) ∷ AtY (e.max_y + 1) ∷ []) es

-- the fitting candidate with the least key, as a loop finds it
unfoldable pub best_candidate : ℕ → List Extent → Line
best_candidate fanout es = line_or (scan (fits extent_on fanout es) (key es) none (candidates es))

-- The same with one number for the best line so far, the least key; the line is read off it at the end.
-- The least key after one more line was tried:
unfoldable pub tried : ℕ → List Extent → ℕ → Line → ℕ
tried fanout es k l = cond (fits extent_on fanout es l) (min k (key es l)) k

-- and after all lines of a list:
unfoldable pub least_key : ℕ → List Extent → ℕ → List Line → ℕ
least_key fanout es k [] = k
least_key fanout es k (l ∷ ls) = least_key fanout es (tried fanout es k l) ls

-- the line of a number
unfoldable pub numbered_line : ℕ → Line
numbered_line r = cond (ltb r 65536) (AtX r) (AtY (r - 65536))

-- the line of a key
unfoldable pub key_line : ℕ → Line
key_line k = numbered_line (k % 131072)
