-- Document 01, 'Insertion', step 2: 'choose the rectangle of least extra area, first branch then first rectangle on
-- ties', as a scan finds it.
-- docs/RULES.md 4.4
use Rattle.std.specs.Prelude.{ℕ, ◌+◌, min, cond, List, [], ◌∷◌, ltb}
use Rattle.geometry.specs.declared.rect.Cell.{Cell}
use Rattle.geometry.specs.declared.rect.Rect.{Rect}
use Rattle.area.specs.Lacked.{extra_area}
use Rattle.choose_branch.specs.declared.least.Least.{Least}

-- the i-th rectangle of a branch against the least so far: it is taken only if its extra area is smaller
unfoldable pub lesser : (Rect → ℕ) → ℕ → ℕ → Least → Rect → Least
lesser extra branch i best r =
    cond (ltb (extra r) best.extra) (record { branch = branch; rect = i; extra = extra r }) best

-- the least so far and the rectangles of a branch from the i-th on, by their extra areas
unfoldable pub least_in : (Rect → ℕ) → ℕ → ℕ → Least → List Rect → Least
least_in extra branch i best [] = best
least_in extra branch i best (r ∷ l) = least_in extra branch (i + 1) (lesser extra branch i best r) l

-- the extra area of a polygon's rectangle
abbrev pub extra_in : List Rect → Cell → Rect → ℕ
extra_in q c r = extra_area q r c

-- the least so far and all rectangles of a branch, whose polygon is q
abbrev pub least_of : Cell → ℕ → Least → List Rect → Least
least_of c branch best q = least_in (extra_in q c) branch 0 best q

-- the least so far and the polygons of the branches from the i-th on
unfoldable pub least_from : Cell → ℕ → Least → List (List Rect) → Least
least_from c i best [] = best
least_from c i best (q ∷ ps) = least_from c (i + 1) (least_of c i best q) ps

-- The scan starts from a number that the least extra area does not exceed: t, or the least extra area of the
-- rectangles where each is taken as a polygon of one (law extra_alone: in its polygon none has more).
unfoldable pub alone_in : Cell → ℕ → List Rect → ℕ
alone_in c t [] = t
alone_in c t (r ∷ l) = alone_in c (min t (extra_area (r ∷ []) r c)) l

unfoldable pub alone_from : Cell → ℕ → List (List Rect) → ℕ
alone_from c t [] = t
alone_from c t (q ∷ ps) = alone_from c (alone_in c t q) ps

-- the cells of the grid: no extra area is more
abbrev pub all_cells : ℕ
all_cells = 4294967296

-- before any rectangle is looked at: one more than that number
abbrev pub start_at : ℕ → Least
start_at t = record { branch = 0; rect = 0; extra = t + 1 }

-- the scan of all branches
abbrev pub least_all : Cell → List (List Rect) → Least
least_all c ps = least_from c 0 (start_at (alone_from c all_cells ps)) ps
