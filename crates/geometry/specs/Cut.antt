-- Document 01, 'Cut R by S'.
-- docs/RULES.md 2.11 to 2.14, 2.23
use Rattle.std.specs.Prelude.{cond, List, [], ◌∷◌, ◌++◌}
use Rattle.std.proofs.Math.Option.{Option}
use Rattle.polygons.specs.Limits.{at_most, most_pieces}
use Rattle.polygons.specs.Rules.{cut_pieces, cut_each}
use Rattle.geometry.specs.declared.rect.Rect.{Rect}
use Rattle.geometry.specs.Cells.{non_empty}
use Rattle.geometry.specs.Common.{overlap, unless_empty, common_parts}

-- 'x ceiling: x from S.ur to R.ur, y as R'
unfoldable pub x_ceiling : Rect → Rect → Rect
x_ceiling r s = record { llx = s.urx; lly = r.lly; urx = r.urx; ury = r.ury }

-- 'x floor: x from R.ll to S.ll, y as R'
unfoldable pub x_floor : Rect → Rect → Rect
x_floor r s = record { llx = r.llx; lly = r.lly; urx = s.llx; ury = r.ury }

-- 'y ceiling: x as U, y from S.ur to R.ur', with 'U the common part'
unfoldable pub y_ceiling : Rect → Rect → Rect
y_ceiling r s = record { llx = (overlap r s).llx; lly = s.ury; urx = (overlap r s).urx; ury = r.ury }

-- 'y floor: x as U, y from R.ll to S.ll'
unfoldable pub y_floor : Rect → Rect → Rect
y_floor r s = record { llx = (overlap r s).llx; lly = r.lly; urx = (overlap r s).urx; ury = s.lly }

-- the four pieces, 'in this order and leaving out empty ones'
unfoldable pub pieces : Rect → Rect → List Rect
pieces r s = unless_empty (x_ceiling r s) ++ unless_empty (x_floor r s) ++ unless_empty (y_ceiling r s)
    ++ unless_empty (y_floor r s)

-- 'if they share no cell, the list is R alone. Else' the pieces
unfoldable pub cut : Rect → Rect → List Rect
cut r s = cond (non_empty (overlap r s)) (pieces r s) (r ∷ [])

-- 'A list is cut by S piece by piece, in order.'
unfoldable pub cut_list : List Rect → Rect → List Rect
cut_list l s = cut_pieces cut l s

-- 'Cutting by a polygon applies its rectangles one after another.' Without a limit:
unfoldable pub cut_all : List Rect → List Rect → List Rect
cut_all l [] = l
cut_all l (s ∷ p) = cut_all (cut_list l s) p

-- and with it: none as soon as the list is 'over 256 after a single cut'
abbrev pub cut_limited : List Rect → List Rect → Option (List Rect)
cut_limited l p = cut_each cut l p

-- step 2's common parts with their limit
unfoldable pub common_limited : List Rect → List Rect → Option (List Rect)
common_limited l p = at_most most_pieces (common_parts l p)
