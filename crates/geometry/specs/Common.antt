-- Document 01, 'Common part'.
-- docs/RULES.md 2.7, 2.8
use Rattle.std.specs.Prelude.{min, max, Bool, cond, List, [], ◌∷◌, Option, Some, None}
use Rattle.polygons.specs.Rules.{commons_with, commons}
use Rattle.geometry.specs.declared.rect.Rect.{Rect}
use Rattle.geometry.specs.Cells.{non_empty}

-- 'the larger ll and the smaller ur per dimension'
unfoldable pub overlap : Rect → Rect → Rect
overlap r s = record {
  llx = max r.llx s.llx;
  lly = max r.lly s.lly;
  urx = min r.urx s.urx;
  ury = min r.ury s.ury;
}

-- 'none if empty'
unfoldable pub common_part : Rect → Rect → Option Rect
common_part r s = cond (non_empty (overlap r s)) (Some (overlap r s)) None

-- r shares a cell with s
unfoldable pub shares_with : Rect → Rect → Bool
shares_with s r = non_empty (overlap r s)

-- a list of the rectangle alone, or of none where it is empty: 'leaving out empty ones'
unfoldable pub unless_empty : Rect → List Rect
unless_empty r = cond (non_empty r) (r ∷ []) []

-- the common part as a list of none or one
unfoldable pub common : Rect → Rect → List Rect
common r s = unless_empty (overlap r s)

-- the common parts of one rectangle with each of a list, in order
unfoldable pub common_with : List Rect → Rect → List Rect
common_with p r = commons_with common p r

-- Insertion's step 2: 'replace each piece by its common parts with the parent's rectangles ..., in order'
unfoldable pub common_parts : List Rect → List Rect → List Rect
common_parts l p = commons common l p
