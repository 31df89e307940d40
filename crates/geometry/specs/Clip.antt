-- Document 01, 'Splitting clips the polygon's rectangles to each side, in order, and refines them.'
-- docs/RULES.md 4.12, 4.15
use Rattle.std.specs.Prelude.{min, max, Bool, not, List, ltb}
use Rattle.polygons.specs.Rules.{clip_each, clip_refine}
use Rattle.geometry.specs.declared.rect.Cell.{Cell}
use Rattle.geometry.specs.declared.rect.Rect.{Rect}
use Rattle.geometry.specs.declared.rect.Line.{Line}
use Rattle.geometry.specs.declared.rect.Line.TheVariants.{AtX, AtY}
use Rattle.geometry.specs.declared.rect.Side.{Side}
use Rattle.geometry.specs.declared.rect.Side.TheVariants.{Left, Right}
use Rattle.geometry.specs.Common.{unless_empty}
use Rattle.geometry.specs.Refine.{refine}

-- the cell's coordinate in the line's dimension is below the line
unfoldable pub below : Line → Cell → Bool
below (AtX l) c = ltb c.x l
below (AtY l) c = ltb c.y l

-- 'left has coordinate below l, right the others'
unfoldable pub on_side : Side → Cell → Bool
on_side (Left l) c = below l c
on_side (Right l) c = not (below l c)

-- the part of a rectangle on a side; it may be empty
unfoldable pub side_part : Side → Rect → Rect
side_part (Left (AtX l)) r = record { llx = r.llx; lly = r.lly; urx = min r.urx l; ury = r.ury }
side_part (Left (AtY l)) r = record { llx = r.llx; lly = r.lly; urx = r.urx; ury = min r.ury l }
side_part (Right (AtX l)) r = record { llx = max r.llx l; lly = r.lly; urx = r.urx; ury = r.ury }
side_part (Right (AtY l)) r = record { llx = r.llx; lly = max r.lly l; urx = r.urx; ury = r.ury }

-- a rectangle clipped to a side: none or one
unfoldable pub clip_rect : Side → Rect → List Rect
clip_rect s r = unless_empty (side_part s r)

-- 'clips the polygon's rectangles to each side, in order'
unfoldable pub clip : Side → List Rect → List Rect
clip s p = clip_each (clip_rect s) p

-- 'and refines them'
unfoldable pub clip_refined : Side → List Rect → List Rect
clip_refined s p = clip_refine (clip_rect s) refine p
