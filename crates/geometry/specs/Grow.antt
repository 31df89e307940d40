-- Document 01, 'Grow'.
-- docs/RULES.md 2.9
use Rattle.std.specs.Prelude.{◌+◌, min, max}
use Rattle.geometry.specs.declared.rect.Cell.{Cell}
use Rattle.geometry.specs.declared.rect.Rect.{Rect}

-- 'a rectangle grown to take a cell in is the smallest one with both' (that it is the smallest is the law grow_least)
unfoldable pub grown : Rect → Cell → Rect
grown r c = record {
  llx = min r.llx c.x;
  lly = min r.lly c.y;
  urx = max r.urx (c.x + 1);
  ury = max r.ury (c.y + 1);
}
