-- Document 01, 'Grid, rectangles, polygons': cells, rectangles, the cells of a list of rectangles, area.
-- docs/RULES.md 2.1 to 2.4, 2.6, 7.2
use Rattle.std.specs.Prelude.{ℕ, ◌*◌, ◌-◌, Bool, true, ◌&&◌, List, [], ◌∷◌, ltb, leb}
use Rattle.polygons.specs.Rules.{union_has}
use Rattle.geometry.specs.declared.rect.Cell.{Cell}
use Rattle.geometry.specs.declared.rect.Rect.{Rect}

-- 'A cell is a pair (x, y), each from 0 to 65535.'
unfoldable pub on_grid : Cell → Bool
on_grid c = leb c.x 65535 && leb c.y 65535

-- 'A rectangle ... contains a cell exactly if ll ≤ cell < ur in both dimensions'
unfoldable pub has_cell : Rect → Cell → Bool
has_cell r c = leb r.llx c.x && ltb c.x r.urx && leb r.lly c.y && ltb c.y r.ury

-- 'A rectangle has ll < ur in both dimensions.' One that has not is called empty.
unfoldable pub non_empty : Rect → Bool
non_empty r = ltb r.llx r.urx && ltb r.lly r.ury

-- A rectangle of the grid: not empty, and 'ur reaches 65536'.
unfoldable pub valid : Rect → Bool
valid r = ltb r.llx r.urx && ltb r.lly r.ury && leb r.urx 65536 && leb r.ury 65536

-- every rectangle of a list is valid
unfoldable pub all_valid : List Rect → Bool
all_valid [] = true
all_valid (r ∷ l) = valid r && all_valid l

-- 'its cells are their union': some rectangle of the list has the cell
unfoldable pub any_has : List Rect → Cell → Bool
any_has l c = union_has has_cell l c

-- 'area counts cells'
unfoldable pub area : Rect → ℕ
area r = (r.urx - r.llx) * (r.ury - r.lly)

-- a cell and a rectangle by their numbers
abbrev pub cell_of : ℕ → ℕ → Cell
cell_of a b = record { x = a; y = b }

abbrev pub rect_of : ℕ → ℕ → ℕ → ℕ → Rect
rect_of a b c d = record { llx = a; lly = b; urx = c; ury = d }

-- what `get_or` gives past the end of a list; no rule looks there
abbrev pub no_rect : Rect
no_rect = record { llx = 0; lly = 0; urx = 0; ury = 0 }
