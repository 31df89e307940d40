-- Document 01, 'Insertion', step 4: the line at which a node is split.
-- docs/RULES.md 4.18 to 4.21
use Rattle.std.specs.Prelude.{ℕ, ◌+◌, ◌*◌, ◌-◌, ◌/◌, Bool, ◌&&◌, not, cond, true, List, ◌++◌, map, length, leb, ◌≡◌}
use Rattle.std.proofs.Math.Option.{Option, none, some}
use Rattle.geometry.specs.declared.rect.Cell.{Cell}
use Rattle.geometry.specs.declared.rect.Line.{Line}
use Rattle.geometry.specs.declared.rect.Line.TheVariants.{AtX, AtY}
use Rattle.geometry.specs.Clip.{below}
use Rattle.geometry.specs.Cells.{on_grid}
use Rattle.tree.specs.Lists.{keep, total, not_empty, All}
use Rattle.tree.specs.Space.{Side, left, right, Entry}
use Rattle.plane.specs.Best.{best, up_from}

-- 'an entry being a cell and a tag'
abbrev pub CellEntry : Type 0
CellEntry = Entry Cell

-- what an entry carries besides its cell: its tag
abbrev pub Payload : Type 0
Payload = ℕ

-- one of them, where it does not matter which
abbrev pub some_payload : Payload
some_payload = 0

-- an entry by its cell and what it carries
abbrev pub entry_of : Cell → Payload → CellEntry
entry_of c t = record { cell = c; tag = t }

-- every cell of some entries is on the grid
abbrev pub OnGrid : List CellEntry → Type 0
OnGrid es = All (λ e. on_grid e.cell ≡ true) es

-- 'v: coordinate': an entry's x
abbrev pub x_of : CellEntry → ℕ
x_of e = e.cell.x

-- and its y
abbrev pub y_of : CellEntry → ℕ
y_of e = e.cell.y

-- Leaf: 'n × Σv² − (Σv)²', where n is the number of entries. It is never negative (the law spread_least).
abbrev pub spread : (CellEntry → ℕ) → List CellEntry → ℕ
spread v es = length es * total (λ e. v e * v e) es - total v es * total v es

-- 'l = floor(Σv / n) + 1'
abbrev pub mean_line : (CellEntry → ℕ) → List CellEntry → ℕ
mean_line v es = total v es / length es + 1

-- 'the dimension with the larger n × Σv² − (Σv)², x on a tie'
unfoldable pub leaf_line : List CellEntry → Line
leaf_line es = cond (leb (spread y_of es) (spread x_of es)) (AtX (mean_line x_of es)) (AtY (mean_line y_of es))

-- Routing node: a branch, given by the entries it holds, holds entries on the side
abbrev pub holds_on : Side Line → List CellEntry → Bool
holds_on (left l) g = not_empty (keep (λ e. below l e.cell) g)
holds_on (right l) g = not_empty (keep (λ e. not (below l e.cell)) g)

-- '1 to 8', where 8 is the fanout
abbrev pub fits_in : ℕ → ℕ → Bool
fits_in fanout n = leb 1 n && leb n fanout

-- Over branches in any form, with the test that one holds entries on a side:
module _ {G : Type 0} (on : Side Line → G → Bool) where
  -- 'each side must receive 1 to 8 branches that hold entries there'
  abbrev pub fits : ℕ → List G → Line → Bool
  fits fanout gs l = fits_in fanout (length (keep (on (left l)) gs)) && fits_in fanout (length (keep (on (right l)) gs))

  -- how many 'branches holding entries on both sides'
  abbrev pub on_both : List G → Line → ℕ
  on_both gs l = length (keep (λ g. on (left l) g && on (right l) g) gs)

-- 'all whole l from 1 to 65535 in both dimensions', x first, then smaller l
unfoldable pub lines : List Line
lines = map AtX (up_from 1 65535) ++ map AtY (up_from 1 65535)

-- what the definition gives where no line fits: no line of the list above. It is never used (the law no_line_unused).
abbrev pub no_line : Line
no_line = AtX 0

-- the line that was found
abbrev pub line_or : Option Line → Line
line_or none = no_line
line_or (some l) = l

-- 'Take the line with fewest branches holding entries on both sides; ties to x, then smaller l.'
unfoldable pub node_line : ℕ → List (List CellEntry) → Line
node_line fanout gs = line_or (best (on_both holds_on gs) (keep (fits holds_on fanout gs) lines))
