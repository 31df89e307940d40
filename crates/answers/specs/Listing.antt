-- The result list of the window query: 'x, y, tag for each matching entry'.
-- docs/RULES.md 5.8
use Rattle.std.specs.Prelude.{ℕ, ◌+◌, ◌*◌, List, [], ◌∷◌, set}
use Rattle.plane.specs.Lines.{CellEntry}

-- how many numbers an entry takes in the list
abbrev pub list_width : ℕ
list_width = 3

-- an entry's numbers in the list
unfoldable pub listed_numbers : CellEntry → List ℕ
listed_numbers e = e.cell.x ∷ e.cell.y ∷ e.tag ∷ []

-- a list with an entry's numbers at the at-th place
unfoldable pub put_listed : List ℕ → ℕ → CellEntry → List ℕ
put_listed l at e = set (set (set l (list_width * at) e.cell.x) (list_width * at + 1) e.cell.y)
    (list_width * at + 2) e.tag
