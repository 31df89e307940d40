-- Entries by value, as the code has them.
use Rattle.std.specs.Prelude.{ℕ, List, [], ◌∷◌}
use Rattle.plane.specs.Lines.{CellEntry, entry_of}
use Rattle.layout.specs.declared.entry.Entry.{Entry}
use Rattle.layout.specs.declared.entry_list.Entries.{Entries}

-- the entry as the tree has it
abbrev pub tree_entry : Entry → CellEntry
tree_entry e = entry_of e.cell e.tag

-- the entries of some numbers, three each
unfoldable pub numbered : List ℕ → List CellEntry
numbered (x ∷ y ∷ t ∷ l) = record { cell = record { x = x; y = y }; tag = t } ∷ numbered l
numbered l = []

-- those of the numbers that are left
abbrev pub entries_left : Entries → List CellEntry
entries_left s = numbered s.left.now
