-- The point query at a leaf.
use Prim.Native.Nat.{ℕ}
use mathlib.Core.Path.{◌≡◌}
use mathlib.Core.List.{List, [], ◌∷◌}
use Rattle.std.specs.Prelude.{Option, Some, None, MatchOption, option_map}
use Rattle.geometry.specs.declared.rect.Cell.{Cell}
use Rattle.plane.specs.Lines.{CellEntry}
use Rattle.layout.specs.declared.entry.Entry.{Entry}
use Rattle.layout.specs.Entries.{tree_entry}
use Rattle.walks.specs.Walks.{cell_test, leaf_entries}
use Rattle.answers.specs.Answers.{point_end}
use Rattle.queries.specs.Point.{found}

-- the first entry that passes, or none
pub leaf_found : (c : Cell) (p : List ℕ) (visits : ℕ) (held : Option Entry) (tag : Option ℕ)
    → MatchOption held (leaf_entries (cell_test c) p ≡ [])
    (λ e. (others : List CellEntry) × (leaf_entries (cell_test c) p ≡ tree_entry e ∷ others))
    → tag ≡ option_map (λ e. e.tag) held
    → record { tag = tag; visits = visits } ≡ found (leaf_entries (cell_test c) p) visits
unfolding found point_end
leaf_found c p visits None tag h q = rw (h, q)
leaf_found c p visits (Some e) tag h q = rw (h.1, q)
