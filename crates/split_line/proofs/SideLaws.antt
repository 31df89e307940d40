-- The loop over a list of sides.
use mathlib.Core.Path.{◌≡◌, refl, ap}
use mathlib.Core.List.{List, [], ◌∷◌}
use Prim.Native.Nat.{ℕ}
use Rattle.std.specs.List.{list_all}
use Rattle.geometry.specs.declared.rect.Cell.{Cell}
use Rattle.geometry.specs.declared.rect.Side.{Side}
use Rattle.tree.specs.Lists.{keep}
use Rattle.tree.specs.Pass.{on_all}
use Rattle.plane.specs.Lines.{CellEntry}
use Rattle.plane.specs.Fanout.{index_space}
use Rattle.split_line.specs.Sides.{sides_of, on_side, on_every, on_test}

-- the tag of an entry does not matter
tag_free : (ss : List Side) (c : Cell) (t u : ℕ) → on_all index_space (sides_of ss) (record { cell = c; tag = t }) ≡ on_all index_space (sides_of ss) (record { cell = c; tag = u })
unfolding on_all sides_of
tag_free [] c t u = refl
tag_free (s ∷ ss) c t u = rw (tag_free ss c t u)

pub entry_on_lem : (ss : List Side) (e : CellEntry) → on_all index_space (sides_of ss) e ≡ on_every ss e.cell
unfolding on_every
entry_on_lem ss e = tag_free ss e.cell e.tag 0

-- every entry is on no sides
pub keep_every : (es : List CellEntry) → keep (on_test []) es ≡ es
unfolding keep on_test on_every on_all sides_of
keep_every [] = refl
keep_every (e ∷ es) = ap (λ (l : List CellEntry). e ∷ l) (keep_every es)

-- the test of a list of sides, as the library has it
pub all_every : (ss : List Side) (c : Cell) → list_all (λ s. on_side s c) ss ≡ on_every ss c
unfolding on_every on_all sides_of on_side
all_every [] c = refl
all_every (s ∷ ss) c = rw (all_every ss c)
