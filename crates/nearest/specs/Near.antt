-- The nearest entry met so far and the nodes entered, as the code has them.
use Rattle.std.specs.Prelude.{ℕ, ◌+◌, Bool, true, List, [], ◌∷◌, ◌≡◌, leb, Some, None, IfSome}
use Rattle.std.specs.Prelude as Code
use Rattle.std.proofs.Math.Option.{Option, none, some}
use Rattle.geometry.specs.declared.rect.Cell.{Cell}
use Rattle.distance.specs.Distance.{squared}
use Rattle.tree.specs.Nearest.{or_nearer, nearest_of, Met}
use Rattle.plane.specs.Lines.{CellEntry}
use Rattle.plane.specs.Fanout.{index_space}
use Rattle.layout.specs.Entries.{tree_entry}
use Rattle.nearest.specs.declared.near.Candidate.{Candidate}
use Rattle.nearest.specs.declared.near.Near.{Near}

-- the nearest so far with one more entry, and with several
abbrev pub one_more : Cell → Option CellEntry → CellEntry → Option CellEntry
one_more c o e = or_nearer index_space c o e

abbrev pub nearest_among : Cell → Option CellEntry → List CellEntry → Option CellEntry
nearest_among c o es = nearest_of index_space c o es

-- what the walk for a cell has met
abbrev pub MetBy : Cell → Type 0
MetBy c = Met index_space c

-- a candidate's place in the order of the query: its distance, then its x, then its y
abbrev pub rank_of : Candidate → List ℕ
rank_of k = k.distance ∷ k.entry.cell.x ∷ k.entry.cell.y ∷ []

-- an entry, or none, as the code has it: with its squared distance
abbrev pub candidate : Cell → Option CellEntry → Code.Option Candidate
candidate c none = None
candidate c (some e) = Some (record { distance = squared c e.cell; entry = record { cell = e.cell; tag = e.tag } })

-- the entry that the code has, if any
abbrev pub candidate_entry : Code.Option Candidate → Option CellEntry
candidate_entry None = none
candidate_entry (Some k) = some (tree_entry k.entry)

abbrev pub best_of : Near → Option CellEntry
best_of r = candidate_entry r.best

-- an entry, or none, and the nodes entered, as the code has them
abbrev pub near_by : Cell → Option CellEntry → ℕ → Near
near_by c o v = record { best = candidate c o; visits = v }

-- the distance is that of the entry
abbrev pub GoodNear : Cell → Near → Type 0
GoodNear c r = IfSome r.best (λ k. k.distance ≡ squared c k.entry.cell)

-- from the definition's form to the code's, and back
abbrev pub near_of : (c : Cell) → MetBy c → Near
near_of c w = near_by c w.best w.entered

abbrev pub met_of : (c : Cell) → Near → MetBy c
met_of c r = record { best = best_of r; entered = r.visits }

-- one more node is entered
abbrev pub with_node : Near → Near
with_node r = record { best = r.best; visits = r.visits + 1 }

-- 'no entry has been met yet or the least squared distance .. is at most the best so far'
unfoldable pub enters_near : Code.Option Candidate → ℕ → Bool
enters_near None d = true
enters_near (Some k) d = leb d k.distance
