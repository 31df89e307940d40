-- What the walk of a point query found.
use Rattle.std.specs.Prelude.{ℕ}
use mathlib.Core.List.{List, head?}
use Rattle.plane.specs.Lines.{CellEntry}
use Rattle.answers.specs.declared.answer.PointFound.{PointFound}
use Rattle.answers.specs.Answers.{point_end}

-- what a walk for a cell found: the first entry, and the visits
unfoldable pub found : List CellEntry → ℕ → PointFound
found es v = point_end (head? es) v
