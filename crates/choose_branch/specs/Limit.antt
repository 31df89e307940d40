-- The count of a grown polygon's rectangles.
use Rattle.std.specs.Prelude.{ℕ, Result, Ok, Err}
use Rattle.geometry.specs.declared.cut.TooMany.{TooMany}
use Rattle.choose_branch.specs.declared.pieces.Grown.{Grown}

-- how many rectangles were written, or refusal 7
abbrev pub grown_count : Result Grown TooMany → Result ℕ TooMany
grown_count (Ok x) = Ok x.rects
grown_count (Err e) = Err e
