-- The best line so far, as the lines behind the extents of a node's branches are tried one after another.
use Rattle.std.specs.Prelude.{Bool, ◌&&◌, ◌||◌, cond, List, [], ◌∷◌, Option, Some, None, ltb, eqb}
use Rattle.geometry.specs.declared.rect.Line.{Line}
use Rattle.geometry.specs.declared.rect.Rect.{Rect}
use Rattle.plane.specs.Lines.{fits, on_both}
use Rattle.plane.specs.Candidates.{Extent, extent_on, line_number}
use Rattle.plane.specs.Fanout.{fanout}
use Rattle.split_line.specs.declared.candidates.Candidate.{Candidate}
use Rattle.split_line.specs.Extents.{extents_in, lines_behind}

unfoldable pub candidate_of : List Extent → Line → Candidate
candidate_of es l = record { both = on_both extent_on es l; line = l }

-- 'fewest branches holding entries on both sides; ties to x, then smaller l'
unfoldable pub precedes : Candidate → Candidate → Bool
precedes a b = ltb a.both b.both || (eqb a.both b.both && ltb (line_number a.line) (line_number b.line))

-- the better of the best so far and the next: the next only if it strictly precedes
unfoldable pub better_of : Option Candidate → Candidate → Candidate
better_of None next = next
better_of (Some first) next = cond (precedes next first) next first

-- the best so far after one more line was tried
unfoldable pub tried : List Extent → Option Candidate → Line → Option Candidate
tried es best l = cond (fits extent_on fanout es l) (Some (better_of best (candidate_of es l))) best

-- and after all lines of a list
unfoldable pub tried_all : List Extent → Option Candidate → List Line → Option Candidate
tried_all es best [] = best
tried_all es best (l ∷ ls) = tried_all es (tried es best l) ls

-- and after those behind a branch, by its extent
unfoldable pub tried_behind : List Rect → Rect → Option Candidate → Option Candidate
tried_behind l r best = tried_all (extents_in l) best (lines_behind r)
