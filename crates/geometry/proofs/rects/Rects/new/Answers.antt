use Rattle.geometry.proofs.RectsLaws.{rects_first}
use Rattle.geometry.proofs.rects.Rects.new.Goals as goal

pub returns : goal.returns
returns c = search rects_first
