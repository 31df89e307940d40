use Rattle.geometry.proofs.RectsLaws.{rects_between}
use Rattle.geometry.proofs.rects.Rects.between.Goals as goal

pub returns : goal.returns
returns c = search rects_between
