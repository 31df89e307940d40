use Rattle.geometry.proofs.RectsLaws.{length_of_numbers}
use Rattle.geometry.proofs.rects.Rects.len.Goals as goal

pub returns : goal.returns
returns c = rw length_of_numbers
