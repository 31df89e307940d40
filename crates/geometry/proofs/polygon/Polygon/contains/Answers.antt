-- `Polygon::contains` meets its contract; what the test answers is in ContainmentLoop.
use Rattle.std.proofs.Common.{rules}
use Rattle.std.proofs.lemmas.Iterator.{YieldsList-from_slice}
use Rattle.std.proofs.lemmas.Iterator.Search.{position_from_yields_List}
use Rattle.geometry.specs.Cells.{has_cell}
use Rattle.geometry.specs.Numbers.{rects_of}
use Rattle.geometry.proofs.ContainmentLoop.{from_place}
use Rattle.geometry.proofs.polygon.Polygon.contains.Goals as goal

pub returns : goal.returns
returns c = from_place _ _ _ _ _ (position_from_yields_List (λ s. has_cell s c.args.c) _ _ _ c.position-place.ensures.ran
    (YieldsList-from_slice (rects_of c.args.self) c.iter.ensures.rest) (λ x b q k. search rules)) (search rules) c.at.ensures
