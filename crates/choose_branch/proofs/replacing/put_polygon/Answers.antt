-- `replacing::put_polygon` meets its contract; what it reads of the part is in GrownReturns.
use Rattle.choose_branch.proofs.GrownReturns.{others_few, polygon_put}
use Rattle.choose_branch.proofs.replacing.put_polygon.Goals as goal

pub put_refined-requires-clause-few : goal.put_refined-requires-clause-few
put_refined-requires-clause-few c = search others_few

pub returns : goal.returns
returns c = search polygon_put
