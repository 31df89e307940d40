-- `replacing::put_refined` meets its contract.
use Rattle.choose_branch.proofs.ReplacedReturns.{refined_over, refined_fits}
use Rattle.choose_branch.proofs.replacing.put_refined.Goals as goal

pub returns-then-remaining-gt-MOST_OF_POLYGON : goal.returns-then-remaining-gt-MOST_OF_POLYGON
returns-then-remaining-gt-MOST_OF_POLYGON c = search refined_over

pub returns : goal.returns
returns c = search refined_fits
