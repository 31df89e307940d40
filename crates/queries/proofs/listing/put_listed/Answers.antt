-- `listing::put_listed` meets its contract.
use mathlib.Core.Path.{refl}
use Rattle.answers.specs.Listing.{put_listed}
use Rattle.queries.proofs.listing.put_listed.Goals as goal

pub returns : goal.returns
unfolding put_listed
returns c = refl
