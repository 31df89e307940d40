-- `Polygon::store` meets its contract; its loop is in PolygonLoops.
use Rattle.geometry.proofs.ArrayLaws.{few_of}
use Rattle.geometry.proofs.PolygonLoops.{store_start, store_again, store_end}
use Rattle.geometry.proofs.polygon.Polygon.store.Goals as goal

pub loop-i-init : goal.loop-i-init
loop-i-init c = search (store_start, few_of)

pub loop-i-preserved : goal.loop-i-preserved
loop-i-preserved c = search store_again

pub returns : goal.returns
returns c = search store_end
