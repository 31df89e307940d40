-- `Polygon::clip` meets its contract; its loop is in PolygonLoops.
use Rattle.geometry.proofs.ArrayLaws.{few_of}
use Rattle.geometry.proofs.PolygonLoops.{clip_start, clip_room, clip_part, clip_empty, clip_end}
use Rattle.geometry.proofs.polygon.Polygon.clip.Goals as goal
use Rattle.geometry.proofs.polygon.Polygon.clip.Goals.{then-not-is_empty, else-not-is_empty}

pub loop-r-init : goal.loop-r-init
loop-r-init c = search (clip_start, few_of)

pub push-requires : goal.push-requires
push-requires c = search clip_room

pub loop-r-preserved : goal.loop-r-preserved
loop-r-preserved c = elim c.if-not-is_empty.branch [ then-not-is_empty w ↦ search clip_part | else-not-is_empty w ↦ search clip_empty ]

pub returns : goal.returns
returns c = search clip_end
