-- What is written is a start of the text, and all of it where nothing fails.
use Rattle.std.proofs.Common.{rules}
use Rattle.bench.proofs.WrittenLaws.{put_on, put_kept}
use Rattle.bench.proofs.writing.write_answers.Goals as goal
use Rattle.bench.proofs.writing.write_answers.Goals.{in-Ok, in-Err+else-not-is_again}

pub loop-preserved : goal.loop-preserved
loop-preserved g c =
    elim c.match-write.branch [
      | in-Ok w ↦ (rw w.rest-is (put_on _ _ _ _ _ _ c.loop.invariant.0 w.in-Ok.ensures.bytes), search rules)
      | in-Err+else-not-is_again w ↦ (rw w.rest-is (put_kept _ _ _ _ _ c.loop.invariant.0 w.in-Err.ensures.bytes), search rules)
    ]
