-- The words of bits before the j-th are written onto zeros.
use Rattle.std.proofs.Common.{◌≡◌, replicate}
use Rattle.layout.proofs.WritingLaws.{words_put}
use Rattle.layout.proofs.writing.put_head.Given as goal

abbrev pub invariant-loop-j : goal.invariant-loop-j
invariant-loop-j l = l.head ≡ words_put l.parts l.j (replicate 64 0)
