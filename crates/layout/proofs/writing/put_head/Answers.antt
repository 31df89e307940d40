-- `writing::put_head` meets its contract; the laws that it needs are in WritingLaws.
use mathlib.Core.Path.{ap, ◌∙◌}
use native.Mathlib.Omega.{arith}
use lib.ListN.{replicate}
use Rattle.layout.proofs.WritingLaws.{words_none, words_next, head_put}
use Rattle.layout.proofs.writing.put_head.Goals as goal

pub loop-j-init : goal.loop-j-init
loop-j-init c = c.fill_zeros.ensures ∙ ap (λ n. replicate n 0) c.requires.head_len ∙ words_none _ _

pub loop-j-preserved : goal.loop-j-preserved
loop-j-preserved c = search words_next

pub returns : goal.returns
returns c = head_put _ _ _ c.loop-j.j (omega (arith, c.loop-j.auto.j-end, c.loop-j-test.false)) c.loop-j.invariant
