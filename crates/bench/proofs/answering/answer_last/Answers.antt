-- The laws that it needs are in WrittenLoop.
use Rattle.std.proofs.Common.{rules, refl}
use Rattle.bench.proofs.WrittenLoop.{last_none, last_put}
use Rattle.bench.proofs.answering.answer_last.Goals as goal

pub returns-then-kept-eq0-clause-written : goal.returns-then-kept-eq0-clause-written
returns-then-kept-eq0-clause-written g c = search last_none

pub returns-then-kept-eq0-clause-served : goal.returns-then-kept-eq0-clause-served
returns-then-kept-eq0-clause-served g c = (returns-then-kept-eq0-clause-written g c).answered

pub returns-clause-written : goal.returns-clause-written
returns-clause-written g c =
    last_put _ c.args.input.now _ _ _ c.args.kept _ _ _ _ _ _ _ _ refl c.answer_line.ensures (search rules) c.if-kept-eq0.false c.requires.kept_bound
    c.requires.lengths.input_room c.write_answers.ensures.start c.write_answers.ensures.all

pub returns-clause-served : goal.returns-clause-served
returns-clause-served g c = (returns-clause-written g c).answered
