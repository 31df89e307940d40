-- `alone::alone_in` meets its contract; its loop is in AloneLoops.
use mathlib.Core.Path.{sym, ◌∙◌}
use Rattle.choose_branch.proofs.AloneLoops.{first_valid, others_valid, alone_next, alone_end}
use Rattle.choose_branch.proofs.alone.alone_in.Goals as goal

pub extra_of_one-requires-clause-r_value : goal.extra_of_one-requires-clause-r_value
extra_of_one-requires-clause-r_value c = search (first_valid, c.in-Some.ensures.steps)

pub loop-r-preserved : goal.loop-r-preserved
loop-r-preserved c = record {
  valid = search (others_valid, c.in-Some.ensures.steps);
  rest = c.loop-r.invariant.rest
      ∙ alone_next _ _ _ c.in-Some.ensures.steps _ _ _ _ c.extra_of_one.ensures c.min-least.ensures;
}

pub returns : goal.returns
returns c = sym (c.loop-r.invariant.rest ∙ alone_end _ _ _ c.in-None.ensures.steps.0)
