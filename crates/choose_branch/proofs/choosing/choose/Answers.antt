-- `choosing::choose` meets its contract; a branch that has the cell is in ChooseReturns.
use borrow.Author.Rules.{rules}
use Rattle.choose_branch.proofs.ReadBranches.{branches_of}
use Rattle.choose_branch.proofs.ChooseReturns.{has_few, has_polygon, has_way, has_removed}
use Rattle.choose_branch.proofs.choosing.choose.Goals as goal

pub first_with-requires : goal.first_with-requires
first_with-requires c = search branches_of

pub choose_least-requires-clause-branches : goal.choose_least-requires-clause-branches
choose_least-requires-clause-branches c = search branches_of

pub child_at-part-requires-clause-part_in : goal.child_at-part-requires-clause-part_in
child_at-part-requires-clause-part_in c = let b = (branches_of _ _ c.requires.routing).below in search rules

pub child_at-part-requires-clause-i_bound : goal.child_at-part-requires-clause-i_bound
child_at-part-requires-clause-i_bound c = search (has_few, branches_of, c.in-Some.ensures)

pub polygon_at-requires : goal.polygon_at-requires
polygon_at-requires c = search (has_polygon, branches_of, c.in-Some.ensures)

pub returns-clause-choice_is : goal.returns-clause-choice_is
returns-clause-choice_is c = search (has_way, branches_of, c.in-Some.ensures)

pub returns-clause-removed_at : goal.returns-clause-removed_at
returns-clause-removed_at c = search (has_removed, branches_of, c.in-Some.ensures)
