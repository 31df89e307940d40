-- `siblings::cut_by_siblings` meets its contract; the two cuts together are in SiblingLoop.
use borrow.Author.Rules.{rules}
use native.Mathlib.Omega.{arith}
use Rattle.geometry.proofs.CutLoops.{few_of_lem}
use Rattle.choose_branch.proofs.SiblingLoop.{before_length, after_in, before_each, after_each, siblings_over, siblings_cut}
use Rattle.choose_branch.proofs.siblings.cut_by_siblings.Goals as goal

pub slice_bounds-cut_by_parts-end : goal.slice_bounds-cut_by_parts-end
slice_bounds-cut_by_parts-end c =
    before_length _ _ _ c.requires.branches _ c.children_at-children.ensures c.requires.inside _ (omega arith)

pub cut_by_parts-requires : goal.cut_by_parts-requires
cut_by_parts-requires c = record {
  each = before_each _ _ _ c.requires.branches _ c.children_at-children.ensures c.requires.inside _ (omega arith);
  few = search rules;
  list_room = search rules;
  spare_room = search rules;
}

pub returns-in_err-remaining-clause-written : goal.returns-in_err-remaining-clause-written
returns-in_err-remaining-clause-written c = search (siblings_over, c.in_err-remaining.ensures.written)

pub slice_bounds-cut_by_parts-count : goal.slice_bounds-cut_by_parts-count
slice_bounds-cut_by_parts-count c = search after_in

pub slice_bounds-cut_by_parts-start : goal.slice_bounds-cut_by_parts-start
slice_bounds-cut_by_parts-start c =
    let h = after_in _ _ _ c.requires.branches _ c.children_at-children.ensures c.requires.inside in search rules

pub cut_by_parts-requires-2 : goal.cut_by_parts-requires-2
cut_by_parts-requires-2 c = record {
  each = search after_each;
  few = search (few_of_lem, c.in_ok-remaining.ensures.written);
  list_room = search rules;
  spare_room = search rules;
}

pub returns-clause-written : goal.returns-clause-written
returns-clause-written c = search (siblings_cut, c.in_ok-remaining.ensures.written)
