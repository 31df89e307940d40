-- `candidates::count_sides` meets its contract; its loop is in CandidateLoops.
use Rattle.split_line.proofs.CandidateLoops.{counting_start, rect_valid, few_lefts, few_rights, few_both, counting_again, counting_end}
use Rattle.split_line.proofs.candidates.count_sides.Goals as goal

pub loop-r-init : goal.loop-r-init
loop-r-init c = search counting_start

pub is_right-requires : goal.is_right-requires
is_right-requires c = search rect_valid

pub add-counts-requires : goal.add-counts-requires
add-counts-requires c = search (few_lefts, few_rights, few_both)

pub loop-r-preserved : goal.loop-r-preserved
loop-r-preserved c = search counting_again

pub returns : goal.returns
returns c = search counting_end
