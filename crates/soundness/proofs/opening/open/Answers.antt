-- `opening::open` meets its contract; its returns are in OpenLaws.
use native.Mathlib.Omega.{arith}
use Rattle.memory.proofs.ReadingLaws.{index_length}
use Rattle.soundness.proofs.OpenLaws.{right_head, right_bits, open_empty, open_zero, open_deep, open_head, open_unsound, open_bits, open_in, open_wide, open_unused, open_tree}
use Rattle.soundness.proofs.opening.open.Goals as goal

pub tree_height-height-requires : goal.tree_height-height-requires
tree_height-height-requires c = search right_head

pub returns-then-all_zero : goal.returns-then-all_zero
returns-then-all_zero c = search open_empty

pub returns-then-height-eq0 : goal.returns-then-height-eq0
returns-then-height-eq0 c = search open_zero

pub root_part-part-requires : goal.root_part-part-requires
root_part-part-requires c = search right_head

pub returns-then-part-level : goal.returns-then-part-level
returns-then-part-level c = search open_deep

pub head_rest_zero-requires : goal.head_rest_zero-requires
head_rest_zero-requires c = search right_head

pub returns-then-not-head_rest_zero : goal.returns-then-not-head_rest_zero
returns-then-not-head_rest_zero c = search open_head

pub check_node-requires-clause-index_length : goal.check_node-requires-clause-index_length
check_node-requires-clause-index_length c = search index_length

pub check_node-requires-clause-lo_le_k : goal.check_node-requires-clause-lo_le_k
check_node-requires-clause-lo_le_k c = omega arith

pub returns-in_default : goal.returns-in_default
returns-in_default c = search open_unsound

pub bits_set-requires : goal.bits_set-requires
bits_set-requires c = search right_bits

pub returns-then-nodes-bits_set : goal.returns-then-nodes-bits_set
returns-then-nodes-bits_set c = search open_bits

pub part_at-requires : goal.part_at-requires
part_at-requires c = search open_in

pub returns-then-rect_count-ne1 : goal.returns-then-rect_count-ne1
returns-then-rect_count-ne1 c = search open_wide

pub others_zero-requires : goal.others_zero-requires
others_zero-requires c = search index_length

pub returns-then-not-others_zero : goal.returns-then-not-others_zero
returns-then-not-others_zero c = search open_unused

pub returns : goal.returns
returns c =
    search (
      open_tree,
      c.requires,
      c.tree_height-height.ensures,
      c.if-height-eq0.false,
      c.root_part-part.ensures,
      c.head_rest_zero.ensures,
      c.if-not-head_rest_zero.false,
      c.check_node.ensures,
      c.in-Some.is,
      c.bits_set.ensures,
      c.if-nodes-bits_set.false,
      c.part_at.ensures.result_value,
      c.rect_count.ensures,
      c.if-rect_count-ne1.false,
      c.others_zero.ensures,
      c.if-not-others_zero.false,
    )
