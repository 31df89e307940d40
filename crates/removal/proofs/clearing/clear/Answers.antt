-- `clearing::clear` meets its contract; its returns are in ClearReturns.
use Rattle.removal.proofs.ClearReturns.{clear_accepts, clear_zeros, clear_refuses, clear_leaves}
use Rattle.removal.proofs.clearing.clear.Goals as goal

pub returns-then-is_index_length-clause-answer : goal.returns-then-is_index_length-clause-answer
returns-then-is_index_length-clause-answer c = search clear_accepts

pub returns-then-is_index_length-clause-memory : goal.returns-then-is_index_length-clause-memory
returns-then-is_index_length-clause-memory c = search clear_zeros

pub returns-clause-answer : goal.returns-clause-answer
returns-clause-answer c = search clear_refuses

pub returns-clause-memory : goal.returns-clause-memory
returns-clause-memory c = search clear_leaves
