use borrow.Author.Rules.{rules}
use Rattle.boughs.proofs.Laws.{apart_first, apart_second, apart_by_binding, binds_here}
use Rattle.boughs.proofs.stands_apart.Goals as goal

-- A program of either visit, or less binding than is asked.
pub returns-then-first_program_of_node-ne-NONE : goal.returns-then-first_program_of_node-ne-NONE
returns-then-first_program_of_node-ne-NONE c = apart_first c.args.s.now c.args.i c.args.asked _ c.first_program_of_node.ensures.is c.if-first_program_of_node-ne-NONE.true

pub returns-then-second_program_of_node-ne-NONE : goal.returns-then-second_program_of_node-ne-NONE
returns-then-second_program_of_node-ne-NONE c = apart_second c.args.s.now c.args.i c.args.asked _ c.second_program_of_node.ensures.is c.if-second_program_of_node-ne-NONE.true

pub returns : goal.returns
returns c = apart_by_binding c.args.s.now c.args.i c.args.asked _ _ _ c.first_program_of_node.ensures.is c.if-first_program_of_node-ne-NONE.false c.second_program_of_node.ensures.is c.if-second_program_of_node-ne-NONE.false (binds_here c.kind_of.ensures.is c.binds_of.ensures.0)
