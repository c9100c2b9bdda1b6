use native.Mathlib.Omega.{arith}
use Rattle.words.proofs.Laws.{run_inside}
use borrow.Author.Rules.{rules}
use Rattle.words.proofs.expression.say_expression.Goals as goal

-- The production's nodes are nodes of the sheet.
-- src/expression.rt:105:9
-- src/expression.rt:106:9
-- src/expression.rt:108:9
-- src/expression.rt:109:9
-- src/expression.rt:111:5
pub say_tree-requires : goal.say_tree-requires
say_tree-requires c =
    let e = run_inside c.requires.laid_out c.requires.runs_inside c.requires.q_lt_productions in
    record { laid_out = c.requires.laid_out; left_bound = omega (arith, e, c.first_node_of-first.ensures.is, c.node_count_of-nodes.ensures.is); atom_bound = omega arith }

-- src/expression.rt:100:1
