use borrow.Author.Rules.{rules}
use native.Mathlib.Omega.{arith}
use Rattle.lines.proofs.Laws.{line}
use Rattle.lines.proofs.put_line.Goals as goal

-- Part after part, each no longer than its bound.
pub put_head-from-requires : goal.put_head-from-requires
put_head-from-requires c = record { laid_out = c.requires.laid_out; q_lt_productions = omega (arith, c.requires.q_lt_productions) }

pub put_element-to-requires : goal.put_element-to-requires
put_element-to-requires c = record { laid_out = c.requires.laid_out; runs_inside = c.requires.runs_inside; q_lt_productions = omega (arith, c.requires.q_lt_productions, c.put_head-from.ensures.reach) }

pub second_program_of-second-requires : goal.second_program_of-second-requires
second_program_of-second-requires c = record { laid_out = c.requires.laid_out; q_lt_productions = c.requires.q_lt_productions.0 }

pub put_field-end-requires : goal.put_field-end-requires
put_field-end-requires c = record { laid_out = c.requires.laid_out; most_of_an_aside_bound = omega (arith, c.requires.q_lt_productions, c.put_head-from.ensures.reach, c.put_element-to.ensures.reach) }

pub put_bytes-requires : goal.put_bytes-requires
put_bytes-requires c = omega (arith, c.requires.q_lt_productions, c.put_head-from.ensures.reach, c.put_element-to.ensures.reach, c.put_field-end.ensures.reach)

pub returns : goal.returns
returns c =
    line c.args.s.now c.args.q (record { write = c.args.write; lent = c.args.out.now; at = c.args.at }) _ c.second_program_of-second.ensures.is _ _ _ _ _ _ _ _ c.put_head-from.ensures c.put_element-to.ensures c.put_field-end.ensures c.put_bytes.ensures
