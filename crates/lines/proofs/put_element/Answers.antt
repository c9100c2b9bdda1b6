use borrow.Author.Rules.{rules}
use native.Mathlib.Omega.{arith}
use Rattle.lines.proofs.Laws.{element}
use Rattle.lines.proofs.put_element.Goals as goal

-- The name, and the content in parentheses.
pub put_name-name-requires : goal.put_name-name-requires
put_name-name-requires c = omega (arith, c.requires.q_lt_productions, c.tag_number_of-t.ensures.below)

pub put_bytes-from-requires : goal.put_bytes-from-requires
put_bytes-from-requires c = omega (arith, c.requires.q_lt_productions, c.put_name-name.ensures.reach)

pub put_content-to-requires : goal.put_content-to-requires
put_content-to-requires c = record { laid_out = c.requires.laid_out; runs_inside = c.requires.runs_inside; q_lt_productions = omega (arith, c.requires.q_lt_productions, c.put_name-name.ensures.reach, c.put_bytes-from.ensures.next) }

pub put_bytes-requires : goal.put_bytes-requires
put_bytes-requires c = omega (arith, c.requires.q_lt_productions, c.put_name-name.ensures.reach, c.put_bytes-from.ensures.next, c.put_content-to.ensures.reach)

pub returns : goal.returns
returns c = element c.args.s.now c.args.q (record { write = c.args.write; lent = c.args.out.now; at = c.args.at }) _ c.tag_number_of-t.ensures.is _ _ _ _ _ _ _ _ c.put_name-name.ensures c.put_bytes-from.ensures c.put_content-to.ensures c.put_bytes.ensures
