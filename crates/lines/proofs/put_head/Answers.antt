use borrow.Author.Rules.{rules}
use native.Mathlib.Omega.{arith}
use Rattle.clauses.proofs.Laws.{decimal_short}
use Rattle.lines.proofs.Laws.{head}
use Rattle.lines.proofs.put_head.Goals as goal

-- Part after part, each no longer than its bound.
pub put_nonterminal-sign-requires : goal.put_nonterminal-sign-requires
put_nonterminal-sign-requires c = omega (arith, c.requires.q_lt_productions, c.nonterminal_of-n.ensures.below)

pub put_bytes-from-requires : goal.put_bytes-from-requires
put_bytes-from-requires c = omega (arith, c.requires.q_lt_productions, c.put_nonterminal-sign.ensures.next, decimal_short c.nonterminal_of-n.result)

pub put_field-requires : goal.put_field-requires
put_field-requires c = record { laid_out = c.requires.laid_out; most_of_an_aside_bound = omega (arith, c.requires.q_lt_productions, c.put_nonterminal-sign.ensures.next, decimal_short c.nonterminal_of-n.result, c.put_bytes-from.ensures.next) }

pub returns : goal.returns
returns c =
    head c.args.s.now c.args.q (record { write = c.args.write; lent = c.args.out.now; at = c.args.at }) _ _ c.nonterminal_of-n.ensures.is c.first_program_of-first.ensures.is _ _ _ _ _ _ c.put_nonterminal-sign.ensures c.put_bytes-from.ensures c.put_field.ensures
