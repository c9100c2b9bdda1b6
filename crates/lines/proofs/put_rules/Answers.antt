use borrow.Author.Rules.{rules}
use native.Mathlib.Omega.{arith}
use Rattle.clauses.proofs.Laws.{decimal_short}
use Rattle.lines.proofs.Named.{text}
use Rattle.lines.proofs.put_rules.Goals as goal

-- The start, the end of its line, and all lines.
pub put_nonterminal-end-requires : goal.put_nonterminal-end-requires
put_nonterminal-end-requires c = omega (arith, c.requires.start_bound)

pub put_bytes-from-requires : goal.put_bytes-from-requires
put_bytes-from-requires c = omega (arith, c.requires.start_bound, c.put_nonterminal-end.ensures.next, decimal_short c.args.l.start)

pub put_lines-requires : goal.put_lines-requires
put_lines-requires c = record { laid_out = c.requires.laid_out; runs_inside = c.requires.runs_inside; most_of_atext_bound = omega (arith, c.requires.start_bound, c.put_nonterminal-end.ensures.next, decimal_short c.args.l.start, c.put_bytes-from.ensures.next) }

pub returns : goal.returns
returns c =
    text c.args.s.now (record { write = c.args.write; lent = c.args.out.now; at = c.args.at }) _ c.requires.laid_out.layout_is.start_is.is _ _ _ _ _ _ c.put_nonterminal-end.ensures c.put_bytes-from.ensures c.put_lines.ensures
