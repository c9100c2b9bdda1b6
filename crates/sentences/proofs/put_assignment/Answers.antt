use native.Mathlib.Omega.{arith}
use Rattle.output.proofs.Writing.{put_then}
use Rattle.clauses.proofs.Laws.{operand_short}
use Rattle.sentences.proofs.put_assignment.Goals as goal

-- An operand, the sign, an operand, one after the other.
pub put_bytes-n-requires : goal.put_bytes-n-requires
put_bytes-n-requires c = omega (arith, c.requires, c.put_operand-m.ensures.next, operand_short 1 c.args.a)

pub put_operand-requires : goal.put_operand-requires
put_operand-requires c = (omega arith, omega (arith, c.requires, c.put_operand-m.ensures.next, c.put_bytes-n.ensures.next, operand_short 1 c.args.a))

pub returns : goal.returns
returns c = put_then _ _ _ _ _ _ _ _ _ c.put_operand-m.ensures (put_then _ _ _ _ _ _ _ _ _ c.put_bytes-n.ensures c.put_operand.ensures)
