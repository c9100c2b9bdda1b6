use borrow.Author.Rules.{rules}
use Prim.Native.Nat.{◌+◌}
use native.Mathlib.Omega.{arith}
use lib.ListN.{get_or}
use Rattle.clauses.proofs.Laws.{operand_short, too_short, compared}
use Rattle.clauses.proofs.put_comparison.Goals as goal

-- Five bytes: the first, and two operands of two.
pub returns-then-s-i-lt5 : goal.returns-then-s-i-lt5
returns-then-s-i-lt5 c =
    too_short c.args.s.now c.args.i (record { write = c.args.write; lent = c.args.out.now; at = c.args.at }) c.requires.0 c.requires.1 c.if-s-i-lt5.true

pub put_bytes-m-requires : goal.put_bytes-m-requires
put_bytes-m-requires c =
    omega (arith, c.requires.2, c.if-s-i-lt5.false, c.put_operand-x.ensures.next, operand_short (get_or c.args.s.now (c.args.i + 1) 0) (get_or c.args.s.now (c.args.i + 1 + 1) 0))

pub put_operand-y-requires : goal.put_operand-y-requires
put_operand-y-requires c =
    let short = operand_short (get_or c.args.s.now (c.args.i + 1) 0) (get_or c.args.s.now (c.args.i + 1 + 1) 0) in
    omega (arith, c.requires.2, c.if-s-i-lt5.false, c.put_operand-x.ensures.next, c.put_bytes-m.ensures.next, short)

pub returns : goal.returns
returns c =
    compared c.args.s.now c.args.i (record { write = c.args.write; lent = c.args.out.now; at = c.args.at }) c.requires.0 c.requires.1 (omega (arith, c.if-s-i-lt5.false)) _ _ _ _ _ _ c.put_operand-x.ensures c.put_bytes-m.ensures c.put_operand-y.ensures
