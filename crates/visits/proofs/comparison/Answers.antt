use native.Mathlib.Omega.{arith}
use Rattle.visits.proofs.Evaluating.{too_short, compared}
use Rattle.visits.proofs.comparison.Goals as goal

-- Five bytes: the first, and two operands of two.
pub returns-then-s-i-lt5 : goal.returns-then-s-i-lt5
returns-then-s-i-lt5 c =
    too_short c.args.s.now c.args.i c.args.kept c.args.values c.requires.0 c.requires.1 c.if-s-i-lt5.true

pub returns : goal.returns
returns c =
    compared c.args.s.now c.args.i c.args.kept c.args.values c.requires.0 c.requires.1 (omega arith) _ _ c.operand-x.ensures c.operand-y.ensures
