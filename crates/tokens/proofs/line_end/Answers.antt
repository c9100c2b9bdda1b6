use native.Mathlib.Omega.{arith}
use Rattle.tokens.proofs.Reading
use Rattle.tokens.proofs.line_end.Goals as goal

-- Each return cites the law of `Reading` for what follows the carriage return.
pub returns-then-f-eq1 : goal.returns-then-f-eq1
returns-then-f-eq1 c = Reading.cr_waits c.args.f.now c.args.at c.requires.in_bounds.0 c.requires.in_bounds.1 c.if-f-eq1.true

pub returns-then-f-eq10 : goal.returns-then-f-eq10
returns-then-f-eq10 c = Reading.cr_lf c.args.f.now c.args.at c.requires.in_bounds.0 c.requires.in_bounds.1 (omega (arith, c.requires.in_bounds.0)) c.if-f-eq10.true

pub returns : goal.returns
returns c = Reading.cr_alone c.args.f.now c.args.at c.requires.in_bounds.0 c.requires.in_bounds.1 (omega (arith, c.requires.in_bounds.0)) c.if-f-eq10.false
