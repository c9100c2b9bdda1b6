use native.Mathlib.Omega.{arith}
use Rattle.tokens.proofs.Numerals
use Rattle.tokens.proofs.numeric.Goals as goal

-- What opens the reference chooses the base (`OpensNumeric`).
pub returns-then-f-eq2 : goal.returns-then-f-eq2
returns-then-f-eq2 c = Numerals.begun_number c.args.f.now c.args.at c.if-f-eq2.true c.requires.in_bounds.1 c.requires.in_bounds.2

pub number-requires : goal.number-requires
number-requires c = record { front = c.requires.front; opens_numeric = Numerals.opened_hex c.args.f.now (omega (arith, c.requires.in_bounds.0, c.if-f-eq2.false)) c.requires.in_bounds.1 c.requires.in_bounds.2 c.if-f-eq120.true }

pub number-requires-2 : goal.number-requires-2
number-requires-2 c = record { front = c.requires.front; opens_numeric = Numerals.opened_decimal c.args.f.now (omega (arith, c.requires.in_bounds.0, c.if-f-eq2.false)) c.requires.in_bounds.1 c.requires.in_bounds.2 c.if-f-eq120.false }
