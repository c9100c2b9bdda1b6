use native.Mathlib.Omega.{arith}
use Rattle.faults.specs.Part.{some_T, only_S, neither}
use Rattle.faults.proofs.fault_number.Goals as goal

-- Each answer by the tests that lead to it.
pub returns-then-ends-gt0 : goal.returns-then-ends-gt0
returns-then-ends-gt0 c = some_T (λ z. omega (arith, z, c.if-ends-gt0.true))

pub returns-then-ends-gt0-2 : goal.returns-then-ends-gt0-2
returns-then-ends-gt0-2 c = only_S (omega (arith, c.if-ends-gt0.false)) (λ z. omega (arith, z, c.if-ends-gt0-2.true))

pub returns : goal.returns
returns c = neither (omega (arith, c.if-ends-gt0.false)) (omega (arith, c.if-ends-gt0-2.false))
