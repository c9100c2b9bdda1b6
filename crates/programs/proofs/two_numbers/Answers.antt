use native.Mathlib.Omega.{arith}
use Rattle.tells.specs.Tells.{holds, fails}
use Rattle.programs.proofs.two_numbers.Goals as goal

-- Each test that fails refutes its part, and past all of them each part holds. Assumes nothing.
pub returns-then-s-i-lt3 : goal.returns-then-s-i-lt3
returns-then-s-i-lt3 c = fails (λ w. omega arith)

pub returns-then-a-s : goal.returns-then-a-s
returns-then-a-s c = fails (λ w. omega arith)

pub returns-then-b-s : goal.returns-then-b-s
returns-then-b-s c = fails (λ w. omega arith)

pub returns : goal.returns
returns c = holds (omega arith, omega arith, omega arith)
