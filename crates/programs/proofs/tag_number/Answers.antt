use native.Mathlib.Omega.{arith}
use Rattle.tells.specs.Tells.{holds, fails}
use Rattle.programs.proofs.tag_number.Goals as goal

-- Each test that fails refutes its part, and past both each part holds. Assumes nothing.
pub returns-then-s-i-lt2 : goal.returns-then-s-i-lt2
returns-then-s-i-lt2 c = fails (λ w. omega arith)

pub returns-then-tags-from : goal.returns-then-tags-from
returns-then-tags-from c = fails (λ w. omega arith)

pub returns : goal.returns
returns c = holds (omega arith, omega arith)
