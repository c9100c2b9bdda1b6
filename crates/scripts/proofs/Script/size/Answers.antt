use native.Mathlib.Omega.{arith}
use Rattle.scripts.proofs.Standings.{firmly, bytes_measured, few_measured}
use Rattle.scripts.proofs.Script.size.Goals as goal

-- Each answer by the law that it names. Assumes nothing.
pub measure-e-requires : goal.measure-e-requires
measure-e-requires c = firmly c.args.self c.requires

pub overflow_add-result : goal.overflow_add-result
overflow_add-result c = record { fits = omega (arith, few_measured c.args.self _ c.requires c.measure-e.ensures) }

pub returns : goal.returns
returns c = omega (arith, bytes_measured c.args.self _ c.requires c.measure-e.ensures)
