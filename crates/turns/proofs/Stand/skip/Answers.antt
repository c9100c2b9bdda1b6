use native.Mathlib.Omega.{arith}
use Rattle.turns.proofs.Laws.{skip_ends, inside_part}
use Rattle.turns.proofs.Stand.skip.Goals as goal

-- What is found settles it.
-- Assumes nothing.
pub resumes-requires : goal.resumes-requires
resumes-requires c = omega (arith, c.requires, inside_part c.args.start.now c.args.end.now c.args.part.now c.args.p.at c.in-Here.to c.resumption-found.result c.resumption-found.ensures c.in-Here.is)

pub returns-in-Here : goal.returns-in-Here
returns-in-Here c = record { found = c.resumption-found.result; is = c.resumption-found.ensures; ends = skip_ends _ _ _ _ _ _ _ _ _ c.in-Here.is c.resumes.ensures }

pub returns-in-Waits : goal.returns-in-Waits
returns-in-Waits c = record { found = c.resumption-found.result; is = c.resumption-found.ensures; ends = skip_ends _ _ _ _ _ _ _ _ _ c.in-Waits.is c.ran_out.ensures }

pub returns-in-Nowhere : goal.returns-in-Nowhere
returns-in-Nowhere c = record { found = c.resumption-found.result; is = c.resumption-found.ensures; ends = skip_ends _ _ _ _ _ _ _ _ _ c.in-Nowhere.is c.ran_out-in-Nowhere.ensures }
