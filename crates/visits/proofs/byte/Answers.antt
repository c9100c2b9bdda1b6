use mathlib.Core.Path.{sym}
use lib.ListN.{get_or-eq_default}
use Rattle.visits.proofs.byte.Goals as goal

-- Past the end there is no byte, and getD answers its default.
pub returns-else-i-s : goal.returns-else-i-s
returns-else-i-s c = sym (get_or-eq_default c.args.s.now 0 c.if-i-s.false)
