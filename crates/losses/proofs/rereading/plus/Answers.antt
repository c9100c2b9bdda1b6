use Rattle.losses.proofs.Laws.{line_ended}
use Rattle.losses.proofs.rereading.plus.Goals as goal

pub returns-then-one : goal.returns-then-one
returns-then-one c = line_ended _ _ _ c.if-one.true c.wrapping_add_u64.ensures.value
