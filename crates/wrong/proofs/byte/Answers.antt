use Rattle.wrong.proofs.Laws.{byte_past}
use Rattle.wrong.proofs.byte.Goals as goal

pub returns-else-i-s : goal.returns-else-i-s
returns-else-i-s c = byte_past c.args.s.now c.args.i c.if-i-s.false
