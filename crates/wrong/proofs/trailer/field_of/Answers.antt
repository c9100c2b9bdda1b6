use Rattle.wrong.proofs.Laws.{field_is}
use Rattle.wrong.proofs.trailer.field_of.Goals as goal

pub returns : goal.returns
returns c = field_is _ c.args.k _ _ c.start.ensures c.word.ensures
