use Rattle.wrong.proofs.Laws.{record_is}
use Rattle.wrong.proofs.productions.record_of.Goals as goal

pub returns : goal.returns
returns c = record_is _ c.args.q _ c.requires c.field_of.ensures
