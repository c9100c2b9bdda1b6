use Rattle.wrong.proofs.Laws.{word_is}
use Rattle.wrong.proofs.word.Goals as goal

pub returns : goal.returns
returns c = word_is _ c.args.i _ _ c.small.ensures c.small-2.ensures
