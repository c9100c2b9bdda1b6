use Rattle.sentences.proofs.Laws.{no_item, may_be_item}
use Rattle.sentences.proofs.is_item.Goals as goal

-- Under 5 none is, from 5 on those under 8.
pub returns-then-k-lt5 : goal.returns-then-k-lt5
returns-then-k-lt5 c = no_item c.args.k c.if-k-lt5.true

pub returns : goal.returns
returns c = may_be_item c.args.k c.if-k-lt5.false
