use Rattle.layout.proofs.Laws.{follows_told}
use Rattle.layout.proofs.follows.Goals as goal

-- The three tests, joined, tell the three facts.
pub returns : goal.returns
returns c = follows_told c.args.at c.args.end c.args.count c.args.least c.args.most
