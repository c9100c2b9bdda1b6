use Rattle.scripts.proofs.Answers.{ended_none, ended_some}
use Rattle.extents.specs.Held.{extent_of}
use Rattle.scripts.proofs.Script.ended.Goals as goal

-- Each answer by the law that it names. Assumes nothing.
pub returns-then-n-eq0 : goal.returns-then-n-eq0
returns-then-n-eq0 c = ended_none c.args.self.layers c.args.n (extent_of c.args.p) c.if-n-eq0.true

pub returns : goal.returns
returns c = ended_some c.args.self.layers c.args.n (extent_of c.args.p) c.if-n-eq0.false
