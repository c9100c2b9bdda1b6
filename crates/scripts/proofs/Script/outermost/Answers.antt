use Rattle.scripts.proofs.Answers.{none_outside_lem}
use Rattle.scripts.proofs.Script.outermost.Goals as goal

-- Each answer by the law that it names. Assumes nothing.
pub returns : goal.returns
returns c = none_outside_lem c.args.self.layers c.close-closed.result.left _ _ c.close-closed.ensures.whole_is
