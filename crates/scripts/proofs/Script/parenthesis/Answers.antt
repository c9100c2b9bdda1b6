use mathlib.Core.Path.{◌∙◌}
use Rattle.scripts.proofs.Answers.{no_open, full_open, open_some}
use Rattle.scripts.specs.Scripts.{layers_in}
use Rattle.scripts.proofs.Script.parenthesis.Goals as goal

-- Each answer by the law that it names. Assumes nothing.
pub returns-then-deep-eq0 : goal.returns-then-deep-eq0
returns-then-deep-eq0 c = no_open (layers_in c.args.self) c.args.self.margins c.args.self.deep c.if-deep-eq0.true

pub returns-then-deep-ge-MOST : goal.returns-then-deep-ge-MOST
returns-then-deep-ge-MOST c = full_open (layers_in c.args.self) c.args.self.margins c.args.self.deep c.if-deep-ge-MOST.true

pub returns : goal.returns
returns c = c.margined.ensures ∙ open_some (layers_in c.args.self) c.args.self.margins c.args.self.deep c.if-deep-eq0.false c.if-deep-ge-MOST.false
