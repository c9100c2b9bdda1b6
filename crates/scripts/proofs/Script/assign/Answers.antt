use mathlib.Core.Path.{◌∙◌}
use Rattle.scripts.proofs.Answers.{taken_if, none_if}
use borrow.Author.Tests.{eq-eqb, ne_eqb}
use Rattle.scripts.proofs.Script.assign.Goals as goal

-- Each answer by the law that it names. Assumes nothing.
pub returns-then-kind-eq24 : goal.returns-then-kind-eq24
returns-then-kind-eq24 c = c.staged.ensures ∙ taken_if _ _ (eq-eqb c.args.kind 24 c.if-kind-eq24.true)

pub returns : goal.returns
returns c = none_if _ _ (ne_eqb c.args.kind 24 c.if-kind-eq24.false)
