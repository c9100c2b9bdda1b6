use mathlib.Core.Path.{sym, ◌∙◌, ap}
use Rattle.scripts.specs.Scripts.{reading_place}
use Rattle.outlines.specs.Statements.{kernel, at}
use Rattle.scripts.proofs.place_kernel.Goals as goal

-- Each answer by the law that it names. Assumes nothing.
pub returns-in-Opening : goal.returns-in-Opening
returns-in-Opening c = (c.plainly.ensures.0 ∙ ap (λ x. kernel (at (reading_place x))) (sym c.in-Opening.is), c.plainly.ensures.1)

pub returns-in-Separated : goal.returns-in-Separated
returns-in-Separated c = (c.plainly-in-Separated.ensures.0 ∙ ap (λ x. kernel (at (reading_place x))) (sym c.in-Separated.is), c.plainly-in-Separated.ensures.1)

pub returns-in-Branching : goal.returns-in-Branching
returns-in-Branching c = (c.plainly-in-Branching.ensures.0 ∙ ap (λ x. kernel (at (reading_place x))) (sym c.in-Branching.is), c.plainly-in-Branching.ensures.1)
