use mathlib.Core.Path.{◌∙◌, ap}
use Rattle.strokes.specs.Strokes.{stacked}
use borrow.Author.Rules.{rules}
use Rattle.inks.proofs.Ink.fresh.Goals as goal

-- Each answer by the law that it names. Assumes nothing.
pub returns : goal.returns
returns c = let e = c.fresh-bare.ensures in record { trim = record { short = c.fresh-page.ensures.short; few_marks = c.push-marks.ensures.few; few_ors = e.few; few_ands = e.few }; same = cc (c.fresh-page.ensures.text, c.push-marks.ensures.held ∙ ap (stacked 0) e.held, e.held) }
