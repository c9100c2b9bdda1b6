use mathlib.Core.Path.{refl, ◌∙◌, ap}
use Rattle.strokes.specs.Strokes.{stacked}
use Rattle.pages.specs.Pages.{stack_of}
use Rattle.inks.proofs.Laws.{joined_as}
use borrow.Author.Rules.{rules}
use Rattle.inks.proofs.Ink.open.Goals as goal

-- Each answer by the law that it names. Assumes nothing.
pub returns : goal.returns
returns c = let s = c.args.self in let g = c.size-at.ensures in joined_as s s.mode refl (c.push.ensures.held ∙ ap (λ z. stacked z (stack_of s.ors)) g) (c.push-2.ensures.held ∙ ap (λ z. stacked z (stack_of s.ands)) g) c.joined.ensures
