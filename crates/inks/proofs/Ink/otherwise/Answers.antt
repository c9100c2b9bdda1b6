use mathlib.Core.Path.{◌∙◌, ap}
use lib.ListN.{replicate}
use Rattle.strokes.specs.Strokes.{written_on, topped}
use Rattle.pages.specs.Pages.{page_text}
use Rattle.inks.proofs.Laws.{marked_as}
use borrow.Author.Rules.{rules}
use Rattle.inks.proofs.Ink.otherwise.Goals as goal

-- Each answer by the law that it names. Assumes nothing.
pub returns : goal.returns
returns c = let s = c.args.self in marked_as s s.mode (c.zeros-written.ensures.text ∙ ap (λ z. written_on (page_text s.page) (replicate z 0)) c.skip-e.ensures.zeros_are) (c.topped-left.ensures.held ∙ ap (topped 1) (c.cut.ensures.held ∙ c.skip-e.ensures.left_are)) c.marked.ensures
