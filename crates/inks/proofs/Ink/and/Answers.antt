use mathlib.Core.Path.{◌∙◌, ap}
use Rattle.strokes.specs.Strokes.{inserted_at}
use Rattle.pages.specs.Pages.{page_text}
use Rattle.inks.proofs.Laws.{paged_as}
use borrow.Author.Rules.{rules}
use Rattle.inks.proofs.Ink.and.Goals as goal

-- Each answer by the law that it names. Assumes nothing.
pub returns : goal.returns
returns c = let s = c.args.self in paged_as s s.mode (c.insert-written.ensures.text ∙ ap (λ z. inserted_at z 2 (page_text s.page)) c.top.ensures) c.paged.ensures
