use mathlib.Core.Path.{refl, ◌∙◌, ap}
use lib.ListN.{length}
use Rattle.strokes.specs.Strokes.{inserted_at, topped}
use Rattle.pages.specs.Pages.{page_text, stack_of}
use Rattle.inks.proofs.Laws.{joined_as}
use borrow.Author.Rules.{rules}
use Rattle.inks.proofs.Ink.or.Goals as goal

-- Each answer by the law that it names. Assumes nothing.
pub returns : goal.returns
returns c = let s = c.args.self in let e = c.insert-written.ensures.text ∙ ap (λ z. inserted_at z 3 (page_text s.page)) c.top.ensures in joined_as s s.mode e refl (c.topped-joints.ensures.held ∙ ap (λ z. topped z (stack_of s.ands)) (c.size.ensures ∙ ap length e)) c.joined.ensures
