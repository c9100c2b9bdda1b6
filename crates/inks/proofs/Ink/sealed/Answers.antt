use Rattle.pages.specs.Pages.{page_text}
use Rattle.inks.proofs.Laws.{sealed_as}
use borrow.Author.Rules.{rules}
use Rattle.inks.proofs.Ink.sealed.Goals as goal

-- Each answer by the law that it names. Assumes nothing.
pub returns : goal.returns
returns c = let s = c.args.self in record { short = c.push.ensures.short; text = sealed_as (page_text s.page) _ _ c.zeros.ensures.text c.push.ensures.text c.unwind-e.ensures.zeros_are }
