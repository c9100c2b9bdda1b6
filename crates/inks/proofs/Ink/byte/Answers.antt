use Rattle.inks.proofs.Laws.{paged_as}
use borrow.Author.Rules.{rules}
use Rattle.inks.proofs.Ink.byte.Goals as goal

-- Each answer by the law that it names. Assumes nothing.
pub returns : goal.returns
returns c = let s = c.args.self in paged_as s s.mode c.push-written.ensures.text c.paged.ensures
