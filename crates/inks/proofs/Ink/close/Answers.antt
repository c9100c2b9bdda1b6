use mathlib.Core.Path.{refl}
use Rattle.inks.proofs.Laws.{joined_as}
use borrow.Author.Rules.{rules}
use Rattle.inks.proofs.Ink.close.Goals as goal

-- Each answer by the law that it names. Assumes nothing.
pub returns : goal.returns
returns c = let s = c.args.self in joined_as s s.mode refl c.pop.ensures.held c.pop-2.ensures.held c.joined.ensures
