use Rattle.sealing.proofs.Laws.{seals_short, seals_whole}
use borrow.Author.Rules.{rules}
use Rattle.sealing.proofs.seal.Goals as goal

-- `seal`: too short, or written. Assumes nothing.
pub returns-then-area-need : goal.returns-then-area-need
returns-then-area-need c = search (seals_short, rules)

pub returns : goal.returns
returns c = search (seals_whole, rules)
