use borrow.Author.Rules.{rules}
use Rattle.rulings.proofs.Rows.{started}
use Rattle.scripts.proofs.Script.fresh.Reads as Script-fresh-reads
use Rattle.rulings.proofs.start.Goals as goal

pub returns : goal.returns
returns c = search (started, rules)
