use borrow.Author.Rules.{rules}
use Rattle.stages.proofs.Laws.{name_longer, name_ends}
use Rattle.stages.proofs.Headway.mixed_name.Goals as goal

pub returns-then-name_byte : goal.returns-then-name_byte
returns-then-name_byte c = search (name_longer, rules)

pub returns : goal.returns
returns c = search (name_ends, rules)
