use Rattle.records.proofs.Laws.{tag_put}
use borrow.Author.Rules.{rules}
use Rattle.records.proofs.put_tag.Goals as goal

-- `put_tag`: the name in a row of zeros. Assumes nothing.
pub returns : goal.returns
returns c = search (tag_put, rules)
