use borrow.Author.Rules.{rules}
use Rattle.drafts.proofs.Stays.{unbraced_is}
use Rattle.drafts.proofs.unbrace.Goals as goal

pub returns : goal.returns
returns c = search (unbraced_is, rules)
