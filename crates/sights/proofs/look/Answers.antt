use Rattle.sights.proofs.Bounds.{skipped_as}
use Rattle.sights.proofs.Seen.{seen_whole, seen_early, seen_comment}
use borrow.Author.Rules.{rules}
use Rattle.sights.proofs.look.Goals as goal

pub returns-then-may_end : goal.returns-then-may_end
returns-then-may_end c = search (seen_whole, skipped_as, rules)

pub returns-in-End : goal.returns-in-End
returns-in-End c = search (seen_early, skipped_as, rules)

pub returns-in-Bad : goal.returns-in-Bad
returns-in-Bad c = search (seen_comment, skipped_as, rules)
