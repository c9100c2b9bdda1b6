use borrow.Author.Rules.{rules}
use Rattle.drafts.proofs.Laws.{ready_opened, ready_next, moved_as}
use Rattle.drafts.proofs.after_move.Goals as goal

pub opened-requires : goal.opened-requires
opened-requires c = ready_opened _ _ c.requires.1 c.in-Opened.is

pub next-requires : goal.next-requires
next-requires c = ready_next _ _ _ c.requires.0 c.requires.1 c.in-Next.is

pub returns-in-To : goal.returns-in-To
returns-in-To c = search (moved_as, rules)

pub returns-in-Opened : goal.returns-in-Opened
returns-in-Opened c = search (moved_as, rules)

pub returns-in-Closed : goal.returns-in-Closed
returns-in-Closed c = search (moved_as, rules)

pub returns-in-Emptied : goal.returns-in-Emptied
returns-in-Emptied c = search (moved_as, rules)

pub returns-in-Next : goal.returns-in-Next
returns-in-Next c = search (moved_as, rules)
