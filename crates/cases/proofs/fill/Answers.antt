use mathlib.Core.Path.{sym, subst}
use borrow.Author.Rules.{rules}
use Rattle.cases.specs.Kept.{AllAre}
use Rattle.cases.proofs.Laws.{all_replicated}
use Rattle.cases.proofs.fill.Goals as goal

pub returns : goal.returns
returns c = subst (AllAre _) (sym (c.fill.ensures.after (λ y q. search rules))) (all_replicated _ _)
