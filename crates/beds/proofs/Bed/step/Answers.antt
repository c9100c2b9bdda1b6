use Rattle.beds.proofs.Pieces.{nonterminal_is, character_is, open_kind, close_kind, brace_kind, dot_kind, bar_kind, star_kind, empty_is, other_kind}
use borrow.Author.Rules.{rules}
use Rattle.beds.proofs.Bed.step.Goals as goal

-- `Bed::step`: by the kind of the token. Assumes nothing.
pub returns-in-0 : goal.returns-in-0
returns-in-0 c = search (nonterminal_is, rules)

pub returns-in-10 : goal.returns-in-10
returns-in-10 c = search (character_is, rules)

pub returns-in-25 : goal.returns-in-25
returns-in-25 c = search (open_kind, rules)

pub returns-in-26 : goal.returns-in-26
returns-in-26 c = search (close_kind, rules)

pub returns-in-27 : goal.returns-in-27
returns-in-27 c = search (brace_kind, rules)

pub returns-in-29 : goal.returns-in-29
returns-in-29 c = search (dot_kind, rules)

pub returns-in-30 : goal.returns-in-30
returns-in-30 c = search (bar_kind, rules)

pub returns-in-31 : goal.returns-in-31
returns-in-31 c = search (star_kind, rules)

pub returns-in-34 : goal.returns-in-34
returns-in-34 c = search (empty_is, rules)

pub returns-in_default : goal.returns-in_default
returns-in_default c = search (other_kind, rules)
