use borrow.Author.Rules.{rules}
use Rattle.paces.proofs.Laws.{choice_nonterminal, choice_name, choice_definition, choice_open, choice_brace, choice_other}
use Rattle.paces.proofs.moves.choice.Goals as goal

pub returns-in-Nonterminal : goal.returns-in-Nonterminal
returns-in-Nonterminal c = search (choice_nonterminal, rules)

pub returns-in-Name : goal.returns-in-Name
returns-in-Name c = search (choice_name, rules)

pub returns-in-Definition : goal.returns-in-Definition
returns-in-Definition c = search (choice_definition, rules)

pub returns-in-Open : goal.returns-in-Open
returns-in-Open c = search (choice_open, rules)

pub returns-in-Brace : goal.returns-in-Brace
returns-in-Brace c = search (choice_brace, rules)

pub returns-in-Other : goal.returns-in-Other
returns-in-Other c = search (choice_other, rules)
