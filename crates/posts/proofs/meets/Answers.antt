use Rattle.posts.proofs.Passing.{meets_post, meets_nonterminal}
use borrow.Author.Rules.{rules}
use Rattle.posts.proofs.meets.Goals as goal

-- Each answer by the law that it names. Assumes nothing.
pub returns-in-Post : goal.returns-in-Post
returns-in-Post c = search (meets_post, rules)

pub returns-in-Nonterminal : goal.returns-in-Nonterminal
returns-in-Nonterminal c = search (meets_nonterminal, rules)
