use Rattle.posts.proofs.Passing.{pass_defined, pass_post, pass_other}
use borrow.Author.Rules.{rules}
use Rattle.posts.proofs.pass.Goals as goal

-- Each answer by the law that it names. Assumes nothing.
pub returns-then-kind-eq-DEFINED : goal.returns-then-kind-eq-DEFINED
returns-then-kind-eq-DEFINED c = search (pass_defined, rules)

pub returns-then-is_post : goal.returns-then-is_post
returns-then-is_post c = search (pass_post, rules)

pub returns : goal.returns
returns c = search (pass_other, rules)
