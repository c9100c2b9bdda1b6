use mathlib.Core.Path.{refl}
use borrow.Author.Rules.{rules}
use Rattle.converter.proofs.number_without_token.Goals as goal

-- By the reader's answer.
pub returns-in-Token : goal.returns-in-Token
returns-in-Token c = λ b s. rw c.in-Token.is tt

pub returns-in-Waiting : goal.returns-in-Waiting
returns-in-Waiting c = λ b s. rw c.in-Waiting.is tt

pub returns-in-Begun : goal.returns-in-Begun
returns-in-Begun c = λ b s. rw c.in-Begun.is (c.number_begun.ensures b s)

pub returns-in-Bad : goal.returns-in-Bad
returns-in-Bad c = λ b s. rw c.in-Bad.is refl

pub returns-in-Long : goal.returns-in-Long
returns-in-Long c = λ b s. rw c.in-Long.is refl
