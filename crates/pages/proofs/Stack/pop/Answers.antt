use mathlib.Core.Path.{◌≡◌, ◌∙◌}
use native.Mathlib.Omega.{arith}
use lib.ListN.{length}
use Rattle.pages.proofs.Stacks.{no_rest, a_rest}
use borrow.Author.Rules.{rules}
use Rattle.pages.proofs.Stack.pop.Goals as goal

-- Each answer by the law that it names. Assumes nothing.
pub returns-then-n-eq0 : goal.returns-then-n-eq0
returns-then-n-eq0 c = let s = c.args.self in record { few = search rules; held = no_rest s.items s.count c.if-n-eq0.true }

pub returns : goal.returns
returns c = let s = c.args.self in let w : length s.items ≡ 33 = search rules in record { few = c.cut.ensures.few; held = c.cut.ensures.held ∙ a_rest s.items s.count c.if-n-eq0.false (omega (arith, c.requires)) }
