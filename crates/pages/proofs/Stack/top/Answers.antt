use mathlib.Core.Path.{◌≡◌}
use native.Mathlib.Omega.{arith}
use lib.ListN.{length}
use Rattle.pages.proofs.Stacks.{no_top, a_top}
use borrow.Author.Rules.{rules}
use Rattle.pages.proofs.Stack.top.Goals as goal

-- Each answer by the law that it names. Assumes nothing.
pub returns-then-n-eq0 : goal.returns-then-n-eq0
returns-then-n-eq0 c = no_top c.args.self.items c.args.self.count c.if-n-eq0.true

pub returns : goal.returns
returns c = let s = c.args.self in let w : length s.items ≡ 33 = search rules in a_top s.items s.count c.if-n-eq0.false (omega (arith, c.requires))
