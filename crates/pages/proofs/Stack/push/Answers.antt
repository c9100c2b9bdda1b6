use mathlib.Core.Path.{◌≡◌}
use native.Mathlib.Omega.{arith}
use lib.ListN.{length}
use Rattle.pages.proofs.Stacks.{stack_full, stack_room}
use borrow.Author.Rules.{rules}
use Rattle.pages.proofs.Stack.push.Goals as goal

-- Each answer by the law that it names. Assumes nothing.
pub returns-then-n-ge33 : goal.returns-then-n-ge33
returns-then-n-ge33 c = let s = c.args.self in record { few = search rules; held = stack_full s.items s.count _ c.if-n-ge33.true }

pub returns : goal.returns
returns c = let s = c.args.self in let w : length s.items ≡ 33 = search rules in record { few = search rules; held = stack_room s.items s.count _ w (omega (arith, c.if-n-ge33.false)) }
