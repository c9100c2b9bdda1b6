use native.Mathlib.Omega.{arith}
use borrow.Author.Rules.{rules}
use Rattle.live.proofs.Stacks.{pop_none, pop_root, pop_inner}
use Rattle.live.proofs.Live.pop.Goals as goal

-- src/lib.rt:56:13
pub returns-then-d-eq0 : goal.returns-then-d-eq0
returns-then-d-eq0 c = pop_none c.args.base c.args.self c.args.stack.now c.if-d-eq0.true

-- src/lib.rt:59:22
-- src/lib.rt:62:13
pub returns-then-d-eq1 : goal.returns-then-d-eq1
returns-then-d-eq1 c = pop_root c.args.base c.args.self c.args.stack.now c.if-d-eq1.true

-- src/lib.rt:64:51
-- src/lib.rt:64:36
-- src/lib.rt:64:9
-- src/lib.rt:50:5
pub returns : goal.returns
returns c = pop_inner c.args.base c.args.self c.args.stack.now _ c.if-d-eq0.false c.if-d-eq1.false c.used_at-next.ensures
