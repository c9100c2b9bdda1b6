use Rattle.pages.proofs.Stacks.{Skipping}
use Rattle.pages.proofs.Stack.skip.Given as goal

-- Each answer by the law that it names. Assumes nothing.
abbrev pub invariant-loop-i : goal.invariant-loop-i
invariant-loop-i l = Skipping l.items l.fn.self.count l.i l.zeros
