use Rattle.pages.proofs.Stacks.{Unwinding}
use Rattle.pages.proofs.Stack.unwind.Given as goal

-- Each answer by the law that it names. Assumes nothing.
abbrev pub invariant-loop-i : goal.invariant-loop-i
invariant-loop-i l = Unwinding l.items l.fn.self.count l.i l.zeros
