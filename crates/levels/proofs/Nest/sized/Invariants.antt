use Rattle.levels.proofs.Measuring.{Outward}
use Rattle.levels.proofs.Nest.sized.Given as goal

-- `Nest::sized`: from the innermost pair outward; what is left is measured with the model so far. Assumes nothing.
abbrev pub invariant-loop-i : goal.invariant-loop-i
invariant-loop-i l = Outward l.around l.«open» l.initial.size l.i l.size
