use Rattle.std.proofs.Common.{◌-◌, ◌≤◌, length}
use Rattle.modelling.proofs.names.next_name.Given as goal

abbrev pub invariant-loop-w : goal.invariant-loop-w
invariant-loop-w l = (l.at ≤ l.w.from) × (l.w.from ≤ l.w.to) × (l.w.to ≤ length l.text)

abbrev pub decreases-loop-w : goal.decreases-loop-w
decreases-loop-w l = length l.text - l.w.from
