use Rattle.std.proofs.Common.{◌≡◌, length}
use Rattle.losses.proofs.rereading.pass.Given as goal

-- What is left to be passed gets less.
abbrev pub invariant-loop-left : goal.invariant-loop-left
invariant-loop-left l = length l.part ≡ length l.initial.part

abbrev pub decreases-loop-left : goal.decreases-loop-left
decreases-loop-left l = l.left
