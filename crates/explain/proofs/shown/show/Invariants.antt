use lib.ListN.{length}
use Rattle.explain.proofs.shown.show.Given as goal

-- Each turn shows one byte at least.
abbrev pub decreases-loop-left : goal.decreases-loop-left
decreases-loop-left l = length l.left
