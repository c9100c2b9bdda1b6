use lib.ListN.{take}
use Rattle.state.specs.Bytes.{state_from}
use Rattle.fit.proofs.Frames.{Left}
use Rattle.fit.proofs.frames_fit.Given as goal

-- The loop is stated by the frames that are left: all fit exactly if those fit where the last place lets them.
-- Assumes nothing.
abbrev pub invariant-loop-i : goal.invariant-loop-i
invariant-loop-i l = Left l.s (take l.n (state_from l.state).frames) l.may l.i
