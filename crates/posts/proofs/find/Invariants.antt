use Prim.Native.Nat.{◌-◌}
use lib.ListN.{length}
use Rattle.posts.proofs.Walking.{Onward}
use Rattle.posts.proofs.find.Given as goal

-- The walk is kept token by token, and falls by the bytes that are left. Assumes nothing.
abbrev pub invariant-loop-token : goal.invariant-loop-token
invariant-loop-token l = Onward l.text l.wanted l.from l.m l.reader

abbrev pub decreases-loop-token : goal.decreases-loop-token
decreases-loop-token l = length l.text - l.from
