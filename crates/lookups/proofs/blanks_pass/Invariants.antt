use Prim.Native.Nat.{◌≤◌}
use Rattle.lookups.proofs.Blanks.{NoneOfKind2}
use Rattle.lookups.proofs.blanks_pass.Given as goal

-- No node passed so far is any one character; the first that is settles the test, and so does a production with no nodes.
-- Assumes nothing.
abbrev pub invariant-loop-i : goal.invariant-loop-i
invariant-loop-i l = (l.past ≤ l.l.nodes) × NoneOfKind2 l.s l.first l.i
