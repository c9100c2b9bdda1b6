use Prim.Native.Nat.{◌≤◌}
use Rattle.shapes.proofs.Naming.{NoneNames}
use Rattle.shapes.proofs.names.Given as goal

-- No node passed so far names the nonterminal; the first that does settles it.
-- Assumes nothing.
abbrev pub invariant-loop-i : goal.invariant-loop-i
invariant-loop-i l = (l.past ≤ l.l.nodes) × NoneNames l.s l.n l.first l.i
