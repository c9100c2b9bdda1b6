use Prim.Native.Nat.{◌+◌, ◌≤◌}
use Rattle.whereabouts.proofs.parts.atom_number.Given as goal

-- A node is passed in each turn, and the number rises by one at most.
abbrev pub invariant-loop-k : goal.invariant-loop-k
invariant-loop-k l = (l.number ≤ l.k + 1) × (l.number ≤ l.i + 1)
