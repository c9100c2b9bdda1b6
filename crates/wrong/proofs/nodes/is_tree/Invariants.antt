use Prim.Native.Nat.{◌<◌}
use Rattle.wrong.proofs.nodes.is_tree.Given as goal

-- Node by node; the level stays within the memory for levels.
abbrev pub invariant-loop-k : goal.invariant-loop-k
invariant-loop-k l = l.deep < 16
