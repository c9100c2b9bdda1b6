use Prim.Native.Nat.{◌-◌}
use Rattle.layout.specs.Layout.{node_count}
use Rattle.ways.proofs.Passes.{Left}
use Rattle.ways.proofs.pass_tree.Given as goal

-- `pass_tree`: what is left to pass is a list of trees; a node further there is one node less in them.
-- Assumes nothing.
abbrev pub invariant-loop-w : goal.invariant-loop-w
invariant-loop-w l = Left l.s l.at l.w

abbrev pub decreases-loop-w : goal.decreases-loop-w
decreases-loop-w l = node_count l.s - l.w.node
