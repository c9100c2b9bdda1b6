use Prim.Native.Nat.{◌-◌, ◌≤◌}
use native.Mathlib.Omega.{arith}
use lib.ListN.{length}
use Rattle.writer.specs.Walks.{Places, WalkIs}
use borrow.Author.Rules.{rules}
use Rattle.writer.proofs.write.Given as goal

abbrev pub invariant-loop-w : goal.invariant-loop-w
invariant-loop-w l =
    WalkIs l.text l.w l.tags l.tagends l.strings l.stringends l.programs l.programends l.productions l.nodes × (Places l.tags l.tagends l.strings l.stringends l.programs l.programends l.productions l.nodes × (l.w.from ≤ length l.text))

abbrev pub decreases-loop-w : goal.decreases-loop-w
decreases-loop-w l =
    length l.text - l.w.from
