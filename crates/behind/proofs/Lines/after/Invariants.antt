use Rattle.std.proofs.Common.{◌≡◌, suc, ◌-◌, ◌≤◌, length, drop}
use Rattle.behind.specs.Lines.{open_on, lines_passing}
use Rattle.behind.proofs.Lines.after.Given as goal

-- The bytes are passed tag by tag.
abbrev pub invariant-loop-i : goal.invariant-loop-i
invariant-loop-i l =
    (l.i ≤ suc (length l.passed)) × (length l.lines ≡ 32) × (lines_passing (open_on l.depth l.lines) (drop l.i l.passed) l.here ≡ lines_passing (open_on l.initial.depth l.initial.lines) l.passed l.line)

abbrev pub decreases-loop-i : goal.decreases-loop-i
decreases-loop-i l = suc (length l.passed) - l.i
