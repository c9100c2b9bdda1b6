use Rattle.stretches.specs.Stretched.{BlanksAs}
use Rattle.stretches.proofs.blanks.Given as goal

-- The loop passes over one byte of white space.
abbrev pub invariant-loop-behind : goal.invariant-loop-behind
invariant-loop-behind l = BlanksAs l.part l.from l.behind
