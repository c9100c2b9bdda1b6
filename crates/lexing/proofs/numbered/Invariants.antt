use mathlib.Core.Bool.{true}
use Rattle.lexing.specs.Reads.{stops_at, Halts, NumberBehind}
use Rattle.lexing.proofs.numbered.Given as goal

-- The loop keeps how far the numbers tried so far go.
abbrev pub invariant-loop-n : goal.invariant-loop-n
invariant-loop-n l = Halts (NumberBehind l.a l.n) (stops_at true) l.x l.best
