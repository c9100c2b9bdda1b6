use mathlib.Core.Path.{◌≡◌}
use Prim.Native.Nat.{ℕ, ◌<◌}
use Rattle.layout.specs.Records.{kind_of, argument_of}
use Rattle.sheet.specs.Grounded.{Produced}
use Rattle.sheet.proofs.grounded.grounded.Given as goal

-- Every atom passed so far has a production; the first that has none settles the test.
abbrev pub invariant-loop-i : goal.invariant-loop-i
invariant-loop-i l = (k : ℕ) → k < l.i → kind_of l.s k ≡ 1 → Produced l.s (argument_of l.s k)
