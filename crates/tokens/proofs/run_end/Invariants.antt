use mathlib.Core.Path.{◌≡◌}
use mathlib.Core.Bool.{Bool}
use Prim.Native.Nat.{ℕ, ◌<◌}
use Rattle.tokens.proofs.Runs
use Rattle.tokens.proofs.run_end.Given as goal

-- The loop keeps a run on its way (`Runs.Going`), of each test that the closure computes.
abbrev pub invariant-loop-i : goal.invariant-loop-i
invariant-loop-i g l = (p : ℕ → Bool) → ((x : ℕ) (r : Bool) → x < 256 → goal.F-post g l.passes x r → r ≡ p x) → Runs.Going p l.f l.from l.i
