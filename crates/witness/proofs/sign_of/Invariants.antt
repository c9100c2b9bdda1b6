use mathlib.Core.Path.{◌≡◌}
use Prim.Native.Nat.{ℕ, ◌<◌}
use lib.ListN.{length, get_or}
use Rattle.witness.proofs.sign_of.Given as goal

-- Every byte passed so far is the same in both; the first that is not tells the sign.
-- Assumes nothing.
abbrev pub invariant-loop-c : goal.invariant-loop-c
invariant-loop-c l = (i : ℕ) → i < length l.yielded → get_or l.a i 0 ≡ get_or l.b i 0
