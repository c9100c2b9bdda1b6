use mathlib.Core.Path.{◌≡◌}
use mathlib.Core.Bool.{false}
use Prim.Native.Nat.{ℕ, ◌<◌}
use Rattle.lookups.proofs.Firsts.{is_for}
use Rattle.lookups.proofs.production_for.Given as goal

-- No production passed so far is of the nonterminal and the tag; the first that is settles it.
-- Assumes nothing.
abbrev pub invariant-loop-q : goal.invariant-loop-q
invariant-loop-q l = (k : ℕ) → k < l.q → is_for l.s l.n l.t k ≡ false
