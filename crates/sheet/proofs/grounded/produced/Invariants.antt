use mathlib.Core.Path.{◌≡◌}
use Prim.Native.Nat.{ℕ, ◌<◌}
use Rattle.layout.specs.Records.{nonterminal_of}
use Rattle.sheet.proofs.grounded.produced.Given as goal

-- No production passed so far is of the nonterminal; the first that is settles the test.
abbrev pub invariant-loop-q : goal.invariant-loop-q
invariant-loop-q l = (k : ℕ) → k < l.q → nonterminal_of l.s k ≡ l.n → ⊥
