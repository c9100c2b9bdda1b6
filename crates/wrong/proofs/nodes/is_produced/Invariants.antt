use Prim.Native.Nat.{ℕ, ◌<◌}
use mathlib.Core.Path.{◌≡◌}
use Rattle.layout.specs.Layout.{Size}
use Rattle.layout.specs.Records.{nonterminal_of}
use Rattle.wrong.proofs.nodes.is_produced.Given as goal

-- Production by production: none that is passed is of the nonterminal.
abbrev pub invariant-loop-q : goal.invariant-loop-q
invariant-loop-q l = (k : ℕ) → k < l.q → Size l.s → nonterminal_of l.s k ≡ l.n → ⊥
