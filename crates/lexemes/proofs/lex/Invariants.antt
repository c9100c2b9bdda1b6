use Rattle.lexing.specs.Front.{Stuck}
use Rattle.lexemes.proofs.Found.{Below}
use Rattle.lexemes.proofs.lex.Given as goal

-- The loop keeps how far the kinds tried so far go.
abbrev pub invariant-loop-k : goal.invariant-loop-k
invariant-loop-k l = Stuck (Below l.allowed-items l.k) l.x l.best
