use Rattle.tokens.proofs.Numerals
use Rattle.tokens.proofs.number.Given as goal

-- The loop keeps the digits read so far and the number that they name (`Numerals.Counted`); each return cites the law of `Numerals` for the byte it comes to.
abbrev pub invariant-loop-i : goal.invariant-loop-i
invariant-loop-i l = Numerals.Counted l.f l.from l.radix l.i l.n
