use lib.ListN.{take}
use Rattle.text.specs.declared.Decoded.TheVariants.{Begun}
use Rattle.text.specs.Chars.{DecodedIs}
use Rattle.lexing.proofs.one_character.Given as goal

-- The loop keeps that what is read begins a character.
abbrev pub invariant-loop-j : goal.invariant-loop-j
invariant-loop-j l = DecodedIs (take l.j l.y) Begun
