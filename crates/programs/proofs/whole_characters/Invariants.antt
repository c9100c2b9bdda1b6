use lib.ListN.{length}
use Rattle.text.specs.Characters.{WholeCharacters}
use Rattle.programs.proofs.whole_characters.Given as goal

-- The invariant: what is left is whole characters exactly when all was. Each turn takes one character from the front. Assumes nothing.
abbrev pub invariant-loop-rest : goal.invariant-loop-rest
invariant-loop-rest l = (WholeCharacters l.rest → WholeCharacters l.f) × (WholeCharacters l.f → WholeCharacters l.rest)

abbrev pub decreases-loop-rest : goal.decreases-loop-rest
decreases-loop-rest l = length l.rest
