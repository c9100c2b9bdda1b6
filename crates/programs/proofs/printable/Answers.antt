use native.Mathlib.Omega.{arith}
use Rattle.tells.specs.Tells.{fails}
use Rattle.programs.proofs.Characters.{range_told}
use Rattle.programs.proofs.printable.Goals as goal

-- A range that does not lie in the strings fails by its ends, another is as its part of the strings is. Assumes nothing.
pub returns-then-strings-o : goal.returns-then-strings-o
returns-then-strings-o c = fails (λ w. omega arith)

pub returns-then-strings-o-2 : goal.returns-then-strings-o-2
returns-then-strings-o-2 c = fails (λ w. omega arith)

pub returns : goal.returns
returns c = range_told c.args.strings.now c.args.o c.args.n (omega arith) c.whole_characters.ensures
