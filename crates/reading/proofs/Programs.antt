-- Statements one after the other. Assumes nothing.
use mathlib.Core.Path.{◌≡◌, refl, ap}
use Rattle.notation.specs.Program.{TextProgram, done, step, ◌then◌}

pub then_assoc : (p q r : TextProgram) → (p then q) then r ≡ p then (q then r)
then_assoc done q r = refl
then_assoc (step t p) q r = ap (step t) (then_assoc p q r)
