use mathlib.Core.Path.{refl}
use Rattle.programs.specs.Parsed.{unnamed, named}
use Rattle.programs.proofs.start_named.Goals as goal

-- Assumes nothing.
pub returns-then-field-eq65535 : goal.returns-then-field-eq65535
returns-then-field-eq65535 c = unnamed c.if-field-eq65535.true

pub returns-else-field-eq65535 : goal.returns-else-field-eq65535
returns-else-field-eq65535 c = named c.if-field-eq65535.false refl
