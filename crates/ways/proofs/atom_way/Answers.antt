use mathlib.Core.Path.{refl}
use Rattle.ways.proofs.Atoms.{atom_cannot, atom_reached}
use Rattle.ways.proofs.atom_way.Goals as goal

-- `atom_way`: the atom can be x or not.
-- Assumes nothing.
pub returns-then-not-atom_can : goal.returns-then-not-atom_can
returns-then-not-atom_can c = λ b. atom_cannot _ _ _ _ _ _ _ c.kind_of-kind.ensures.is c.argument_of-argument.ensures.is _ c.atom_can.ensures c.if-not-atom_can.true

pub returns : goal.returns
returns c = λ b. atom_reached _ _ _ _ _ _ _ c.kind_of-kind.ensures.is c.argument_of-argument.ensures.is _ c.atom_can.ensures _ refl refl refl refl c.if-not-atom_can.false
