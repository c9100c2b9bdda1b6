use Rattle.ways.proofs.Atoms.{can_nonterminal, can_character}
use Rattle.ways.proofs.atom_can.Goals as goal

-- `atom_can`: kind 1 is a nonterminal, and of the atoms only kind 2 is left.
-- Assumes nothing.
pub returns-then-kind-eq1 : goal.returns-then-kind-eq1
returns-then-kind-eq1 c = can_nonterminal _ _ _ _ _ c.if-kind-eq1.true c.can_be.ensures

pub returns : goal.returns
returns c = can_character _ _ _ _ _ c.if-kind-eq1.false c.is_character.ensures
