use mathlib.Core.Path.{refl, ap}
use lib.Dec.{ltb}
use Rattle.trees.proofs.can_be.Goals as goal

-- `can_be`: a nonterminal can be the tag that some production of it has, and no other symbol.
-- Assumes nothing.
pub returns-in-Tag : goal.returns-in-Tag
returns-in-Tag c = record { is = rw c.in-Tag.is (ap (ltb 0) c.alike.ensures.is) }

pub returns-in-Character : goal.returns-in-Character
returns-in-Character c = record { is = rw c.in-Character.is refl }

pub returns-in-End : goal.returns-in-End
returns-in-End c = record { is = rw c.in-End.is refl }
