use borrow.Author.Rules.{rules}
use Rattle.witness.proofs.Places.{to_tag, to_character, to_the_end}
use Rattle.witness.proofs.firsts.Goals as goal

-- `firsts`: to an atom, or to the end.
-- Assumes nothing.
pub returns-in-Tag : goal.returns-in-Tag
returns-in-Tag c = to_tag _ _ _ _ _ _ c.in-Tag.is c.to_atom.ensures

pub returns-in-Character : goal.returns-in-Character
returns-in-Character c = to_character _ _ _ _ _ c.in-Character.is c.to_atom-in-Character.ensures

pub returns-in-End : goal.returns-in-End
returns-in-End c = to_the_end _ _ _ _ _ c.in-End.is c.to_end.ensures
