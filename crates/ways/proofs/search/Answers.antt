use mathlib.Core.Path.{refl, sym, subst}
use Rattle.std.specs.Prelude.{None}
use Rattle.ways.specs.Answers.{WayTold}
use Rattle.ways.proofs.Tellings.{told_tag, told_character, told_end}
use Rattle.ways.proofs.search.Goals as goal

-- `search`: to an atom, or to the end.
-- Assumes nothing.
pub returns-in-Tag : goal.returns-in-Tag
returns-in-Tag c = record { way_told = told_tag _ _ _ _ _ _ _ c.in-Tag.is c.way_to_atom.ensures.atom_way_is; line_len_unchanged = c.way_to_atom.ensures.line_len_unchanged }

pub returns-in-Character : goal.returns-in-Character
returns-in-Character c = record { way_told = told_character _ _ _ _ _ _ c.in-Character.is c.way_to_atom-in-Character.ensures.atom_way_is; line_len_unchanged = c.way_to_atom-in-Character.ensures.line_len_unchanged }

pub returns-in_err-length-in-End : goal.returns-in_err-length-in-End
returns-in_err-length-in-End c =
    record { way_told = subst (λ r. WayTold c.args.x c.args.s.now c.args.q c.args.p r c.way_to_end.new.line) (sym c.from_residual.ensures) (told_end _ _ _ _ None _ c.in-End.is c.in_err-length-in-End.ensures.end_way_is tt); line_len_unchanged = c.way_to_end.ensures.line_len_unchanged }

pub returns-in_ok-length-in-End : goal.returns-in_ok-length-in-End
returns-in_ok-length-in-End c = record { way_told = told_end _ _ _ _ _ _ c.in-End.is c.in_ok-length-in-End.ensures.end_way_is (refl, refl, refl); line_len_unchanged = c.way_to_end.ensures.line_len_unchanged }
