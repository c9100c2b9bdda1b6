-- The 52 bytes are the smallest sheet: one tag, one production, no node and no program.
-- Assumes nothing.
use mathlib.Core.Path.{refl}
use mathlib.Core.List.{[]}
use native.Mathlib.Omega.{arith}
use Rattle.programs.specs.Section.{no_program}
use Rattle.sheet.specs.Fields.{FieldsAre}
use Rattle.sheet.specs.Sheet.{IsSheet}
use Rattle.runs.specs.Visits.{no_programs_lem}
use Rattle.worked.specs.Worked.{smallest_bytes, smallest}
use Rattle.worked.proofs.Laid.{Laid, laid_is_sheet}

-- both fields are FFFF
no_fields : FieldsAre [] 0xFFFF 0xFFFF no_programs_lem
no_fields = record { first_is = no_program refl; second_is = no_program refl }

laid : Laid smallest_bytes smallest [] []
laid = record {
  sections = refl;
  tags = ((record { a_name = (refl, tt); short = omega arith; spelled = refl }, refl), refl);
  rules = ((refl, record { production_is = record { nonterminal_is = refl; tag_is = refl; content_is = refl }; own_are = no_fields; nodes_are = refl }), refl);
  nodes = refl;
  every_node = refl;
  fill = record { programs = tt; filled = refl };
  start_has = record { number = 0; there = omega arith; its = refl };
  start_fits = omega arith;
  strings_are = refl;
  start_is = refl;
}

pub smallest_is : IsSheet smallest_bytes smallest
smallest_is = laid_is_sheet smallest_bytes smallest [] [] laid
