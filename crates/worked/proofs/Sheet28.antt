-- The 264 bytes are Example 28's sheet: a row of facts for each tag, production and node, computed from the bytes.
-- Assumes nothing.
use mathlib.Core.Path.{◌≡◌, refl}
use mathlib.Core.Bool.{true, false}
use mathlib.Core.List.{List, [], ◌∷◌, ◌++◌}
use Prim.Native.Nat.{ℕ, ◌<◌}
use native.Mathlib.Omega.{arith}
use lib.ListN.{replicate}
use Rattle.programs.specs.Program.{Program, echo}
use Rattle.programs.specs.Section.{no_program, names}
use Rattle.layout.specs.Records.{nonterminal_of}
use Rattle.sheet.specs.Fields.{Visits, FieldsAre}
use Rattle.sheet.specs.Grounded.{Produced}
use Rattle.sheet.specs.Sheet.{IsSheet}
use Rattle.runs.specs.Visits.{no_programs_lem}
use Rattle.runs.specs.Examples.{program, first_only}
use Rattle.worked.specs.Worked.{bytes28, sheet28}
use Rattle.worked.proofs.Laid.{other, Laid, laid_is_sheet}

abbrev on : Program
on = program (echo true ∷ [])

abbrev off : Program
off = program (echo false ∷ [])

abbrev both : List Program
both = on ∷ off ∷ []

no_fields : FieldsAre both 0xFFFF 0xFFFF no_programs_lem
no_fields = record { first_is = no_program refl; second_is = no_program refl }

-- the fields of production 0, and of node 7
on_first : FieldsAre both 0 0xFFFF (first_only (echo true ∷ []))
on_first = record { first_is = names (λ e. omega arith) on (record { before = []; after = off ∷ []; are = refl; offset = refl }) refl; second_is = no_program refl }

off_first : FieldsAre both 2 0xFFFF (first_only (echo false ∷ []))
off_first = record { first_is = names (λ e. omega arith) off (record { before = on ∷ []; after = []; are = refl; offset = refl }) refl; second_is = no_program refl }

produced : (q : ℕ) → q < 5 → nonterminal_of bytes28 q ≡ q → Produced bytes28 q
produced q h e = record { number = q; there = h; its = e }

abbrev of_nodes : List Visits
of_nodes = replicate 7 no_programs_lem ++ first_only (echo false ∷ []) ∷ replicate 8 no_programs_lem

laid : Laid bytes28 sheet28 both of_nodes
laid = record {
  sections = refl;
  tags = ((record { a_name = (refl, (refl, (refl, tt))); short = omega arith; spelled = refl }, refl), ((record { a_name = (refl, (refl, (refl, (refl, tt)))); short = omega arith; spelled = refl }, refl), ((record { a_name = (refl, (refl, (refl, (refl, (refl, tt))))); short = omega arith; spelled = refl }, refl), ((record { a_name = (refl, (refl, (refl, (refl, (refl, (refl, tt)))))); short = omega arith; spelled = refl }, refl), ((record { a_name = (refl, (refl, (refl, (refl, tt)))); short = omega arith; spelled = refl }, refl), refl)))));
  rules = ((refl, record { production_is = record { nonterminal_is = refl; tag_is = refl; content_is = ((refl, refl, (refl, refl, omega arith)), refl, omega arith) }; own_are = on_first; nodes_are = (no_fields, (no_fields, refl)) }), ((refl, record { production_is = record { nonterminal_is = refl; tag_is = refl; content_is = ((refl, refl, (refl, refl, omega arith), (refl, refl, (refl, refl, omega arith), (refl, refl, (refl, refl, (refl, refl, omega arith)), (refl, refl, omega arith)))), refl, omega arith) }; own_are = no_fields; nodes_are = (no_fields, (no_fields, (no_fields, (no_fields, (no_fields, (off_first, (no_fields, (no_fields, refl)))))))) }), ((refl, record { production_is = record { nonterminal_is = refl; tag_is = refl; content_is = ((refl, refl, (refl, refl)), refl, omega arith) }; own_are = no_fields; nodes_are = (no_fields, (no_fields, refl)) }), ((refl, record { production_is = record { nonterminal_is = refl; tag_is = refl; content_is = ((refl, refl, (refl, refl)), refl, omega arith) }; own_are = no_fields; nodes_are = (no_fields, (no_fields, refl)) }), ((refl, record { production_is = record { nonterminal_is = refl; tag_is = refl; content_is = ((refl, refl, (refl, refl)), refl, omega arith) }; own_are = no_fields; nodes_are = (no_fields, (no_fields, refl)) }), refl)))));
  nodes = ((no_fields, λ e. other (omega arith) e), ((no_fields, λ e. produced 1 (omega arith) refl), ((no_fields, λ e. other (omega arith) e), ((no_fields, λ e. produced 2 (omega arith) refl), ((no_fields, λ e. other (omega arith) e), ((no_fields, λ e. produced 3 (omega arith) refl), ((no_fields, λ e. other (omega arith) e), ((off_first, λ e. other (omega arith) e), ((no_fields, λ e. produced 3 (omega arith) refl), ((no_fields, λ e. produced 4 (omega arith) refl), ((no_fields, λ e. other (omega arith) e), ((no_fields, λ e. other (omega arith) e), ((no_fields, λ e. other (omega arith) e), ((no_fields, λ e. other (omega arith) e), ((no_fields, λ e. other (omega arith) e), ((no_fields, λ e. other (omega arith) e), refl))))))))))))))));
  every_node = refl;
  fill = record { programs = search arith depth 40 fits 5000; filled = refl };
  start_has = produced 0 (omega arith) refl;
  start_fits = omega arith;
  strings_are = refl;
  start_is = refl;
}

pub sheet28_is : IsSheet bytes28 sheet28
sheet28_is = laid_is_sheet bytes28 sheet28 both of_nodes laid
