-- The bytes of Example 27's sheet, and of its rejecting form, are those sheets; they differ in a book's program alone.
-- Assumes nothing.
use mathlib.Core.Path.{◌≡◌, refl}
use mathlib.Core.Bool.{true}
use mathlib.Core.List.{List, [], ◌∷◌}
use native.Mathlib.Omega.{arith}
use lib.ListN.{replicate}
use Rattle.programs.specs.Program.{Statement, become, print_start, print_end, Program}
use Rattle.programs.specs.Limits.{first, allowed}
use Rattle.programs.specs.Section.{no_program, names}
use Rattle.sheet.specs.Fields.{FieldsAre}
use Rattle.sheet.specs.Sheet.{IsSheet}
use Rattle.runs.specs.Visits.{no_programs_lem}
use Rattle.runs.specs.Examples.{program, first_only, two_visits}
use Rattle.worked.specs.Worked.{bytes27, rejecting_bytes27, book27, sheet27, rejecting_book27, rejecting27}
use Rattle.worked.proofs.Laid.{other, Laid, laid_is_sheet}

abbrev of_article : List Statement
of_article = print_start 2 ∷ print_end 2 ∷ become 0 1 ∷ []

module _ (ts : List Statement) where
  abbrev programs_with : List Program
  programs_with = program (print_start 0 ∷ []) ∷ program (print_end 0 ∷ []) ∷ program of_article ∷ program ts ∷ []

  no_fields : FieldsAre programs_with 0xFFFF 0xFFFF no_programs_lem
  no_fields = record { first_is = no_program refl; second_is = no_program refl }

  root_fields : FieldsAre programs_with 0 3 (two_visits (print_start 0 ∷ []) (print_end 0 ∷ []))
  root_fields =
      record {
        first_is = names (λ e. omega arith) (program (print_start 0 ∷ [])) (record { before = []; after = program (print_end 0 ∷ []) ∷ program of_article ∷ program ts ∷ []; are = refl; offset = refl }) refl;
        second_is = names (λ e. omega arith) (program (print_end 0 ∷ [])) (record { before = program (print_start 0 ∷ []) ∷ []; after = program of_article ∷ program ts ∷ []; are = refl; offset = refl }) refl;
      }

  article_fields : FieldsAre programs_with 6 0xFFFF (first_only of_article)
  article_fields =
      record {
        first_is = names (λ e. omega arith) (program of_article) (record { before = program (print_start 0 ∷ []) ∷ program (print_end 0 ∷ []) ∷ []; after = program ts ∷ []; are = refl; offset = refl }) refl;
        second_is = no_program refl;
      }

  book_fields : allowed first (program ts) ≡ true → FieldsAre programs_with 14 0xFFFF (first_only ts)
  book_fields e =
      record {
        first_is = names (λ e. omega arith) (program ts) (record { before = program (print_start 0 ∷ []) ∷ program (print_end 0 ∷ []) ∷ program of_article ∷ []; after = []; are = refl; offset = refl }) e;
        second_is = no_program refl;
      }

sheet27_laid : Laid bytes27 sheet27 (programs_with book27) (replicate 4 no_programs_lem)
sheet27_laid = record {
  sections = refl;
  tags = ((record { a_name = (refl, (refl, (refl, tt))); short = omega arith; spelled = refl }, refl), ((record { a_name = (refl, (refl, (refl, (refl, tt)))); short = omega arith; spelled = refl }, refl), ((record { a_name = (refl, (refl, (refl, (refl, (refl, (refl, (refl, tt))))))); short = omega arith; spelled = refl }, refl), refl)));
  rules = ((refl, record { production_is = record { nonterminal_is = refl; tag_is = refl; content_is = ((refl, refl, (refl, refl, (refl, refl, omega arith), (refl, refl, omega arith))), refl, omega arith) }; own_are = root_fields book27; nodes_are = (no_fields book27, (no_fields book27, (no_fields book27, (no_fields book27, refl)))) }), ((refl, record { production_is = record { nonterminal_is = refl; tag_is = refl; content_is = refl }; own_are = book_fields book27 refl; nodes_are = refl }), ((refl, record { production_is = record { nonterminal_is = refl; tag_is = refl; content_is = refl }; own_are = article_fields book27; nodes_are = refl }), refl)));
  nodes = ((no_fields book27, λ e. other (omega arith) e), ((no_fields book27, λ e. other (omega arith) e), ((no_fields book27, λ e. record { number = 1; there = omega arith; its = refl }), ((no_fields book27, λ e. record { number = 2; there = omega arith; its = refl }), refl))));
  every_node = refl;
  fill = record { programs = search arith depth 60 fits 9000; filled = refl };
  start_has = record { number = 0; there = omega arith; its = refl };
  start_fits = omega arith;
  strings_are = refl;
  start_is = refl;
}

pub sheet27_is : IsSheet bytes27 sheet27
sheet27_is = laid_is_sheet bytes27 sheet27 (programs_with book27) (replicate 4 no_programs_lem) sheet27_laid

rejecting27_laid : Laid rejecting_bytes27 rejecting27 (programs_with rejecting_book27) (replicate 4 no_programs_lem)
rejecting27_laid = record {
  sections = refl;
  tags = ((record { a_name = (refl, (refl, (refl, tt))); short = omega arith; spelled = refl }, refl), ((record { a_name = (refl, (refl, (refl, (refl, tt)))); short = omega arith; spelled = refl }, refl), ((record { a_name = (refl, (refl, (refl, (refl, (refl, (refl, (refl, tt))))))); short = omega arith; spelled = refl }, refl), refl)));
  rules = ((refl, record { production_is = record { nonterminal_is = refl; tag_is = refl; content_is = ((refl, refl, (refl, refl, (refl, refl, omega arith), (refl, refl, omega arith))), refl, omega arith) }; own_are = root_fields rejecting_book27; nodes_are = (no_fields rejecting_book27, (no_fields rejecting_book27, (no_fields rejecting_book27, (no_fields rejecting_book27, refl)))) }), ((refl, record { production_is = record { nonterminal_is = refl; tag_is = refl; content_is = refl }; own_are = book_fields rejecting_book27 refl; nodes_are = refl }), ((refl, record { production_is = record { nonterminal_is = refl; tag_is = refl; content_is = refl }; own_are = article_fields rejecting_book27; nodes_are = refl }), refl)));
  nodes = ((no_fields rejecting_book27, λ e. other (omega arith) e), ((no_fields rejecting_book27, λ e. other (omega arith) e), ((no_fields rejecting_book27, λ e. record { number = 1; there = omega arith; its = refl }), ((no_fields rejecting_book27, λ e. record { number = 2; there = omega arith; its = refl }), refl))));
  every_node = refl;
  fill = record { programs = search arith depth 60 fits 9000; filled = refl };
  start_has = record { number = 0; there = omega arith; its = refl };
  start_fits = omega arith;
  strings_are = refl;
  start_is = refl;
}

pub rejecting27_is : IsSheet rejecting_bytes27 rejecting27
rejecting27_is = laid_is_sheet rejecting_bytes27 rejecting27 (programs_with rejecting_book27) (replicate 4 no_programs_lem) rejecting27_laid
