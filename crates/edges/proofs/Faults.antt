-- Numbers 8, 9 and 10: sheets with faults, whose list is computed, and a lent list that is just long enough or not.
-- Assumes nothing.
use mathlib.Core.Path.{refl}
use mathlib.Core.List.{List, [], ◌∷◌}
use Prim.Native.Nat.{ℕ}
use native.Mathlib.Omega.{arith}
use lib.ListN.{replicate}
use Rattle.expressions.specs.Expr.{cat, star, nothing, tree}
use Rattle.expressions.specs.FaultList.{IsFaultList}
use Rattle.expressions.proofs.Listed.{listed}
use Rattle.expressions.proofs.Numbers.{number_leads}
use Rattle.sheet.specs.Sheet.{Rule, Sheet, grammar_of, IsSheet}
use Rattle.faults.specs.Verdict.{of_sheet}
use Rattle.faults.specs.Checked.{too_short, all_listed, well_formed_lem}
use Rattle.runs.specs.Visits.{no_programs_lem}
use Rattle.runs.specs.Examples.{Each, rule, sheet_of, child_of, name_A}
use Rattle.worked.specs.Worked.{fault}
use Rattle.worked.proofs.Laid.{other, Laid, laid_is_sheet}
use Rattle.edges.specs.Edges.{r, two_faults, three_faults, of_faults}
use Rattle.edges.proofs.Fits.{EdgeFits}
use Rattle.edges.proofs.OneRule.{letter_at, no_fields}

-- the sheets: a's production once, and twice
abbrev sheet_with : List Rule → Sheet
sheet_with more = sheet_of (r ∷ name_A ∷ []) (rule 0 (tree (cat (star (child_of 1)) (child_of 1))) no_programs_lem ∷ rule 1 nothing no_programs_lem ∷ more)

abbrev a_again : List Rule
a_again = rule 1 nothing no_programs_lem ∷ []

two_laid : Laid two_faults (sheet_with []) [] (replicate 4 no_programs_lem)
two_laid = record {
  sections = refl;
  tags = ((letter_at two_faults 0 114 refl refl, refl), ((letter_at two_faults 1 97 refl refl, refl), refl));
  rules = ((refl, record { production_is = record { nonterminal_is = refl; tag_is = refl; content_is = ((refl, refl, (refl, refl, (refl, refl, omega arith)), (refl, refl, omega arith)), refl, omega arith) }; own_are = no_fields; nodes_are = (no_fields, (no_fields, (no_fields, (no_fields, refl)))) }), ((refl, record { production_is = record { nonterminal_is = refl; tag_is = refl; content_is = refl }; own_are = no_fields; nodes_are = refl }), refl));
  nodes = ((no_fields, λ e. other (omega arith) e), ((no_fields, λ e. other (omega arith) e), ((no_fields, λ e. record { number = 1; there = omega arith; its = refl }), ((no_fields, λ e. record { number = 1; there = omega arith; its = refl }), refl))));
  every_node = refl;
  fill = record { programs = tt; filled = refl };
  start_has = record { number = 0; there = omega arith; its = refl };
  start_fits = omega arith;
  strings_are = refl;
  start_is = refl;
}

three_laid : Laid three_faults (sheet_with a_again) [] (replicate 4 no_programs_lem)
three_laid = record {
  sections = refl;
  tags = ((letter_at three_faults 0 114 refl refl, refl), ((letter_at three_faults 1 97 refl refl, refl), refl));
  rules = ((refl, record { production_is = record { nonterminal_is = refl; tag_is = refl; content_is = ((refl, refl, (refl, refl, (refl, refl, omega arith)), (refl, refl, omega arith)), refl, omega arith) }; own_are = no_fields; nodes_are = (no_fields, (no_fields, (no_fields, (no_fields, refl)))) }), ((refl, record { production_is = record { nonterminal_is = refl; tag_is = refl; content_is = refl }; own_are = no_fields; nodes_are = refl }), ((refl, record { production_is = record { nonterminal_is = refl; tag_is = refl; content_is = refl }; own_are = no_fields; nodes_are = refl }), refl)));
  nodes = ((no_fields, λ e. other (omega arith) e), ((no_fields, λ e. other (omega arith) e), ((no_fields, λ e. record { number = 1; there = omega arith; its = refl }), ((no_fields, λ e. record { number = 1; there = omega arith; its = refl }), refl))));
  every_node = refl;
  fill = record { programs = tt; filled = refl };
  start_has = record { number = 0; there = omega arith; its = refl };
  start_fits = omega arith;
  strings_are = refl;
  start_is = refl;
}

two_is : IsSheet two_faults (sheet_with [])
two_is = laid_is_sheet two_faults (sheet_with []) [] (replicate 4 no_programs_lem) two_laid

three_is : IsSheet three_faults (sheet_with a_again)
three_is = laid_is_sheet three_faults (sheet_with a_again) [] (replicate 4 no_programs_lem) three_laid

-- their faults
abbrev of_two : List (List ℕ)
of_two = fault 0 0 1 ∷ fault 0 1 1 ∷ []

abbrev of_three : List (List ℕ)
of_three = (8 ∷ 1 ∷ 1 ∷ 0 ∷ []) ∷ of_two

two_listed : IsFaultList (grammar_of (sheet_with []).rules) of_two
two_listed = listed 2 (grammar_of (sheet_with []).rules) (record { few_tags = omega arith; numbered = (omega arith, omega arith, (omega arith, omega arith, tt)) })

three_listed : IsFaultList (grammar_of (sheet_with a_again).rules) of_three
three_listed =
    listed 2 (grammar_of (sheet_with a_again).rules)
    (record { few_tags = omega arith; numbered = (omega arith, omega arith, (omega arith, omega arith, (omega arith, omega arith, tt))) })

pub faults_fit : Each EdgeFits of_faults
faults_fit = (
  of_sheet (sheet_with a_again) three_is (number_leads _ of_three three_listed),
  (
    of_sheet (sheet_with []) two_is (number_leads _ of_two two_listed),
    (
      well_formed_lem (sheet_with []) two_is of_two two_listed refl (too_short (omega arith) refl refl),
      (well_formed_lem (sheet_with []) two_is of_two two_listed refl (all_listed (omega arith) (number_leads _ of_two two_listed) refl), tt),
    ),
  ),
)
