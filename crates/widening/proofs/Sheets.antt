-- A program that keeps bounds keeps wider ones, and so does a sheet; and back, where its programs keep the narrower ones.
-- Assumes nothing.
use mathlib.Core.List.{List, [], ◌∷◌}
use mathlib.Core.Logic.{◌↔◌}
use Prim.Native.Nat.{ℕ, ◌≤◌}
use native.Mathlib.Omega.{arith}
use Rattle.programs.specs.Program.{Operand, constant, current, recalled, Condition, equal, negated, both, either, Statement, become, copy, recall, reject, print_start, print_end, print_text, echo, branch, Program, done, step}
use Rattle.programs.specs.Bounds.{Bounds, AttributeIn, ValueIn}
use Rattle.programs.specs.Limits.{OperandFitsIn, ConditionFitsIn, StatementFitsIn, StatementsFitIn, IsProgramIn}
use Rattle.programs.specs.Section.{AllProgramsIn, FillIn}
use Rattle.sheet.specs.Fields.{ProgramsIn}
use Rattle.sheet.specs.Defect.{WellFormedIn, DefectIsIn, well_formed_lem, its_size, its_sections, a_tag, a_production, a_tree, a_program, not_grounded}
use Rattle.sheet.specs.Sheet.{Sheet, IsSheetIn}
use Rattle.widening.specs.AsBefore.{Wider, Keeps}

module _ (b b' : Bounds) (w : Wider b b') where
  attribute_wider : (a : ℕ) → AttributeIn b a → AttributeIn b' a
  attribute_wider a h = let k = w.of_attributes in omega arith

  value_wider : (v : ℕ) → ValueIn b v → ValueIn b' v
  value_wider v h = let k = w.of_values in omega arith

  operand_wider : (x : Operand) → OperandFitsIn b x → OperandFitsIn b' x
  operand_wider (constant v) h = value_wider v h
  operand_wider (current a) h = attribute_wider a h
  operand_wider (recalled a) h = attribute_wider a h

  condition_wider : (c : Condition) → ConditionFitsIn b c → ConditionFitsIn b' c
  condition_wider (equal x y) h = (operand_wider x h.0, operand_wider y h.1)
  condition_wider (negated c) h = condition_wider c h
  condition_wider (both c d) h = (condition_wider c h.0, condition_wider d h.1)
  condition_wider (either c d) h = (condition_wider c h.0, condition_wider d h.1)

  module _ (tags : ℕ) (strings : List ℕ) where
    mutual
      statement_wider : (t : Statement) → StatementFitsIn b tags strings t → StatementFitsIn b' tags strings t
      statement_wider (become a v) h = (attribute_wider a h.0, value_wider v h.1)
      statement_wider (copy a c) h = (attribute_wider a h.0, attribute_wider c h.1)
      statement_wider (recall a c) h = (attribute_wider a h.0, attribute_wider c h.1)
      statement_wider reject h = tt
      statement_wider (print_start t) h = h
      statement_wider (print_end t) h = h
      statement_wider (print_text o n) h = h
      statement_wider (echo on) h = tt
      statement_wider (branch c l m) h = (condition_wider c h.0, statements_wider l h.1, statements_wider m h.2)

      statements_wider : (p : Program) → StatementsFitIn b tags strings p → StatementsFitIn b' tags strings p
      statements_wider done h = tt
      statements_wider (step t p) h = (statement_wider t h.0, statements_wider p h.1)

    all_wider : (ps : List Program) → AllProgramsIn b tags strings ps → AllProgramsIn b' tags strings ps
    all_wider [] h = tt
    all_wider (p ∷ ps) h = (record { short = h.0.short; shallow = h.0.shallow; fits = statements_wider p h.0.fits }, all_wider ps h.1)

  abbrev programs_wider : (s : List ℕ) → ProgramsIn b s → ProgramsIn b' s
  programs_wider s h = record {
    programs = h.programs;
    fill = record { programs = all_wider _ _ h.programs h.fill.programs; filled = h.fill.filled };
    of_productions = h.of_productions;
    of_nodes = h.of_nodes;
  }

  abbrev programs_kept : (s : List ℕ) → Keeps b b' s → ProgramsIn b' s → ProgramsIn b s
  programs_kept s k h = record {
    programs = h.programs;
    fill = record { programs = k h.programs h.fill; filled = h.fill.filled };
    of_productions = h.of_productions;
    of_nodes = h.of_nodes;
  }

-- nothing else of a sheet looks at the bounds
module _ (b b' : Bounds) (s : List ℕ) (f : ProgramsIn b s → ProgramsIn b' s) where
  abbrev well_formed_by : WellFormedIn b s → WellFormedIn b' s
  well_formed_by h = record {
    size = h.size;
    sections = h.sections;
    tags = h.tags;
    productions = h.productions;
    trees = h.trees;
    programs = f h.programs;
    grounded = h.grounded;
  }

  number_by : (ProgramsIn b' s → ProgramsIn b s) → (n : ℕ) → DefectIsIn b s n → DefectIsIn b' s n
  number_by g n (well_formed_lem h) = well_formed_lem (well_formed_by h)
  number_by g n (its_size h) = its_size h
  number_by g n (its_sections h i) = its_sections h i
  number_by g n (a_tag h i j) = a_tag h i j
  number_by g n (a_production h i j k) = a_production h i j k
  number_by g n (a_tree h i j k l) = a_tree h i j k l
  number_by g n (a_program h i j k l m) = a_program h i j k l (λ x. m (g x))
  number_by g n (not_grounded h i j k l m o) = not_grounded h i j k l (f m) o

module _ (b b' : Bounds) (w : Wider b b') (s : List ℕ) where
  pub sheet_wider : (a : Sheet) → IsSheetIn b s a → IsSheetIn b' s a
  sheet_wider a h = record {
    well_formed_lem = well_formed_by b b' s (programs_wider b b' w s) h.well_formed_lem;
    names_are = h.names_are;
    rules_are = h.rules_are;
    strings_are = h.strings_are;
    start_is = h.start_is;
  }

  module _ (k : Keeps b b' s) where
    sheet_kept : (a : Sheet) → IsSheetIn b' s a → IsSheetIn b s a
    sheet_kept a h = record {
      well_formed_lem = well_formed_by b' b s (programs_kept b b' w s k) h.well_formed_lem;
      names_are = h.names_are;
      rules_are = h.rules_are;
      strings_are = h.strings_are;
      start_is = h.start_is;
    }

    pub one_sheet : (a : Sheet) → IsSheetIn b s a ↔ IsSheetIn b' s a
    one_sheet a = (sheet_wider a, sheet_kept a)

    pub one_number : (n : ℕ) → DefectIsIn b s n ↔ DefectIsIn b' s n
    one_number n =
        let f = programs_wider b b' w s in
        let g = programs_kept b b' w s k in
        (number_by b b' s f g n, number_by b' b s g f n)
