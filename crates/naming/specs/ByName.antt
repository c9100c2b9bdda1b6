-- The rules that a sheet is: tags by name, printed strings by bytes, programs beside the nodes that they are of. Assumes nothing.
use Rattle.std.specs.Prelude.{◌≡◌, List, [], ◌∷◌, take, drop}
use Rattle.std.proofs.Math.Option.{Option, none, some}
use Rattle.programs.specs.Program.{Statement, Program}
use Rattle.sheet.specs.Fields.{Visits}
use Rattle.sheet.specs.Sheet.{Rule, Sheet}
use Rattle.runs.specs.Execute.{name_of}
use Rattle.notation.specs.Program.{TextStatement, become, copy, recall, reject, print_start, print_end, print_text, echo, branch, TextProgram, done, step}
use Rattle.notation.specs.Rules.{TextVisits, content_inside, visits_inside, TextRule, Rules}

-- a sheet's statements, with the names of its tags and the bytes of its strings
abbrev mutual
  pub statement_named : Sheet → Statement → TextStatement
  statement_named a (Statement.become x v) = become x v
  statement_named a (Statement.copy x y) = copy x y
  statement_named a (Statement.recall x y) = recall x y
  statement_named a Statement.reject = reject
  statement_named a (Statement.print_start t) = print_start (name_of a.names t)
  statement_named a (Statement.print_end t) = print_end (name_of a.names t)
  statement_named a (Statement.print_text o n) = print_text (take n (drop o a.strings))
  statement_named a (Statement.echo on) = echo on
  statement_named a (Statement.branch c l m) = branch c (program_named a l) (program_named a m)

  pub program_named : Sheet → Program → TextProgram
  program_named a Program.done = done
  program_named a (Program.step t p) = step (statement_named a t) (program_named a p)

abbrev pub option_named : Sheet → Option Program → Option TextProgram
option_named a none = none
option_named a (some p) = some (program_named a p)

abbrev pub visits_named : Sheet → Visits → TextVisits
visits_named a v = record { first_visit = option_named a v.first_visit; second_visit = option_named a v.second_visit }

abbrev pub each_named : Sheet → List Visits → List TextVisits
each_named a [] = []
each_named a (v ∷ vs) = visits_named a v ∷ each_named a vs

-- the production d of rules is the production r of the sheet: its nonterminal, its tag's name, its nodes, and all programs
pub record RuleByName (a : Sheet) (r : Rule) (d : TextRule) : Type 0 where
  pub nonterminal_is : d.nonterminal ≡ r.production.nonterm
  pub tag_is : d.tag ≡ name_of a.names r.production.tagno
  pub nodes_are : content_inside d.inside ≡ r.production.content
  pub own_are : d.own ≡ visits_named a r.own
  pub of_nodes_are : visits_inside d.inside ≡ each_named a r.of_nodes

abbrev pub EachByName : Sheet → List Rule → List TextRule → Type 0
EachByName a [] [] = Unit {0}
EachByName a [] (d ∷ ds) = ⊥
EachByName a (r ∷ rs) [] = ⊥
EachByName a (r ∷ rs) (d ∷ ds) = RuleByName a r d × EachByName a rs ds

pub record ByName (a : Sheet) (r : Rules) : Type 0 where
  pub start_is : r.start ≡ a.start_nonterminal
  pub rules_are : EachByName a a.rules r.productions

-- two sheets have the same start, the same productions in order with tags by name, the same nodes, and in each program field none or programs with equal
-- statements, tags by name and strings by bytes
pub record SameByName (a b : Sheet) : Type 0 where
  pub rules : Rules
  pub first_is : ByName a rules
  pub second_is : ByName b rules
