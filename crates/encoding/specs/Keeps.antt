-- What numbers 3 to 6 ask of a sheet, whatever its bytes: names, productions, trees and programs. Assumes nothing.
use Rattle.std.specs.Prelude.{◌≡◌, true, List, [], ◌∷◌, ℕ, ◌≤◌, ◌<◌, length}
use Rattle.std.proofs.Math.Option.{Option, none, some}
use Rattle.limits.specs.Limits.{nodes_at_most, deepest_tree}
use Rattle.expressions.specs.Expr.{nodes_of}
use Rattle.expressions.specs.Grammar.{nonterminals}
use Rattle.programs.specs.Program.{Program}
use Rattle.programs.specs.Limits.{IsProgram, Visit, first, second, allowed}
use Rattle.sheet.specs.Fields.{Visits}
use Rattle.sheet.specs.Sheet.{Rule, Sheet}
use Rattle.notation.specs.Tokens.{TagName}
use Rattle.notation.specs.Limits.{content_depth}
use Rattle.encoding.specs.Distinct.{AllDifferent}

abbrev pub AllNames : List (List ℕ) → Type 0
AllNames [] = Unit {0}
AllNames (n ∷ ns) = TagName n × AllNames ns

abbrev pub ProgramKeeps : Sheet → Visit → Option Program → Type 0
ProgramKeeps s v none = Unit {0}
ProgramKeeps s v (some p) = IsProgram (length s.names) s.strings p × (allowed v p ≡ true)

abbrev pub VisitsKeep : Sheet → Visits → Type 0
VisitsKeep s v = ProgramKeeps s first v.first_visit × ProgramKeeps s second v.second_visit

abbrev pub AllKeep : Sheet → List Visits → Type 0
AllKeep s [] = Unit {0}
AllKeep s (v ∷ vs) = VisitsKeep s v × AllKeep s vs

pub record RuleKeeps (s : Sheet) (r : Rule) : Type 0 where
  pub nonterminal : r.production.nonterm < nonterminals
  pub tag : r.production.tagno < length s.names
  pub each_node : length r.of_nodes ≡ nodes_of r.production.content
  pub few_nodes : nodes_of r.production.content ≤ nodes_at_most
  pub shallow : content_depth r.production.content ≤ deepest_tree
  pub own : VisitsKeep s r.own
  pub nodes : AllKeep s r.of_nodes

abbrev pub EachKeeps : Sheet → List Rule → Type 0
EachKeeps s [] = Unit {0}
EachKeeps s (r ∷ rs) = RuleKeeps s r × EachKeeps s rs

pub record SheetKeeps (s : Sheet) : Type 0 where
  pub names : AllNames s.names
  pub different : AllDifferent s.names
  pub rules : EachKeeps s s.rules
  pub start : s.start_nonterminal < nonterminals
