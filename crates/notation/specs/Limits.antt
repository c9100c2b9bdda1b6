-- The limits that are part of the text: what a sheet can hold of one production, one program, and of productions and nodes in all.
-- Assumes nothing.
use Rattle.std.specs.Prelude.{List, [], ◌∷◌, ℕ, ◌+◌, ◌≤◌, length}
use Rattle.std.proofs.Math.Option.{Option, none, some}
use Rattle.limits.specs.Limits.{most_productions, most_nodes, nodes_at_most, deepest_tree, longest_program, deepest_program}
use Rattle.expressions.specs.Expr.{depth, Content, nothing, tree, nodes_of}
use Rattle.programs.specs.Program.{program_bytes}
use Rattle.programs.specs.Limits.{nesting}
use Rattle.notation.specs.Program.{TextProgram, program_in}
use Rattle.notation.specs.Rules.{TextVisits, Tree, content_inside, visits_inside, TextRule, Rules}

-- its bytes as document 01 encodes it, with its closing 0, and how deep if, not, and, or nest: both the same however tags and strings are numbered
abbrev pub size_of : TextProgram → ℕ
size_of p = length (program_bytes (program_in (λ n. 0) (λ s. 0) p))

abbrev pub nesting_of : TextProgram → ℕ
nesting_of p = nesting (program_in (λ n. 0) (λ s. 0) p)

pub record ProgramWithin (p : TextProgram) : Type 0 where
  pub short : size_of p ≤ longest_program
  pub shallow : nesting_of p ≤ deepest_program

abbrev pub OptionWithin : Option TextProgram → Type 0
OptionWithin none = Unit {0}
OptionWithin (some p) = ProgramWithin p

abbrev pub VisitsWithin : TextVisits → Type 0
VisitsWithin v = OptionWithin v.first_visit × OptionWithin v.second_visit

abbrev pub AllWithin : List TextVisits → Type 0
AllWithin [] = Unit {0}
AllWithin (v ∷ vs) = VisitsWithin v × AllWithin vs

abbrev pub content_depth : Content → ℕ
content_depth nothing = 0
content_depth (tree e) = depth e

pub record ContentWithin (e : Option Tree) : Type 0 where
  pub few_nodes : nodes_of (content_inside e) ≤ nodes_at_most
  pub shallow : content_depth (content_inside e) ≤ deepest_tree
  pub programs : AllWithin (visits_inside e)

pub record RuleWithin (r : TextRule) : Type 0 where
  pub own : VisitsWithin r.own
  pub inside : ContentWithin r.inside

abbrev pub EachWithin : List TextRule → Type 0
EachWithin [] = Unit {0}
EachWithin (r ∷ rs) = RuleWithin r × EachWithin rs

abbrev pub nodes_in_all : List TextRule → ℕ
nodes_in_all [] = 0
nodes_in_all (r ∷ rs) = nodes_of (content_inside r.inside) + nodes_in_all rs

pub record WithinLimits (r : Rules) : Type 0 where
  pub few_productions : length r.productions ≤ most_productions
  pub few_nodes : nodes_in_all r.productions ≤ most_nodes
  pub each : EachWithin r.productions
