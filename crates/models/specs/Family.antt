-- Texts of the family, which keep the limits of a model, and the bounds of a sheet over all models. Assumes nothing.
use Rattle.std.specs.Prelude.{List, [], ◌∷◌, ◌++◌, ℕ, ◌+◌, ◌≤◌, length}
use Rattle.limits.specs.Limits.{most_productions, most_nodes, nodes_at_most, deepest_tree}
use Rattle.expressions.specs.Grammar.{nonterminals}
use Rattle.notation.specs.Statements.{parentheses}
use Rattle.encoding.specs.Distinct.{distinct}
use Rattle.models.specs.Models.{Model, called, sequence, choice, optional, any_number, at_least_one, ContentSpec, nothing_inside, mixed, children, Declaration}
use Rattle.models.specs.Expressions.{spec_nodes, spec_depth}
use Rattle.models.specs.Spelling.{DtdIs}

-- at most so many nodes in each model, and at most so deep
abbrev pub EachFewNodes : List Declaration → Type 0
EachFewNodes [] = Unit {0}
EachFewNodes (d ∷ ds) = (spec_nodes d.content ≤ nodes_at_most) × EachFewNodes ds

abbrev pub Shallow : List Declaration → Type 0
Shallow [] = Unit {0}
Shallow (d ∷ ds) = (spec_depth d.content ≤ deepest_tree) × Shallow ds

-- by the grammar alone; with few nodes in each model; and of the family, so also shallow, with at most 32 parentheses open at once
pub record Grammatical (w : List ℕ) (ds : List Declaration) : Type 0 where
  pub open_at_most : ℕ
  pub spelled : DtdIs open_at_most w ds

pub record WithFewNodes (w : List ℕ) (ds : List Declaration) : Type 0 where
  pub grammatical : Grammatical w ds
  pub few_nodes : EachFewNodes ds

pub record Family (w : List ℕ) (ds : List Declaration) : Type 0 where
  pub spelled : DtdIs parentheses w ds
  pub few_nodes : EachFewNodes ds
  pub shallow : Shallow ds

-- the names of a model, and of declarations, in the order of the text
abbrev pub names_in : Model → List (List ℕ)
names_in (called n) = n ∷ []
names_in (sequence x y) = names_in x ++ names_in y
names_in (choice x y) = names_in x ++ names_in y
names_in (optional x) = names_in x
names_in (any_number x) = names_in x
names_in (at_least_one x) = names_in x

abbrev pub names_in_spec : ContentSpec → List (List ℕ)
names_in_spec nothing_inside = []
names_in_spec (mixed names) = names
names_in_spec (children x) = names_in x

abbrev pub mentioned : List Declaration → List (List ℕ)
mentioned [] = []
mentioned (d ∷ ds) = d.declared ∷ (names_in_spec d.content ++ mentioned ds)

abbrev pub nodes_together : List Declaration → ℕ
nodes_together [] = 0
nodes_together (d ∷ ds) = spec_nodes d.content + nodes_together ds

-- what a sheet can hold
pub record Holdable (ds : List Declaration) : Type 0 where
  pub few_declarations : length ds ≤ most_productions
  pub few_names : length (distinct (mentioned ds)) ≤ nonterminals
  pub few_nodes : nodes_together ds ≤ most_nodes
