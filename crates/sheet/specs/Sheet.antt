-- The sheet that well-formed bytes are: tags by name, productions with their expressions and programs, strings, start. Assumes nothing.
use Rattle.std.specs.Prelude.{◌≡◌, List, [], ◌∷◌, ℕ, suc, ◌+◌}
use Rattle.expressions.specs.Grammar.{Production}
use Rattle.programs.specs.Program.{Program}
use Rattle.programs.specs.Bounds.{Bounds, bounds}
use Rattle.layout.specs.Layout.{tag_count, production_count, strings_in, start}
use Rattle.layout.specs.Records.{first_node_of, node_count_of, first_program_of, second_program_of, first_program_of_node, second_program_of_node}
use Rattle.trees.specs.GrammarAt.{ProductionIs}
use Rattle.sheet.specs.Tags.{TagAt}
use Rattle.sheet.specs.Fields.{Visits, FieldsAre}
use Rattle.sheet.specs.Defect.{WellFormedIn}

-- a production with its programs: its own, and those of its nodes in preorder, so by bracket
pub record Rule : Type 0 where
  pub production : Production
  pub own : Visits
  pub of_nodes : List Visits

pub record Sheet : Type 0 where
  pub names : List (List ℕ)
  pub rules : List Rule
  pub strings : List ℕ
  pub start_nonterminal : ℕ

abbrev pub grammar_of : List Rule → List Production
grammar_of [] = []
grammar_of (r ∷ rs) = r.production ∷ grammar_of rs

-- the things that P says of the numbers i, i + 1 and so on, up to k
abbrev pub From : {A : Type 0} → (ℕ → A → Type 0) → ℕ → ℕ → List A → Type 0
From P i k [] = i ≡ k
From P i k (x ∷ xs) = P i x × From P (suc i) k xs

-- the programs of node i, where ps are the sheet's
abbrev pub NodeIs : List ℕ → List Program → ℕ → Visits → Type 0
NodeIs s ps i v = FieldsAre ps (first_program_of_node s i) (second_program_of_node s i) v

-- production q with its programs
pub record RuleAt (s : List ℕ) (ps : List Program) (q : ℕ) (r : Rule) : Type 0 where
  pub production_is : ProductionIs s q r.production
  pub own_are : FieldsAre ps (first_program_of s q) (second_program_of s q) r.own
  pub nodes_are : From (NodeIs s ps) (first_node_of s q) (first_node_of s q + node_count_of s q) r.of_nodes

-- the bytes s are the sheet a, with the bounds b
pub record IsSheetIn (b : Bounds) (s : List ℕ) (a : Sheet) : Type 0 where
  pub well_formed_lem : WellFormedIn b s
  pub names_are : From (TagAt s) 0 (tag_count s) a.names
  pub rules_are : From (RuleAt s well_formed_lem.programs.programs) 0 (production_count s) a.rules
  pub strings_are : a.strings ≡ strings_in s
  pub start_is : a.start_nonterminal ≡ start s

abbrev pub IsSheet : List ℕ → Sheet → Type 0
IsSheet = IsSheetIn bounds
