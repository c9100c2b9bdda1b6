-- The sheet of declarations, without programs and strings. Assumes nothing.
use Rattle.std.specs.Prelude.{◌≡◌, true, ◌↔◌, ℕ, replicate}
use mathlib.Core.List.{List, [], ◌∷◌, Memᴰ}
use Rattle.std.proofs.Math.Option.{none}
use Rattle.sheet.specs.Fields.{Visits}
use Rattle.sheet.specs.Sheet.{Rule, Sheet}
use Rattle.language.specs.Language.{LanguageOf}
use Rattle.encoding.specs.Distinct.{has, distinct, place_of}
use Rattle.encoding.specs.Keeps.{SheetKeeps}
use Rattle.models.specs.Models.{Declaration}
use Rattle.models.specs.Valid.{Child, element, character, Valid}
use Rattle.models.specs.Expressions.{spec_content, spec_nodes}
use Rattle.models.specs.Family.{mentioned, Family, Holdable}
use Rattle.models.specs.Promises.{as_atoms}

-- names are nonterminals in the order of their first mention, so the first declared is 0; tags stand in the order of their first declaration
abbrev pub declared_names : List Declaration → List (List ℕ)
declared_names [] = []
declared_names (d ∷ ds) = d.declared ∷ declared_names ds

abbrev pub number_of_name : List Declaration → List ℕ → ℕ
number_of_name ds n = place_of (distinct (mentioned ds)) n

abbrev pub tag_of_name : List Declaration → List ℕ → ℕ
tag_of_name ds n = place_of (distinct (declared_names ds)) n

abbrev pub no_programs : Visits
no_programs = record { first_visit = none; second_visit = none }

-- each declaration is a production, in order; all are the declarations of the text
abbrev pub declared_rule : List Declaration → Declaration → Rule
declared_rule all d = record {
  production = record { nonterm = number_of_name all d.declared; tagno = tag_of_name all d.declared; content = spec_content (number_of_name all) d.content };
  own = no_programs;
  of_nodes = replicate (spec_nodes d.content) no_programs;
}

abbrev pub declared_rules : List Declaration → List Declaration → List Rule
declared_rules all [] = []
declared_rules all (d ∷ ds) = declared_rule all d ∷ declared_rules all ds

-- the first declared element is the start
abbrev pub declared_sheet : List Declaration → Sheet
declared_sheet ds = record { names = distinct (declared_names ds); rules = declared_rules ds ds; strings = []; start_nonterminal = 0 }

-- it keeps what numbers 3 to 6 ask of names, productions, trees and programs
abbrev pub DeclaredSheetsKeep : Type 0
DeclaredSheetsKeep = (text : List ℕ) (ds : List Declaration) → Family text ds → Holdable ds → SheetKeeps (declared_sheet ds)

-- a row of children whose names are all among these
abbrev pub NamedAmong : List (List ℕ) → List Child → Type 0
NamedAmong names [] = Unit {0}
NamedAmong names (element n ∷ w) = (has names n ≡ true) × NamedAmong names w
NamedAmong names (character ∷ w) = NamedAmong names w

-- for each declaration, a row of the names that the text mentions is valid exactly when it is in the language of the production's expression
abbrev pub SameRows : Type 0
SameRows = (ds : List Declaration) (d : Declaration) → Memᴰ d ds → (w : List Child) → NamedAmong (distinct (mentioned ds)) w
    → Valid d.content w ↔ LanguageOf (declared_rule ds d).production.content (as_atoms (number_of_name ds) w)
