-- What is promised of regrouping: the atoms' order, the faults, the list of them as bytes and the language stay; and where only concatenations are
-- regrouped, so does the count of visits of a stream that is accepted under both groupings, whatever the programs.
-- Assumes nothing.
use Rattle.std.specs.Prelude.{◌≡◌, List, [], ◌∷◌, ◌++◌, ◌↔◌, ℕ}
use Rattle.expressions.specs.Expr.{Atom, Exp, atom, cat, alt, star, empty, nodes, tree}
use Rattle.expressions.specs.Grammar.{Production, Next}
use Rattle.expressions.specs.Fault.{Fault}
use Rattle.expressions.specs.FaultList.{IsFaultList, list_bytes}
use Rattle.language.specs.Language.{Language}
use Rattle.sheet.specs.Sheet.{Sheet}
use Rattle.runs.specs.Visits.{grammar, Env}
use Rattle.runs.specs.Events.{Event}
use Rattle.runs.specs.Taken.{Passed, ParsedTo}
use Rattle.calls.specs.Accepted.{Accepted}
use Rattle.grouping.specs.Regrouped.{concatenations, concatenations_and_unions, Regrouped, RegroupedGrammar}

-- an expression's atoms, from left to right
abbrev pub atoms_in_order : Exp → List Atom
atoms_in_order (atom k) = k ∷ []
atoms_in_order (cat l r) = atoms_in_order l ++ atoms_in_order r
atoms_in_order (alt l r) = atoms_in_order l ++ atoms_in_order r
atoms_in_order (star e) = atoms_in_order e
atoms_in_order empty = []

-- their order stays, and so does the number of nodes
abbrev pub AtomsStay : Type 0
AtomsStay = (e e' : Exp) → Regrouped concatenations_and_unions e e' → (atoms_in_order e ≡ atoms_in_order e') × (nodes e ≡ nodes e')

-- of an expression, whatever the tags of the nonterminals: a fault at a place before a symbol is one under both groupings
abbrev pub FaultsStay : Type 0
FaultsStay =
    (e e' : Exp) → Regrouped concatenations_and_unions e e' → (tags : ℕ → List ℕ) (place : ℕ) (x : Next) → Fault tags (tree e) place x ↔ Fault tags (tree e') place x

-- and so of a grammar, T faults and S faults: a list is the one's exactly when it is the other's
abbrev pub ListStays : Type 0
ListStays =
    (g g' : List Production) → RegroupedGrammar concatenations_and_unions g g' → (l : List (List ℕ)) → IsFaultList g l ↔ IsFaultList g' l

-- as it is written, byte for byte
abbrev pub BytesStay : Type 0
BytesStay =
    (g g' : List Production) → RegroupedGrammar concatenations_and_unions g g' → (l l' : List (List ℕ)) → IsFaultList g l → IsFaultList g' l' →
    list_bytes l ≡ list_bytes l'

abbrev pub LanguageStays : Type 0
LanguageStays = (e e' : Exp) → Regrouped concatenations_and_unions e e' → (w : List Atom) → Language e w ↔ Language e' w

-- two sheets with the same tags and start whose expressions differ only in how concatenations are grouped; each has programs of its own
pub record RegroupedSheet (a a' : Sheet) : Type 0 where
  pub same_names : a.names ≡ a'.names
  pub same_start : a.start_nonterminal ≡ a'.start_nonterminal
  pub expressions : RegroupedGrammar concatenations (grammar a) (grammar a')

-- the count over a tree's events
abbrev pub CountStays : Type 0
CountStays =
    (a a' : Sheet) → Passed a → RegroupedSheet a a' → (xs : List Event) (v v' : Env) → ParsedTo a xs v → ParsedTo a' xs v' → v.count ≡ v'.count

-- and over bytes
abbrev pub AcceptedCountStays : Type 0
AcceptedCountStays =
    (a a' : Sheet) → Passed a → RegroupedSheet a a' → (s : List ℕ) (v v' : Env) → Accepted a s v → Accepted a' s v' → v.count ≡ v'.count
