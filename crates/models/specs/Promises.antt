-- What is promised of content models. Assumes nothing.
use Rattle.std.specs.Prelude.{◌≡◌, List, [], ◌∷◌, ◌↔◌, ℕ, suc}
use Rattle.expressions.specs.Expr.{Atom, nonterminal, anychar, nodes_of}
use Rattle.language.specs.Language.{LanguageOf}
use Rattle.notation.specs.Limits.{content_depth}
use Rattle.notation.specs.Refusal.{Told}
use Rattle.reading.specs.Reads.{ReadBy}
use Rattle.models.specs.Models.{ContentSpec, Declaration}
use Rattle.models.specs.Valid.{Child, element, character, Valid}
use Rattle.models.specs.Expressions.{spec_content, spec_nodes, spec_depth}
use Rattle.models.specs.Spelling.{DtdIs}
use Rattle.models.specs.Family.{EachFewNodes, Shallow, Family}
use Rattle.models.specs.Answers.{ModelsTold, ReadModels}
use Rattle.models.specs.Reader.{dtds}

-- a row of children as a row of atoms
abbrev pub as_atoms : (List ℕ → ℕ) → List Child → List Atom
as_atoms number [] = []
as_atoms number (element n ∷ w) = nonterminal (number n) ∷ as_atoms number w
as_atoms number (character ∷ w) = anychar ∷ as_atoms number w

-- the language of the expression is that of the content model
abbrev pub SameLanguage : Type 0
SameLanguage = (number : List ℕ → ℕ) (c : ContentSpec) (w : List Atom) → LanguageOf (spec_content number c) w ↔ ((u : List Child) × Valid c u × (w ≡ as_atoms number u))

-- its nodes and its depth are those counted by the marks
abbrev pub NodesCounted : Type 0
NodesCounted = (number : List ℕ → ℕ) (c : ContentSpec) → nodes_of (spec_content number c) ≡ spec_nodes c

abbrev pub DepthCounted : Type 0
DepthCounted = (number : List ℕ → ℕ) (c : ContentSpec) → content_depth (spec_content number c) ≡ spec_depth c

-- a text declares one thing at most, however many parentheses may be open
abbrev pub OneDtd : Type 0
OneDtd = (p q : ℕ) (text : List ℕ) (ds es : List Declaration) → DtdIs p text ds → DtdIs q text es → ds ≡ es

-- any two answers allowed are equal
abbrev pub OneModelsAnswer : Type 0
OneModelsAnswer = (text : List ℕ) (a b : ModelsTold) → ReadModels text a → ReadModels text b → a ≡ b

-- of every text it is told what it declares, or the byte at which no text of the family goes on
abbrev pub TellsDtds : Type 0
TellsDtds = (text : List ℕ) → Told Family text

-- the machine of bytes reads declarations, and keeps the limits of each model as it goes
pub record DtdFits (ds : List Declaration) : Type 0 where
  pub few : EachFewNodes ds
  pub shallow : Shallow ds

abbrev pub ReadsDtds : Type 0
ReadsDtds = (p : ℕ) → ReadBy (dtds (suc p)) (DtdIs (suc p)) DtdFits
