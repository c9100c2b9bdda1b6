-- What is told of a text of declarations, wherever the machine of bytes stands. Assumes nothing.
use Rattle.std.specs.Prelude.{◌≡◌, List, [], ◌∷◌, ◌++◌, ◌↔◌, ◌⊎◌, ℕ, suc, length, drop}
use Rattle.std.proofs.Math.Option.{none, some}
use Rattle.notation.specs.Statements.{parentheses}
use Rattle.models.specs.Models.{Declaration}
use Rattle.models.specs.Family.{EachFewNodes, Shallow, Holdable}
use Rattle.models.specs.Answers.{Stands, TooMuchAt, ModelsTold, declares, refuses, ReadModels}
use Rattle.models.specs.Reader.{Phase, contents, DtdProgress, outside, within, step_declarations, value_of_dtd, finished_dtd}
use Rattle.models.specs.Promises.{DtdFits}
use Rattle.judging.specs.Standing.{StandsBehind, ContentMayBegin}

-- in front of the text, and a byte further
abbrev pub StandsFirst : Type 0
StandsFirst = (text : List ℕ) → StandsBehind text 0 (outside [])

abbrev pub OneByteOn : Type 0
OneByteOn = (text rest : List ℕ) (k b : ℕ) (s s' : DtdProgress) → StandsBehind text k s → drop k text ≡ b ∷ rest
    → step_declarations parentheses s b ≡ some s' → DtdFits (finished_dtd s') → StandsBehind text (suc k) s'

-- a byte that the machine does not take, however many parentheses may be open: 50, 51, 52 or 55
abbrev pub ByGrammar : Type 0
ByGrammar = (text rest : List ℕ) (k b n : ℕ) (s : DtdProgress) → StandsBehind text k s → drop k text ≡ b ∷ rest
    → ((p : ℕ) → step_declarations p s b ≡ none) → Stands text k n → ReadModels text (refuses n k)

-- one that it takes with some number of them: 53 where the shortest continuation then has a model of too many nodes, or else 54 where
-- it has one that is too deep or where too many are open
abbrev pub ByNodes : Type 0
ByNodes = (text rest : List ℕ) (k b p : ℕ) (s s' : DtdProgress) → StandsBehind text k s → drop k text ≡ b ∷ rest
    → step_declarations p s b ≡ some s' → (EachFewNodes (finished_dtd s') → ⊥) → ReadModels text (refuses 53 k)

abbrev pub ByDepth : Type 0
ByDepth = (text rest : List ℕ) (k b p : ℕ) (s s' : DtdProgress) → StandsBehind text k s → drop k text ≡ b ∷ rest
    → step_declarations p s b ≡ some s' → EachFewNodes (finished_dtd s')
    → (Shallow (finished_dtd s') → ⊥) ⊎ (step_declarations parentheses s b ≡ none) → ReadModels text (refuses 54 k)

-- the end of the text: 55, or what it declares
abbrev pub Unfinished : Type 0
Unfinished = (text : List ℕ) (s : DtdProgress) → StandsBehind text (length text) s → value_of_dtd s ≡ none → ReadModels text (refuses 55 (length text))

abbrev pub AllDeclared : Type 0
AllDeclared = (text : List ℕ) (s : DtdProgress) (ds : List Declaration) → StandsBehind text (length text) s → value_of_dtd s ≡ some ds → Holdable ds → ReadModels text (declares ds)

-- a content may begin exactly where the machine wants one
abbrev pub WhereContentBegins : Type 0
WhereContentBegins = (text : List ℕ) (k : ℕ) (s : DtdProgress) → StandsBehind text k s
    → ContentMayBegin text k ↔ ((ds : List Declaration) × (n : List ℕ) × (s ≡ within ds (contents n)))

-- the > of the first declaration that is more than a sheet can hold; 56 if the rest of the text is of the family
abbrev pub TooMuch : Type 0
TooMuch = (text rest : List ℕ) (k b : ℕ) (ds : List Declaration) (q : Phase) (d : Declaration) → StandsBehind text k (within ds q) → Holdable ds → drop k text ≡ b ∷ rest
    → step_declarations parentheses (within ds q) b ≡ some (outside (ds ++ d ∷ [])) → DtdFits (finished_dtd (outside (ds ++ d ∷ []))) → (Holdable (ds ++ d ∷ []) → ⊥) → TooMuchAt text k

abbrev pub TooMuchInAll : Type 0
TooMuchInAll = (text : List ℕ) (k : ℕ) (s : DtdProgress) (ds : List Declaration) → TooMuchAt text k → StandsBehind text (length text) s → value_of_dtd s ≡ some ds → ReadModels text (refuses 56 k)

-- every text has an answer
abbrev pub EveryText : Type 0
EveryText = (text : List ℕ) → (a : ModelsTold) × ReadModels text a
