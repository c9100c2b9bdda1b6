-- Where the machine of bytes stands in a text of declarations. Assumes nothing.
use Rattle.std.specs.Prelude.{◌≡◌, Bool, true, List, [], ◌∷◌, ◌++◌, ◌↔◌, ℕ, ◌≤◌, length, take}
use Rattle.std.proofs.Math.Option.{some}
use Rattle.tells.specs.Tells.{Tells}
use Rattle.notation.specs.Statements.{parentheses}
use Rattle.reading.specs.Machine.{walk}
use Rattle.models.specs.Models.{Declaration}
use Rattle.models.specs.Spelling.{empty_word}
use Rattle.models.specs.Family.{Family}
use Rattle.models.specs.Answers.{AnyAt, Stands}
use Rattle.models.specs.Reader.{DtdProgress, outside, step_declarations, finished_dtd}
use Rattle.models.specs.Promises.{DtdFits}

-- s is where it stands behind the first k bytes, and the shortest continuation from there keeps the limits of each model
pub record StandsBehind (text : List ℕ) (k : ℕ) (s : DtdProgress) : Type 0 where
  pub reached : k ≤ length text
  pub walked : walk (step_declarations parentheses) (outside []) (take k text) ≡ some s
  pub fits : DtdFits (finished_dtd s)

-- EMPTY> could stand there
abbrev pub ContentMayBegin : List ℕ → ℕ → Type 0
ContentMayBegin text k = (ds : List Declaration) × Family (take k text ++ (empty_word ++ 62 ∷ [])) ds

-- whether the A of ANY stands there, and the number of a byte at which no text goes on, where it is known whether a content may begin
abbrev pub AnyTold : List ℕ → ℕ → Bool → Bool → Type 0
AnyTold text k content b = (content ≡ true ↔ ContentMayBegin text k) → Tells (AnyAt text k) b

abbrev pub NumberAt : List ℕ → ℕ → Bool → ℕ → Type 0
NumberAt text k content n = (content ≡ true ↔ ContentMayBegin text k) → Stands text k n
