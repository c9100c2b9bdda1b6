-- A reader of rules holds where the machine stands, and takes a kind of token exactly where the machine takes tokens of it. Assumes nothing.
use Rattle.std.specs.Prelude.{Option, Some, None, IfSome, ◌≡◌, Bool, true, false, List, ℕ}
use Rattle.std.proofs.Math.Option.{none, some}
use Rattle.notation.specs.Tokens.{TextToken}
use Rattle.reading.specs.Statements.{Listing}
use Rattle.reading.specs.Rules.{Progress, beginning, value_of_rules}
use Rattle.lexemes.specs.Kinds.{token_kind, TokenFits}
use Rattle.verdicts.specs.Judged.{Goes, TakesToken}
use Rattle.verdicts.specs.Steps.{Marks}
use Rattle.programs.specs.Parsed.{which_visit}
use Rattle.sketches.specs.Figures.{present}
use Rattle.sketches.specs.Moves.{program_at}
use Rattle.sketches.specs.Sketched.{listing_of}
use Rattle.sketches.specs.Promises.{Drawn}
use Rattle.drafts.specs.Drafted.{sketch_of, SoundDraft}
use Rattle.scripts.specs.Scripts.{Standing}
use Rattle.scripts.specs.Promises.{ScriptIs}
use Rattle.rulings.specs.declared.Reader.{Reader}

-- the draft holds the sketch of a state of the machine, and the script the program that is being read there
pub record Holds (s : Progress) (r : Reader) : Type 0 where
  pub drawn : Drawn s (sketch_of r.draft)
  pub program : (q : Listing) → listing_of s ≡ some q → ScriptIs q r.script

-- what both are wherever they stand
pub record Firm (r : Reader) : Type 0 where
  pub sound : SoundDraft r.draft
  pub standing : Standing r.script

-- a program is being read, for a visit; or none
abbrev pub ReadsFor : Reader → Bool → Type 0
ReadsFor r second = program_at r.draft.point ≡ some (which_visit second)

abbrev pub ReadsAny : Reader → Type 0
ReadsAny r = (second : Bool) × ReadsFor r second

abbrev pub Plain : Reader → Type 0
Plain r = program_at r.draft.point ≡ none

-- the machine takes the token, and the next reader holds where it stands then; or it does not
pub data Answered (s : Progress) (t : TextToken) : Option Reader → Type 0 where
  goes : {r : Reader} (s' : Progress) → Goes s t s' → Holds s' r → Answered s t (Some r)
  stays : (TakesToken s t → ⊥) → Answered s t None

-- whichever state it is, and whichever token of the kind
pub record AnswerIs (r : Reader) (kind : ℕ) (a : Option Reader) : Type 0 where
  pub firm : IfSome a Firm
  pub told : (s : Progress) (t : TextToken) → Holds s r → TokenFits t → token_kind t ≡ kind → Answered s t a

-- the row of kinds that the machine takes
abbrev pub KindsTaken : Reader → List Bool → Type 0
KindsTaken r may = (s : Progress) → Holds s r → Marks s may

-- before the first token
pub record StartIs (r : Reader) : Type 0 where
  pub firm : Firm r
  pub holds : Holds beginning r

-- whether the text may end
abbrev pub EndIs : Reader → Bool → Type 0
EndIs r b = (s : Progress) → Holds s r → b ≡ present (value_of_rules s)
