-- What is promised of the machines. Assumes nothing.
use Rattle.std.specs.Prelude.{◌≡◌, List, ℕ, ◌≤◌, length}
use Rattle.std.proofs.Math.Option.{some}
use Rattle.programs.specs.Program.{Condition, condition_bytes}
use Rattle.programs.specs.Limits.{condition_nesting, Visit}
use Rattle.notation.specs.Refusal.{Continues, Told}
use Rattle.notation.specs.Conditions.{ConditionIs}
use Rattle.notation.specs.Statements.{ListIs}
use Rattle.notation.specs.Productions.{ContentIs, RulesAre}
use Rattle.notation.specs.Limits.{ProgramWithin, ContentWithin, WithinLimits}
use Rattle.reading.specs.Machine.{Machine, walk, next}
use Rattle.reading.specs.Reads.{Limited, ReadBy}
use Rattle.reading.specs.Conditions.{conditions}
use Rattle.reading.specs.Statements.{statements}
use Rattle.reading.specs.Expressions.{contents}
use Rattle.reading.specs.Rules.{rules}

-- a machine that reads a language tells of every row what it writes, or the place at which no continuation is possible
abbrev pub TellsAll : Type 1
TellsAll = (A R : Type 0) (m : Machine A R) (Phrase : List A → R → Type 0) (Fits : R → Type 0) (fits : (r : R) → Dec (Fits r)) → ReadBy m Phrase Fits
    → (row : List A) → Told (Limited Phrase Fits) row

-- and each row writes one thing at most
abbrev pub WritesOne : Type 1
WritesOne = (A R : Type 0) (m : Machine A R) (Phrase : List A → R → Type 0) (Fits : R → Type 0) → ReadBy m Phrase Fits
    → (row : List A) (v w : R) → Phrase row v → Phrase row w → v ≡ w

-- a condition of at most so many bytes, nested at most so deep
pub record SmallCondition (size deep : ℕ) (c : Condition) : Type 0 where
  pub short : length (condition_bytes c) ≤ size
  pub shallow : condition_nesting c ≤ deep

-- the machine reads conditions, where there is room for the shortest
abbrev pub ReadsConditions : Type 0
ReadsConditions = (v : Visit) (p size deep : ℕ) → 5 ≤ size → ReadBy (conditions v p) (ConditionIs v p) (SmallCondition size deep)

-- the machine reads lists of statements, those between braces
abbrev pub ReadsStatements : Type 0
ReadsStatements = (v : Visit) → ReadBy (statements v) (ListIs v) ProgramWithin

-- the machine reads what stands between a tag's parentheses
abbrev pub ReadsContents : Type 0
ReadsContents = ReadBy contents ContentIs ContentWithin

-- the machine reads the tokens of rules
abbrev pub ReadsRules : Type 0
ReadsRules = ReadBy rules RulesAre WithinLimits

-- with its limits the machine takes just the rows that go on
pub record Takes {A R : Type 0} (m : Machine A R) (Phrase : List A → R → Type 0) {Fits : R → Type 0} (fits : (r : R) → Dec (Fits r)) (row : List A) : Type 0 where
  pub only_if : (s : m.State) → walk (next m fits) m.start row ≡ some s → Continues (Limited Phrase Fits) row
  pub taken : Continues (Limited Phrase Fits) row → (s : m.State) × (walk (next m fits) m.start row ≡ some s)

abbrev pub TakesWhatGoesOn : Type 1
TakesWhatGoesOn = (A R : Type 0) (m : Machine A R) (Phrase : List A → R → Type 0) (Fits : R → Type 0) (fits : (r : R) → Dec (Fits r)) → ReadBy m Phrase Fits
    → (row : List A) → Takes m Phrase fits row
