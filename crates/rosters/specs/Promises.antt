-- What is promised of names while declarations are read. Assumes nothing.
use Rattle.std.specs.Prelude.{◌≡◌, ◌⊎◌, List, [], ◌++◌, ℕ, ◌≤◌, length}
use Rattle.std.proofs.Math.Option.{some}
use Rattle.limits.specs.Limits.{longest_name}
use Rattle.notation.specs.Statements.{parentheses}
use Rattle.reading.specs.Machine.{walk}
use Rattle.models.specs.Models.{Declaration}
use Rattle.models.specs.Answers.{EndsWith}
use Rattle.models.specs.Names.{own_name, inner_name}
use Rattle.models.specs.Reader.{Phase, Move, over, step_phase, outside, within, step_declarations, finished_phase}
use Rattle.rosters.specs.Names.{declared_in, mentioned_in, names_ended, ending_at, declared_by, mentioned_by}

-- a byte adds at most the name that it ends
pub record NamesBehind (q : Phase) (b : ℕ) (v : Move) : Type 0 where
  pub declared_are : declared_by v ≡ declared_in q ++ names_ended (own_name q) b
  pub mentioned_are : mentioned_by v ≡ mentioned_in q ++ ending_at q b

abbrev pub NamesGrow : Type 0
NamesGrow = (p : ℕ) (q : Phase) (b : ℕ) (v : Move) → step_phase p q b ≡ some v → NamesBehind q b v

-- a declaration that is over is the one that the shortest continuation would have made
abbrev pub OverAsFinished : Type 0
OverAsFinished = (p : ℕ) (q : Phase) (b : ℕ) (d : Declaration) → step_phase p q b ≡ some (over d) → finished_phase q ≡ d

-- the name that is being read is the last of the bytes read, and short
pub record NameLast (n row : List ℕ) : Type 0 where
  pub last : EndsWith n row
  pub short : length n ≤ longest_name

abbrev pub NamesStand : Type 0
NamesStand = (row : List ℕ) (ds : List Declaration) (q : Phase) (n : List ℕ) → walk (step_declarations parentheses) (outside []) row ≡ some (within ds q) → (own_name q ≡ some n) ⊎ (inner_name q ≡ some n) → NameLast n row
