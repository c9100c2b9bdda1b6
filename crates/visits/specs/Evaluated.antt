-- What lies in a program section: the value of an operand, the answer of a condition, where a statement ends and what it makes of the attributes and
-- echo. Assumes nothing.
use Rattle.std.specs.Prelude.{◌≡◌, List, ℕ, ◌+◌, ◌≤◌, length, drop}
use Rattle.std.proofs.Math.Option.{some}
use Rattle.text.specs.Chars.{Starts}
use Rattle.programs.specs.Program.{Operand, operand_bytes, Condition, condition_bytes, Statement, statement_bytes}
use Rattle.programs.specs.Limits.{StatementFits}
use Rattle.sheet.specs.Sheet.{Sheet}
use Rattle.runs.specs.Execute.{Effect, operand_value, holds, execute_one}
use Rattle.visits.specs.declared.Env.{Env}
use Rattle.visits.specs.declared.Judged.{Judged}

-- x lies at i where the section from i on starts with its bytes
abbrev pub LiesAt : {T : Type 0} → (T → List ℕ) → List ℕ → ℕ → T → Type 0
LiesAt bytes s i x = Starts (drop i s) (bytes x)

-- v is the value of the operand that lies at i
abbrev pub ValueIs : List ℕ → ℕ → List ℕ → List ℕ → ℕ → Type 0
ValueIs s i kept values v = (x : Operand) → LiesAt operand_bytes s i x → v ≡ operand_value kept x values

-- the answer of a condition that lies at i, and where it ends
pub record JudgedAs (s : List ℕ) (i : ℕ) (kept values : List ℕ) (r : Judged) : Type 0 where
  pub low : i ≤ r.next
  pub high : r.next ≤ length s
  pub right : (c : Condition) → LiesAt condition_bytes s i c → (r.yes ≡ holds kept c values) × (r.next ≡ i + length (condition_bytes c))

-- r is i + w, as far as the section goes
pub record SectionEndIs (s : List ℕ) (i w r : ℕ) : Type 0 where
  pub low : i + 1 ≤ r
  pub high : r ≤ length s
  pub exact : i + w ≤ length s → r ≡ i + w

-- r is past the statement that lies at i, one other than a branch
pub record PastIs (s : List ℕ) (i r : ℕ) : Type 0 where
  pub low : i + 1 ≤ r
  pub high : r ≤ length s
  pub exact : (t : Statement) → LiesAt statement_bytes s i t → r ≡ i + length (statement_bytes t)

-- the attributes and echo after a statement that lies at i and fits, where it does not reject
abbrev pub SettledAs : List ℕ → ℕ → List ℕ → Env → Env → Type 0
SettledAs s i kept e r =
    (a : Sheet) (tags : ℕ) (strings : List ℕ) (t : Statement) → LiesAt statement_bytes s i t → StatementFits tags strings t → (x : Effect) → execute_one a kept t e.values e.echo ≡ some x
    → (r.values ≡ x.values) × (r.echo ≡ x.echo)
