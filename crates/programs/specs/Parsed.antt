-- What the functions that read programs answer of the bytes. Assumes nothing.
use Rattle.std.specs.Prelude.{Option as Read, Some, None, ◌≡◌, Bool, true, false, ◌&&◌, List, ℕ, ◌+◌, ◌≤◌, length, drop}
use Rattle.std.proofs.Math.Option.{Option}
use Rattle.text.specs.Chars.{Starts}
use Rattle.tells.specs.Tells.{Tells}
use Rattle.programs.specs.Program.{operand_bytes, Condition, condition_bytes, Statement, statement_bytes, Program, program_bytes}
use Rattle.programs.specs.Limits.{OperandFits, ConditionFits, condition_nesting, StatementFits, StatementsFit, statement_nesting, nesting, IsProgram, Visit, first, second, operand_allowed, condition_allowed, statement_allowed, allowed}
use Rattle.programs.specs.Section.{Fill, FieldIs}
use Rattle.programs.specs.declared.Parsed.{Parsed}

-- what reading at i answers, where x lies at i when the bytes from i on start with its bytes: the byte past the good x that lies there, and whether
-- it may stand in a first and in a second visit; or that no good one lies there
pub data ParsedAs {T : Type 0} (bytes : T → List ℕ) (Good : T → Type 0) (may : Visit → T → Bool) (s : List ℕ) (i : ℕ) : Read Parsed → Type 0 where
  whole : (x : T) → Good x → Starts (drop i s) (bytes x) → {r : Parsed} → r.next ≡ i + length (bytes x)
      → r.first ≡ may first x → r.second ≡ may second x → ParsedAs bytes Good may s i (Some r)
  none : ((x : T) → Good x → Starts (drop i s) (bytes x) → ⊥) → ParsedAs bytes Good may s i None

-- up to the byte next, and either visit may hold it
pub record ForBoth (next : ℕ) (r : Parsed) : Type 0 where
  pub next_is : r.next ≡ next
  pub first_is : r.first ≡ true
  pub second_is : r.second ≡ true

-- one and behind it two: a visit may hold them where it may hold each
pub record InTurn (one two r : Parsed) : Type 0 where
  pub next_is : r.next ≡ two.next
  pub first_is : r.first ≡ one.first && two.first
  pub second_is : r.second ≡ one.second && two.second

abbrev pub OperandAt : List ℕ → ℕ → Read Parsed → Type 0
OperandAt = ParsedAs operand_bytes OperandFits operand_allowed

-- nested at most so deep
abbrev pub ConditionWithin : ℕ → Condition → Type 0
ConditionWithin room c = ConditionFits c × (condition_nesting c ≤ room)

abbrev pub StatementWithin : ℕ → List ℕ → ℕ → Statement → Type 0
StatementWithin tags strings room t = StatementFits tags strings t × (statement_nesting t ≤ room)

abbrev pub ListWithin : ℕ → List ℕ → ℕ → Program → Type 0
ListWithin tags strings room p = StatementsFit tags strings p × (nesting p ≤ room)

abbrev pub ConditionAt : ℕ → List ℕ → ℕ → Read Parsed → Type 0
ConditionAt room = ParsedAs condition_bytes (ConditionWithin room) condition_allowed

abbrev pub StatementAt : ℕ → List ℕ → ℕ → List ℕ → ℕ → Read Parsed → Type 0
StatementAt tags strings room = ParsedAs statement_bytes (StatementWithin tags strings room) statement_allowed

-- a statement other than a branch nests nothing, so every depth will do
abbrev pub PlainAt : ℕ → List ℕ → List ℕ → ℕ → Read Parsed → Type 0
PlainAt tags strings s i r = (room : ℕ) → StatementAt tags strings room s i r

abbrev pub ListAt : ℕ → List ℕ → ℕ → List ℕ → ℕ → Read Parsed → Type 0
ListAt tags strings room = ParsedAs program_bytes (ListWithin tags strings room) allowed

abbrev pub ProgramAt : ℕ → List ℕ → List ℕ → ℕ → Read Parsed → Type 0
ProgramAt tags strings = ParsedAs program_bytes (IsProgram tags strings) allowed

-- some programs fill the section
abbrev pub Filled : ℕ → List ℕ → List ℕ → Type 0
Filled tags strings section = (ps : List Program) × Fill tags strings section ps

abbrev pub which_visit : Bool → Visit
which_visit false = first
which_visit true = second

-- where the program starts that a field names: FFFF names none
pub data StartNamed (field : ℕ) : Read ℕ → Type 0 where
  unnamed : field ≡ 0xFFFF → StartNamed field None
  named : (field ≡ 0xFFFF → ⊥) → {start : ℕ} → start ≡ field → StartNamed field (Some start)

-- whether a field for that visit may stand beside the programs that fill the section
abbrev pub FieldTold : ℕ → List ℕ → List ℕ → ℕ → Bool → Bool → Type 0
FieldTold tags strings section field is_second r =
    (ps : List Program) → Fill tags strings section ps → Tells ((m : Option Program) × FieldIs ps (which_visit is_second) field m) r
