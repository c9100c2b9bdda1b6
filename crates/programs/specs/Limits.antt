-- Which programs a sheet may have: attributes, values, tag numbers, print ranges, nesting, length, and the visit that each statement and operand needs.
-- Assumes nothing.
use Rattle.std.specs.Prelude.{Bool, true, false, ◌&&◌, List, ℕ, suc, ◌+◌, ◌≤◌, ◌<◌, max, length, take, drop}
use Rattle.limits.specs.Limits.{longest_program, deepest_program}
use Rattle.text.specs.Characters.{WholeCharacters}
use Rattle.programs.specs.Bounds.{Bounds, bounds, AttributeIn, ValueIn}
use Rattle.programs.specs.Program.{Operand, constant, current, recalled, Condition, equal, negated, both, either, Statement, become, copy, recall, reject, print_start, print_end, print_text, echo, branch, Program, done, step, program_bytes}

-- with the bounds of today
abbrev pub Attribute : ℕ → Type 0
Attribute = AttributeIn bounds

abbrev pub Value : ℕ → Type 0
Value = ValueIn bounds

-- n bytes from offset o on lie in the strings, and are whole characters
pub record Printable (strings : List ℕ) (o n : ℕ) : Type 0 where
  pub inside : o + n ≤ length strings
  pub whole : WholeCharacters (take n (drop o strings))

-- with the bounds b
abbrev pub OperandFitsIn : Bounds → Operand → Type 0
OperandFitsIn b (constant v) = ValueIn b v
OperandFitsIn b (current a) = AttributeIn b a
OperandFitsIn b (recalled a) = AttributeIn b a

abbrev pub ConditionFitsIn : Bounds → Condition → Type 0
ConditionFitsIn b (equal x y) = OperandFitsIn b x × OperandFitsIn b y
ConditionFitsIn b (negated c) = ConditionFitsIn b c
ConditionFitsIn b (both c d) = ConditionFitsIn b c × ConditionFitsIn b d
ConditionFitsIn b (either c d) = ConditionFitsIn b c × ConditionFitsIn b d

-- in a sheet with so many tags and these strings
abbrev mutual
  pub StatementFitsIn : Bounds → ℕ → List ℕ → Statement → Type 0
  StatementFitsIn b tags strings (become a v) = AttributeIn b a × ValueIn b v
  StatementFitsIn b tags strings (copy a c) = AttributeIn b a × AttributeIn b c
  StatementFitsIn b tags strings (recall a c) = AttributeIn b a × AttributeIn b c
  StatementFitsIn b tags strings reject = Unit {0}
  StatementFitsIn b tags strings (print_start t) = t < tags
  StatementFitsIn b tags strings (print_end t) = t < tags
  StatementFitsIn b tags strings (print_text o n) = Printable strings o n
  StatementFitsIn b tags strings (echo on) = Unit {0}
  StatementFitsIn b tags strings (branch c l m) = ConditionFitsIn b c × StatementsFitIn b tags strings l × StatementsFitIn b tags strings m

  pub StatementsFitIn : Bounds → ℕ → List ℕ → Program → Type 0
  StatementsFitIn b tags strings done = Unit {0}
  StatementsFitIn b tags strings (step t p) = StatementFitsIn b tags strings t × StatementsFitIn b tags strings p

abbrev pub OperandFits : Operand → Type 0
OperandFits = OperandFitsIn bounds

abbrev pub ConditionFits : Condition → Type 0
ConditionFits = ConditionFitsIn bounds

abbrev pub StatementFits : ℕ → List ℕ → Statement → Type 0
StatementFits = StatementFitsIn bounds

abbrev pub StatementsFit : ℕ → List ℕ → Program → Type 0
StatementsFit = StatementsFitIn bounds

-- how deep if, not, and, or nest together: an outermost if is 1, its condition and branches lie inside it
abbrev pub condition_nesting : Condition → ℕ
condition_nesting (equal x y) = 0
condition_nesting (negated c) = suc (condition_nesting c)
condition_nesting (both c d) = suc (max (condition_nesting c) (condition_nesting d))
condition_nesting (either c d) = suc (max (condition_nesting c) (condition_nesting d))

abbrev mutual
  pub statement_nesting : Statement → ℕ
  statement_nesting (become a v) = 0
  statement_nesting (copy a b) = 0
  statement_nesting (recall a b) = 0
  statement_nesting reject = 0
  statement_nesting (print_start t) = 0
  statement_nesting (print_end t) = 0
  statement_nesting (print_text o n) = 0
  statement_nesting (echo on) = 0
  statement_nesting (branch c l m) = suc (max (condition_nesting c) (max (nesting l) (nesting m)))

  pub nesting : Program → ℕ
  nesting done = 0
  nesting (step t p) = max (statement_nesting t) (nesting p)

-- a program of a sheet: at most 256 bytes with its closing 0, nested at most 8 deep
pub record IsProgramIn (b : Bounds) (tags : ℕ) (strings : List ℕ) (p : Program) : Type 0 where
  pub short : length (program_bytes p) ≤ longest_program
  pub shallow : nesting p ≤ deepest_program
  pub fits : StatementsFitIn b tags strings p

abbrev pub IsProgram : ℕ → List ℕ → Program → Type 0
IsProgram = IsProgramIn bounds

-- the two visits of a node, and what each may hold: statement 3 and operand 2 the second only, echo the first only
pub data Visit : Type 0 where
  first second : Visit

abbrev pub is_first : Visit → Bool
is_first first = true
is_first second = false

abbrev pub is_second : Visit → Bool
is_second first = false
is_second second = true

abbrev pub operand_allowed : Visit → Operand → Bool
operand_allowed v (constant n) = true
operand_allowed v (current a) = true
operand_allowed v (recalled a) = is_second v

abbrev pub condition_allowed : Visit → Condition → Bool
condition_allowed v (equal x y) = operand_allowed v x && operand_allowed v y
condition_allowed v (negated c) = condition_allowed v c
condition_allowed v (both c d) = condition_allowed v c && condition_allowed v d
condition_allowed v (either c d) = condition_allowed v c && condition_allowed v d

abbrev mutual
  pub statement_allowed : Visit → Statement → Bool
  statement_allowed v (become a n) = true
  statement_allowed v (copy a b) = true
  statement_allowed v (recall a b) = is_second v
  statement_allowed v reject = true
  statement_allowed v (print_start t) = true
  statement_allowed v (print_end t) = true
  statement_allowed v (print_text o n) = true
  statement_allowed v (echo on) = is_first v
  statement_allowed v (branch c l m) = condition_allowed v c && (allowed v l && allowed v m)

  pub allowed : Visit → Program → Bool
  allowed v done = true
  allowed v (step t p) = statement_allowed v t && allowed v p
