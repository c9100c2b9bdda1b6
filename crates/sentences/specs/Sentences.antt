-- The assignment that bytes of a program are, the string that a range of the strings is, and a statement other than an if,
-- as text; what precedes a statement, by number. Assumes nothing.
use Rattle.std.specs.Prelude.{◌≡◌, Bool, false, cond, List, [], ◌∷◌, ◌++◌, ℕ, ◌+◌, ◌≤◌, eqb, ltb, length, get_or, take, drop}
use Rattle.programs.specs.Program.{Operand, operand_bytes, Statement, statement_bytes}
use Rattle.programs.specs.Limits.{StatementFits}
use Rattle.sheet.specs.Sheet.{Sheet}
use Rattle.printed.specs.Programs.{quoted, is_item, Preceding, nothing_yet, a_statement, an_item, assignment, statement_text}
use Rattle.naming.specs.ByName.{statement_named}
use Rattle.printer.specs.Operands.{operand_text_at}
use Rattle.visits.specs.Evaluated.{LiesAt}
use Rattle.visits.specs.Written.{Sources}

-- attribute a becomes the operand with that kind and that value or attribute: $.a := x
abbrev pub assignment_at : ℕ → ℕ → ℕ → List ℕ
assignment_at kind a v = operand_text_at 1 a ++ (32 ∷ 58 ∷ 61 ∷ 32 ∷ [] ++ operand_text_at kind v)

-- it is the assignment's
abbrev pub AssignmentsAreTheirs : Type 0
AssignmentsAreTheirs = (a : ℕ) (x : Operand) → assignment_at (get_or (operand_bytes x) 0 0) a (get_or (operand_bytes x) 1 0) ≡ assignment a x

-- a range of the strings in quotes
pub record QuotedRange (strings : List ℕ) (o n : ℕ) (w : List ℕ) : Type 0 where
  pub inside : o + n ≤ length strings
  pub is : w ≡ quoted (take n (drop o strings))

-- what the statement that lies at i is printed as, one other than an if, in a sheet with those tags and strings
pub record PlainText (s tags strings : List ℕ) (i : ℕ) (w : List ℕ) : Type 0 where
  pub sheet : Sheet
  pub sources : Sources tags strings sheet
  pub statement : Statement
  pub lies : LiesAt statement_bytes s i statement
  pub fits : StatementFits (length sheet.names) strings statement
  pub bytes : w ≡ statement_text (statement_named sheet statement)

-- what stands before a statement, by number
abbrev pub preceding_at : ℕ → Preceding
preceding_at k = cond (eqb k 0) nothing_yet (cond (eqb k 1) a_statement an_item)

-- 5, 6, 7: an item of a print
abbrev pub item_at : ℕ → Bool
item_at k = cond (ltb k 5) false (ltb k 8)

-- as the statement is
abbrev pub ItemsAreTheirs : Type 0
ItemsAreTheirs = (a : Sheet) (t : Statement) → item_at (get_or (statement_bytes t) 0 0) ≡ is_item (statement_named a t)
