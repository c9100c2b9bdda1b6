-- Statements, lists of them and the branches of an if that lie in a program section, as text; and what putting one leaves in lent memory.
-- Assumes nothing.
use Rattle.std.specs.Prelude.{◌≡◌, Bool, true, false, cond, List, [], ◌∷◌, ◌++◌, ℕ, ◌+◌, ◌*◌, ◌≤◌, eqb, length}
use Rattle.lent.specs.Put.{PutAs}
use Rattle.programs.specs.Program.{Statement, statement_bytes, Program, program_bytes}
use Rattle.programs.specs.Limits.{StatementFits, StatementsFit}
use Rattle.sheet.specs.Sheet.{Sheet}
use Rattle.notation.specs.Program.{TextProgram}
use Rattle.notation.specs.Tokens.{BEGIN, END, word_bytes}
use Rattle.printed.specs.Programs.{is_one, is_plain_one, Preceding, nothing_yet, branch_text, statement_text, list_text, program_text}
use Rattle.naming.specs.ByName.{statement_named, program_named}
use Rattle.visits.specs.Evaluated.{LiesAt}
use Rattle.visits.specs.Written.{Pen, Sources}
use Rattle.visits.specs.Ran.{Ground}
use Rattle.clauses.specs.declared.Put.{Put}

-- a branch of an if: one statement stands bare, and after else also an if
abbrev pub stands_bare : Bool → TextProgram → Bool
stands_bare after_else p = cond after_else (is_one p) (is_plain_one p)

abbrev pub branch_of : Bool → TextProgram → List ℕ
branch_of after_else p = branch_text (stands_bare after_else p) p (list_text nothing_yet p)

-- by the shape of its list
abbrev pub bare_at : Bool → ℕ → Bool
bare_at after_else k = cond (eqb k 1) true (cond after_else (eqb k 2) false)

-- what stands around a branch that is not bare, and is empty or not
abbrev pub opening_of : Bool → List ℕ
opening_of bare = cond bare [] (word_bytes BEGIN ++ 32 ∷ [])

abbrev pub end_word : Bool → Bool → List ℕ
end_word bare empty = cond bare [] (cond empty (word_bytes END) (32 ∷ word_bytes END))

-- more than the text of a program has for each of its bytes: what a statement prints, and the words of an if
abbrev pub most_of_a_byte : ℕ
most_of_a_byte = 2048

-- more than begin, end and their spaces have
abbrev pub most_around : ℕ
most_around = 16

-- a kind of thing that lies in a program section and has a text
pub record Passage : Type 1 where
  pub Thing : Type 0
  pub bytes : Thing → List ℕ
  pub Fits : ℕ → List ℕ → Thing → Type 0
  pub text : Sheet → Thing → List ℕ
  pub least : ℕ
  pub spare : ℕ

-- so much is spared that begin and end, or what stands between two statements, may still come
abbrev pub statements : Passage
statements = record { Thing = Statement; bytes = statement_bytes; Fits = StatementFits; text = λ a t. statement_text (statement_named a t); least = 1; spare = 32 }

abbrev pub lists : Preceding → Passage
lists b = record { Thing = Program; bytes = program_bytes; Fits = StatementsFit; text = λ a p. list_text b (program_named a p); least = 0; spare = 16 }

abbrev pub branches : Bool → Passage
branches after_else = record { Thing = Program; bytes = program_bytes; Fits = StatementsFit; text = λ a p. branch_of after_else (program_named a p); least = 0; spare = 0 }

-- what lies at i is put as its text, and where it ends
pub record PassagePut (K : Passage) (g : Ground) (i : ℕ) (p : Pen) (r : Put) (d : List ℕ) : Type 0 where
  pub low : i + K.least ≤ r.next
  pub high : r.next ≤ length g.section
  pub reach : r.at + K.spare + most_of_a_byte * i ≤ p.at + most_around + most_of_a_byte * r.next
  pub dry : p.write ≡ false → d ≡ p.lent
  pub right : (a : Sheet) → Sources g.tags g.strings a → (x : K.Thing) → LiesAt K.bytes g.section i x → K.Fits (length a.names) g.strings x
      → (r.next ≡ i + length (K.bytes x)) × PutAs p.write p.lent p.at (K.text a x) d r.at

-- more than the text of a program has, in a section of no more than 65,536 bytes
abbrev pub most_of_a_program : ℕ
most_of_a_program = 134217730

-- what the program that lies at i is printed as, in a sheet with those tags and strings
pub record ProgramTextAt (s tags strings : List ℕ) (i : ℕ) (w : List ℕ) : Type 0 where
  pub sheet : Sheet
  pub sources : Sources tags strings sheet
  pub program : Program
  pub lies : LiesAt program_bytes s i program
  pub fits : StatementsFit (length sheet.names) strings program
  pub bytes : w ≡ program_text (program_named sheet program)
