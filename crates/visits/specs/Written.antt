-- What a function that prints leaves in lent memory: text that is due, or, where none is due, some bytes; in a dry run all is as lent.
-- Assumes nothing.
use Rattle.std.specs.Prelude.{◌≡◌, Bool, true, false, List, ◌∷◌, ℕ, ◌+◌, ◌*◌, ◌≤◌, ◌<◌, length, take, drop}
use Rattle.std.proofs.Math.Option.{some}
use Rattle.limits.specs.Limits.{longest_name}
use Rattle.lent.specs.Put.{PutAs}
use Rattle.text.specs.Chars.{Starts}
use Rattle.text.specs.Characters.{WholeCharacters}
use Rattle.programs.specs.Program.{Statement, statement_bytes}
use Rattle.programs.specs.Limits.{Printable, StatementFits}
use Rattle.sheet.specs.Sheet.{Sheet}
use Rattle.output.specs.Escape.{start_tag, end_tag, render, text}
use Rattle.runs.specs.Characters.{characters_of}
use Rattle.runs.specs.Execute.{Effect, name_of, execute_one}
use Rattle.visits.specs.Evaluated.{LiesAt}

-- where writing is: whether it is no dry run, the memory as lent, and the offset
pub record Pen : Type 0 where
  pub write : Bool
  pub lent : List ℕ
  pub at : ℕ

-- writing went on from p to r and left d: by `most` bytes at most, nothing in a dry run, and what is due where something is
pub record Written (most : ℕ) (Due : List ℕ → Type 0) (p : Pen) (r : ℕ) (d : List ℕ) : Type 0 where
  pub reach : r ≤ p.at + most
  pub dry : p.write ≡ false → d ≡ p.lent
  pub right : (w : List ℕ) → Due w → PutAs p.write p.lent p.at w d r

-- the bytes f as escaped text
abbrev pub TextOf : List ℕ → List ℕ → Type 0
TextOf f w = WholeCharacters f × (w ≡ text (characters_of f))

-- a range of the strings as escaped text
abbrev pub RangeOf : List ℕ → ℕ → ℕ → List ℕ → Type 0
RangeOf strings o n w = Printable strings o n × (w ≡ text (characters_of (take n (drop o strings))))

-- the start tag or the end tag of a name
abbrev pub tag_text : Bool → List ℕ → List ℕ
tag_text false n = start_tag n
tag_text true n = end_tag n

-- the record of tag t, 16 bytes after 16 bytes, starts with the length of the name n and n
pub record TagNameAt (tags : List ℕ) (t : ℕ) (n : List ℕ) : Type 0 where
  pub short : length n ≤ longest_name
  pub spelled : Starts (drop (16 * t) tags) (length n ∷ n)

abbrev pub TagOf : List ℕ → ℕ → Bool → List ℕ → Type 0
TagOf tags t ending w = (n : List ℕ) × TagNameAt tags t n × (w ≡ tag_text ending n)

-- the bytes that the tags' records start, and the strings, are those of the sheet a
pub record Sources (tags strings : List ℕ) (a : Sheet) : Type 0 where
  pub names_are : (t : ℕ) → t < length a.names → TagNameAt tags t (name_of a.names t)
  pub strings_are : a.strings ≡ strings

-- what the statement that lies at i prints, in a sheet with those tags and strings
pub record PrintOf (s tags strings : List ℕ) (i : ℕ) (w : List ℕ) : Type 0 where
  pub sheet : Sheet
  pub sources : Sources tags strings sheet
  pub statement : Statement
  pub lies : LiesAt statement_bytes s i statement
  pub fits : StatementFits (length sheet.names) strings statement
  pub kept : List ℕ
  pub values : List ℕ
  pub on : Bool
  pub effect : Effect
  pub does : execute_one sheet kept statement values on ≡ some effect
  pub bytes : w ≡ render effect.printed
