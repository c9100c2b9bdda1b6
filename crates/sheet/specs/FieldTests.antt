-- What the tests of the fields tell, of programs that fill their section. Assumes nothing.
use Rattle.std.specs.Prelude.{List, ℕ, ◌+◌, ◌*◌, ◌<◌}
use Rattle.programs.specs.Program.{Program}
use Rattle.programs.specs.Section.{Fill}
use Rattle.layout.specs.Layout.{word_at}
use Rattle.sheet.specs.Fields.{Visits, FieldsAre}

-- two fields, of a first and of a second visit, name a program each, or none
abbrev pub Named : ℕ → List ℕ → List ℕ → ℕ → ℕ → Type 0
Named tags strings section one two = (ps : List Program) → Fill tags strings section ps → (v : Visits) × FieldsAre ps one two v

-- so do the two fields of each of so many records, the first record's at a place and the others' every so many bytes from there
abbrev pub EachNamed : ℕ → List ℕ → List ℕ → List ℕ → ℕ → ℕ → ℕ → Type 0
EachNamed tags strings section s at width count =
    (k : ℕ) → k < count → Named tags strings section (word_at s (at + width * k)) (word_at s (at + width * k + 2))
