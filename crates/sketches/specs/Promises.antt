-- What is promised of sketches: they step as the machine does, and tell which kinds of token may come. Assumes nothing.
use Rattle.std.specs.Prelude.{◌≡◌, Bool, true, false, ◌⊎◌, List, ℕ, ◌<◌, get_or}
use Rattle.std.proofs.Math.Option.{Option, none, some}
use Rattle.programs.specs.Limits.{Visit}
use Rattle.notation.specs.Program.{TextProgram}
use Rattle.notation.specs.Limits.{ProgramWithin}
use Rattle.notation.specs.Tokens.{TextToken, sign, UNBRACE}
use Rattle.reading.specs.Statements.{Listing, list_start, step_statements, value_of_list, finished_list}
use Rattle.reading.specs.Rules.{Progress, beginning, value_of_rules}
use Rattle.lexemes.specs.Kinds.{kinds, token_kind, TokenFits}
use Rattle.verdicts.specs.Judged.{Goes}
use Rattle.verdicts.specs.Steps.{Marks}
use Rattle.sketches.specs.Figures.{present}
use Rattle.sketches.specs.Moves.{Sketch, sketch_start, sketch_fits, step_sketch, program_at, unbraced_sketch, text_ends}
use Rattle.sketches.specs.Sketched.{sketch, listing_of}
use Rattle.sketches.specs.Kept.{KeptSoFar}

-- a state whose sketch this is, and which keeps the limits so far
pub record Drawn (s : Progress) (k : Sketch) : Type 0 where
  pub numbers : sketch s ≡ k
  pub kept : KeptSoFar s
  pub fitting : sketch_fits k ≡ true

abbrev pub DrawnFirst : Type 0
DrawnFirst = Drawn beginning sketch_start

-- a program is being read exactly where the point says so
abbrev pub ProgramsAlike : Type 0
ProgramsAlike = (s : Progress) → present (listing_of s) ≡ present (program_at (sketch s).point)

-- a text may end exactly where the point says so
abbrev pub TextEndsAlike : Type 0
TextEndsAlike = (s : Progress) → present (value_of_rules s) ≡ text_ends (sketch s).point

-- outside programs: a token that is taken
pub record PlainTaken (k : Sketch) (t : TextToken) (s' : Progress) : Type 0 where
  pub fit : TokenFits t
  pub stepped : step_sketch k (token_kind t) ≡ some (sketch s')
  pub drawn : Drawn s' (sketch s')
  pub begun : (q : Listing) → listing_of s' ≡ some q → list_start ≡ q

abbrev pub PlainTakes : Type 0
PlainTakes = (s s' : Progress) (k : Sketch) (t : TextToken) → Drawn s k → listing_of s ≡ none → Goes s t s' → PlainTaken k t s'

-- and the other way: a kind that the sketch takes
abbrev pub PlainGoes : Type 0
PlainGoes = (s : Progress) (k k' : Sketch) (t : TextToken) → Drawn s k → listing_of s ≡ none → TokenFits t → step_sketch k (token_kind t) ≡ some k' → (s' : Progress) × Goes s t s' × (sketch s' ≡ k')

-- in a program: it goes on, and the sketch stays
pub record GoesOnIn (s : Progress) (k : Sketch) (t : TextToken) (q' : Listing) : Type 0 where
  pub next : Progress
  pub goes : Goes s t next
  pub drawn : Drawn next k
  pub reads : listing_of next ≡ some q'

abbrev pub ProgramGoes : Type 0
ProgramGoes = (s : Progress) (k : Sketch) (v : Visit) (q q' : Listing) (t : TextToken) → Drawn s k → listing_of s ≡ some q → program_at k.point ≡ some v → step_statements v q t ≡ some q'
    → ProgramWithin (finished_list q') → GoesOnIn s k t q'

-- or it ends with its brace
pub record EndsIn (s : Progress) (k : Sketch) : Type 0 where
  pub next : Progress
  pub goes : Goes s (sign UNBRACE) next
  pub drawn : Drawn next (unbraced_sketch k)
  pub plain : listing_of next ≡ none

abbrev pub ProgramEnds : Type 0
ProgramEnds = (s : Progress) (k : Sketch) (q : Listing) (p : TextProgram) → Drawn s k → listing_of s ≡ some q → value_of_list q ≡ some p → EndsIn s k

-- and nothing else is taken in a program
pub data ProgramTaken (v : Visit) (q : Listing) (t : TextToken) (k : Sketch) (s' : Progress) : Type 0 where
  goes_on : (q' : Listing) → step_statements v q t ≡ some q' → ProgramWithin (finished_list q') → TokenFits t → Drawn s' k → listing_of s' ≡ some q' → ProgramTaken v q t k s'
  ends : (p : TextProgram) → t ≡ sign UNBRACE → value_of_list q ≡ some p → Drawn s' (unbraced_sketch k) → listing_of s' ≡ none → ProgramTaken v q t k s'

abbrev pub ProgramTakes : Type 0
ProgramTakes = (s s' : Progress) (k : Sketch) (v : Visit) (q : Listing) (t : TextToken) → Drawn s k → listing_of s ≡ some q → program_at k.point ≡ some v → Goes s t s' → ProgramTaken v q t k s'

-- the row of kinds that may come, outside programs
abbrev pub PlainMarks : Type 0
PlainMarks = (s : Progress) (k : Sketch) (may : List Bool) → Drawn s k → listing_of s ≡ none → ((i : ℕ) → i < kinds → get_or may i false ≡ present (step_sketch k i)) → Marks s may

-- and in a program: those that go on within its limits, and its brace where it may end
pub record ProgramRow (v : Visit) (q : Listing) (may : List Bool) : Type 0 where
  pub goes_on : (t : TextToken) → TokenFits t → (t ≡ sign UNBRACE → ⊥) → get_or may (token_kind t) false ≡ true → (q' : Listing) × (step_statements v q t ≡ some q') × ProgramWithin (finished_list q')
  pub marked : (t : TextToken) (q' : Listing) → TokenFits t → step_statements v q t ≡ some q' → ProgramWithin (finished_list q') → get_or may (token_kind t) false ≡ true
  pub brace : get_or may (token_kind (sign UNBRACE)) false ≡ present (value_of_list q)

abbrev pub ProgramMarks : Type 0
ProgramMarks = (s : Progress) (k : Sketch) (v : Visit) (q : Listing) (may : List Bool) → Drawn s k → listing_of s ≡ some q → program_at k.point ≡ some v → ProgramRow v q may → Marks s may
