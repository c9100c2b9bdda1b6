-- A bed beside a reader of rules, behind a token. Assumes nothing.
use Rattle.std.specs.Prelude.{◌≡◌, Bool, List, ℕ, ◌≤◌}
use Rattle.std.proofs.Math.Option.{Option, some}
use Rattle.notation.specs.Program.{TextProgram}
use Rattle.notation.specs.Rules.{Rules}
use Rattle.notation.specs.Tokens.{TextToken, sign, UNBRACE}
use Rattle.reading.specs.Statements.{Listing, value_of_list}
use Rattle.reading.specs.Expressions.{Parsing}
use Rattle.reading.specs.Rules.{Head, Progress, tagged, within}
use Rattle.lexemes.specs.Kinds.{token_kind, token_number}
use Rattle.verdicts.specs.Judged.{Goes}
use Rattle.sketches.specs.Moves.{Sketch, program_at}
use Rattle.sketches.specs.Sketched.{listing_of}
use Rattle.sketches.specs.Promises.{Drawn}
use Rattle.drafts.specs.Drafted.{program_if}
use Rattle.packing.specs.Packed.{field}
use Rattle.beds.specs.declared.Bed.{Bed}
use Rattle.beds.specs.Bedded.{Bedded}

-- within a tag's parentheses the bed holds what is being read there, with the fields that these rules have
abbrev pub BedHolds : Rules → Progress → Bed → Type 0
BedHolds r s b = (x : Parsing) (f : Option TextProgram) (u : List ℕ) (h : Head) → s ≡ within x f u h → Bedded (λ p. field r (some p)) x b

-- 6 where the tag's parenthesis is wanted, 7 within
pub record BedStands (s : Progress) (here : ℕ) : Type 0 where
  pub at_tag : (f : Option TextProgram) (u : List ℕ) (h : Head) → s ≡ tagged f u h → here ≡ 6
  pub inside : (x : Parsing) (f : Option TextProgram) (u : List ℕ) (h : Head) → s ≡ within x f u h → here ≡ 7

-- where the token ends a program, its field
abbrev pub EndedAt : Rules → Progress → TextToken → ℕ → Type 0
EndedAt r s t place = (q : Listing) (p : TextProgram) → t ≡ sign UNBRACE → listing_of s ≡ some q → value_of_list q ≡ some p → (place ≡ field r (some p)) × (place ≤ 0xFFFF)

-- for all rules: what held before the token holds behind it
pub record BedTurned (b : Bed) (here kind number place : ℕ) (reads second : Bool) (b' : Bed) : Type 0 where
  pub is : (r : Rules) (s s' : Progress) (k : Sketch) (t : TextToken) → Drawn s k → program_at k.point ≡ program_if reads second → BedStands s here → Goes s t s' → kind ≡ token_kind t → number ≡ token_number t → EndedAt r s t place
      → BedHolds r s b → BedHolds r s' b'
