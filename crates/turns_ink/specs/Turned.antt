-- An ink beside a reader of rules, behind a token. Assumes nothing.
use Rattle.std.specs.Prelude.{◌≡◌, Bool, ℕ}
use Rattle.std.proofs.Math.Option.{some}
use Rattle.text.specs.Characters.{utf8s}
use Rattle.notation.specs.Rules.{Rules}
use Rattle.notation.specs.Tokens.{TextToken, nonterminal, value, attribute, name, start_tag, end_tag, empty_tag, string, word, sign}
use Rattle.reading.specs.Statements.{Listing}
use Rattle.reading.specs.Rules.{Progress}
use Rattle.encoding.specs.Distinct.{place_of, offset_of}
use Rattle.encoding.specs.Encoded.{tags_stored, strings_stored}
use Rattle.lexemes.specs.Kinds.{token_kind, token_number, TokenFits}
use Rattle.verdicts.specs.Judged.{Goes}
use Rattle.sketches.specs.Moves.{Sketch, program_at}
use Rattle.sketches.specs.Sketched.{listing_of}
use Rattle.sketches.specs.Promises.{Drawn}
use Rattle.drafts.specs.Drafted.{program_if}
use Rattle.strokes.specs.Promises.{TagNumbered, StringAt}
use Rattle.inks.specs.declared.Ink.{Ink}
use Rattle.inks.specs.Held.{Trim}
use Rattle.inks.specs.Promises.{Inked}

-- in a program the ink holds its bytes so far, with the numbers that tags and strings have in the sheet of these rules
abbrev pub InkHolds : Rules → Progress → Ink → Type 0
InkHolds r s i = (q : Listing) → listing_of s ≡ some q → Inked (place_of (tags_stored r)) (offset_of (strings_stored r)) q i

-- the number of the tag or the string that a token is
abbrev pub ItemPlaced : Rules → TextToken → ℕ → Type 0
ItemPlaced r (nonterminal n) place = Unit {0}
ItemPlaced r (value v) place = Unit {0}
ItemPlaced r (attribute m a) place = Unit {0}
ItemPlaced r (name n) place = Unit {0}
ItemPlaced r (start_tag n) place = TagNumbered (place_of (tags_stored r)) n place
ItemPlaced r (end_tag n) place = TagNumbered (place_of (tags_stored r)) n place
ItemPlaced r (empty_tag n) place = TagNumbered (place_of (tags_stored r)) n place
ItemPlaced r (string cs) place = StringAt (offset_of (strings_stored r)) (utf8s cs) place
ItemPlaced r (word w) place = Unit {0}
ItemPlaced r (sign g) place = Unit {0}

-- for all rules: what held before the token holds behind it
pub record InkTurned (i : Ink) (kind number place : ℕ) (reads second : Bool) (i' : Ink) : Type 0 where
  pub trim : Trim i'
  pub is : (r : Rules) (s s' : Progress) (k : Sketch) (t : TextToken) → Drawn s k → program_at k.point ≡ program_if reads second → Goes s t s' → TokenFits t → kind ≡ token_kind t → number ≡ token_number t → ItemPlaced r t place
      → InkHolds r s i → InkHolds r s' i'
