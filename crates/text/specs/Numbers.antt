-- Document 01's number for each case of what reading a character answers, by who asks, and when it is given. Definitions and promises.
-- Assumes nothing.
use Rattle.std.specs.Prelude.{◌≡◌, Bool, true, false, List, [], ◌↔◌, ℕ, zero, suc, length}
use Rattle.std.proofs.Math.Option.{Option, none, some}
use Rattle.text.specs.Chars.{Char, utf8, Starts, Apart, DecodedIs}
use Rattle.text.specs.declared.Decoded.{Decoded}
use Rattle.text.specs.declared.Decoded.TheVariants.{Whole, Begun, Bad}

-- the reader of a stream, of which more is to come or not; or the test of a sheet, of a string that a program prints
pub data Asker : Type 0 where
  in_stream : (more_to_come : Bool) → Asker
  in_string : Asker

-- by who asks, and how many bytes are left. A whole character has no number of its own. One that is begun is 16 in a stream while more is to come, 27
-- once the stream is declared ended, and 6 in a string, unless nothing is left there. Bytes that begin none are 20 in a stream and 6 in a string
abbrev pub character_number : Asker → (left : ℕ) → Decoded → Option ℕ
character_number a left (Whole c n) = none
character_number (in_stream true) left Begun = some 16
character_number (in_stream false) zero Begun = none
character_number (in_stream false) (suc n) Begun = some 27
character_number in_string zero Begun = none
character_number in_string (suc n) Begun = some 6
character_number (in_stream more) left Bad = some 20
character_number in_string left Bad = some 6

-- of what reading a character of a stream answers 20, exactly where the bytes neither start with one nor begin one (a whole character may still be refused: a bare > is 20 too)
abbrev pub TwentyExactly : Type 0
TwentyExactly = (more : Bool) (f : List ℕ) (d : Decoded) → DecodedIs f d → (character_number (in_stream more) (length f) d ≡ some 20) ↔ ((c : ℕ) → Char c → Apart f (utf8 c))

-- of bytes that a string still has 6, exactly where they do not start with a whole character
abbrev pub SixInString : Type 0
SixInString =
    (f : List ℕ) (d : Decoded) → (f ≡ [] → ⊥) → DecodedIs f d → (character_number in_string (length f) d ≡ some 6) ↔ ((c : ℕ) → Char c → Starts f (utf8 c) → ⊥)
