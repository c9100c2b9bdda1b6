-- The row of bytes that a token has the stores keep. Assumes nothing.
use Rattle.std.specs.Prelude.{◌≡◌, List, ◌++◌, ℕ, ◌≤◌, length, take}
use Rattle.std.proofs.Math.Option.{some}
use Rattle.notation.specs.Rules.{Rules}
use Rattle.notation.specs.Tokens.{TextToken, token_bytes}
use Rattle.encoding.specs.Distinct.{place_of, offset_of}
use Rattle.encoding.specs.Encoded.{tags_stored, strings_stored}
use Rattle.reading.specs.Statements.{Listing}
use Rattle.reading.specs.Rules.{Progress}
use Rattle.lexemes.specs.Kinds.{token_kind, token_number, TokenFits}
use Rattle.sketches.specs.Sketched.{listing_of}
use Rattle.inks.specs.declared.Ink.{Ink}
use Rattle.inks.specs.Promises.{Inked}
use Rattle.shelves.specs.Shelves.{RowMentioned}

-- bytes that stand behind so many others
pub record PartIs (x : List ℕ) (from number : ℕ) (before after : List ℕ) (n : ℕ) : Type 0 where
  pub inside : n ≤ length after
  pub is : (front row rest : List ℕ) → x ≡ front ++ (row ++ rest) → from ≡ length front → number ≡ length row → number ≤ length before → take n after ≡ row

-- in a program the ink holds what is being read there, with the numbers that these rules give
abbrev pub InkIn : Rules → Progress → Ink → Type 0
InkIn r s i = (q : Listing) → listing_of s ≡ some q → Inked (place_of (tags_stored r)) (offset_of (strings_stored r)) q i

pub record RowOf (x : List ℕ) (kind number : ℕ) (ink : Ink) (before after : List ℕ) (n : ℕ) : Type 0 where
  pub inside : n ≤ length after
  pub is : (r : Rules) (s : Progress) (t : TextToken) (rest : List ℕ) → x ≡ token_bytes t ++ rest → TokenFits t → kind ≡ token_kind t → number ≡ token_number t → length before ≡ 256 → InkIn r s ink → RowMentioned r s t (take n after)
