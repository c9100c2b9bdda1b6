-- What stands at a place of a part, as far as characters go; and the bytes that are a character by themselves wherever they stand.
-- Assumes nothing.
use Rattle.std.specs.Prelude.{Option as Stands, Some, None, Bool, true, cond, not, ◌&&◌, ◌||◌, List, ℕ, ◌+◌, ◌-◌, leb, ltb, eqb, length, get_or}
use Rattle.tokens.specs.Tokens.{front, Means}
use Rattle.tokens.specs.declared.Cursor.{Cursor}
use Rattle.tokens.specs.declared.Event.TheVariants.{Character}
use Rattle.tokens.specs.declared.Answer.TheVariants.{Token}
use Rattle.output.specs.Reach.{farthest}
use Rattle.runs.specs.Visits.{most_visits}
use Rattle.stretches.specs.declared.Literal.{Literal}

-- one of ASCII from the space on other than < & >; a space, a tab or a line feed
abbrev pub plain : ℕ → Bool
plain b = leb 32 b && (ltb b 127 && (not (eqb b 60) && (not (eqb b 38) && not (eqb b 62))))

abbrev pub space : ℕ → Bool
space b = eqb b 32 || (eqb b 9 || eqb b 10)

-- the part ends there, or a < stands there
abbrev pub tag_or_end : List ℕ → ℕ → Bool
tag_or_end part at = cond (ltb at (length part)) (eqb (get_or part at 0) 60) true

-- one more character of k visits is within the limits: the count of visits, room for the longest that one is written as, and how far output reaches
abbrev pub allows : ℕ → ℕ → ℕ → ℕ → Bool
allows k count room to = leb count (most_visits - k) && (leb 5 room && leb to farthest)

-- a character stands there itself, as the reader says, and takes so many bytes; or none does: a reference, or a CR that waits, is none
abbrev pub LiteralIs : List ℕ → ℕ → Stands Literal → Type 0
LiteralIs part at (Some l) = Means (front part at) at (Token (Character l.character true) (record { at = at + l.width }))
LiteralIs part at None = (c : ℕ) (next : Cursor) → Means (front part at) at (Token (Character c true) next) → ⊥
