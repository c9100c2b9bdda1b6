-- What is shown of the line before a place, and whether something of it is left out. Definitions.
-- Assumes nothing.
use Rattle.std.specs.Prelude.{◌≡◌, ℕ, ◌+◌, ◌-◌, ◌≤◌, Bool, cond, List, length, drop, nat_lt}
use Rattle.places.specs.Lines.{goes_on, last_line, leading}
use Rattle.places.specs.declared.Shown.{Shown}

-- so many of its bytes at most
abbrev pub most_shown : ℕ
most_shown = 48

-- the last n of some bytes
abbrev pub last_bytes : ℕ → List ℕ → List ℕ
last_bytes n s = drop (length s - n) s

-- some bytes without the rest of a character that starts before them
abbrev pub from_character : List ℕ → List ℕ
from_character s = drop (leading goes_on s) s

-- a line as it is shown: all of it, or where it has more bytes the last of them, from a character's start on
unfoldable pub shown_line : List ℕ → List ℕ
shown_line line = cond (nat_lt most_shown (length line)) (from_character (last_bytes most_shown line)) line

-- of the line before a place v is shown, where the bytes s stand before it; `more` is true exactly where bytes of that line, before v, are left out
pub record ShownIs (s v : List ℕ) (more : Bool) : Type 0 where
  pub shown : v ≡ shown_line (last_line s)
  pub left_out : more ≡ nat_lt (length v) (length (last_line s))

-- it is shown from the byte r .from on
pub record ShownFrom (s : List ℕ) (r : Shown) : Type 0 where
  pub within : r.from ≤ length s
  pub is : ShownIs s (drop r.from s) r.more

-- the last bytes alone, one more than are shown, tell as much as all that stand before the place
abbrev pub LastBytesTell : Type 0
LastBytesTell = (s v : List ℕ) (more : Bool) → ShownIs (last_bytes (most_shown + 1) s) v more → ShownIs s v more
