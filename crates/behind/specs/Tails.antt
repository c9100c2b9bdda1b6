-- The last bytes that were passed, as they are kept. Definitions.
-- Assumes nothing.
use Rattle.std.specs.Prelude.{◌≡◌, ℕ, ◌+◌, ◌-◌, min, Bool, List, ◌++◌, length, replicate, slice_index}
use Rattle.places.specs.Shown.{most_shown, last_bytes, ShownIs}
use Rattle.behind.specs.declared.Tail.{Tail}

-- so many are kept: one more than are shown of a line, so that they tell whether the line has more
abbrev pub most_kept : ℕ
most_kept = most_shown + 1

-- the j-th of some bytes from their end, counted from 0
abbrev pub from_end : List ℕ → ℕ → ℕ
from_end s j = slice_index s (length s - 1 - j)

-- before the first byte
abbrev pub no_tail : Tail
no_tail = record { length = 0; bytes = replicate most_kept 0 }

-- after the bytes v more: the last of the old ones followed by those
unfoldable pub tail_after : Tail → List ℕ → Tail
tail_after t v = record { length = min (t.length + length v) most_kept; bytes = last_bytes most_kept (t.bytes ++ v) }

-- what is kept of all the bytes s that were passed; zeros stand before them
pub record TailIs (s : List ℕ) (t : Tail) : Type 0 where
  pub length : t.length ≡ min (length s) most_kept
  pub bytes : t.bytes ≡ last_bytes most_kept (replicate most_kept 0 ++ s)

-- those of them that were passed
abbrev pub bytes_kept : Tail → List ℕ
bytes_kept t = last_bytes t.length t.bytes

-- of the line before the place they show what all that was passed shows, and whether something of it is left out
abbrev pub KeptTell : Type 0
KeptTell = (s v : List ℕ) (t : Tail) (more : Bool) → TailIs s t → ShownIs (bytes_kept t) v more → ShownIs s v more
