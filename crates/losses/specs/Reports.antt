-- The end of the last stretch that a report names. Definitions.
-- Assumes nothing.
use Rattle.std.specs.Prelude.{ℕ, ◌+◌, ◌-◌, ◌%◌, ◌^◌, cond, List, length, nat_lt}
use Rattle.state.specs.Bytes.{long_at}
use Rattle.rescued.specs.Bytes.{entry_width}

-- where in an entry its last byte is named: behind the first
abbrev pub last_at : ℕ
last_at = 8

-- how many bytes come before the end of the last stretch: as many as before its last byte, and this one; none where the report has no entry. No stream is so
-- long that the number would begin again from 0
unfoldable pub end_of_last : List ℕ → ℕ
end_of_last s = cond (nat_lt (length s) entry_width) 0 ((long_at s (length s - entry_width + last_at) + 1) % 2 ^ 64)
