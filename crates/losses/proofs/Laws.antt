-- Laws of a report's end, and of a line that ends.
-- Assumes nothing.
use Rattle.std.proofs.Common.{◌≡◌, ℕ, ◌+◌, ◌-◌, ◌%◌, ◌^◌, ◌<◌, ◌≤◌, Bool, true, cond, List, length, sym, ap, ◌∙◌, le-ltb, lt-ltb}
use Rattle.behind.specs.Lines.{line_on}
use Rattle.state.specs.Bytes.{long_at}
use Rattle.rescued.specs.Bytes.{entry_width}
use Rattle.losses.specs.Reports.{last_at, end_of_last}

-- a report without an entry, and one with a last entry

pub none_dropped : (s : List ℕ) → length s < entry_width → 0 ≡ end_of_last s
unfolding end_of_last
none_dropped s h = sym (ap (λ t. cond t 0 ((long_at s (length s - entry_width + last_at) + 1) % 2 ^ 64)) (lt-ltb (length s) entry_width h))

pub last_dropped : (s : List ℕ) (n r : ℕ) → entry_width ≤ length s → n ≡ long_at s (length s - entry_width + last_at) → r ≡ (n + 1) % 2 ^ 64 → r ≡ end_of_last s
unfolding end_of_last
last_dropped s n r h e up =
    up ∙ ap (λ k. (k + 1) % 2 ^ 64) e ∙ sym (ap (λ t. cond t 0 ((long_at s (length s - entry_width + last_at) + 1) % 2 ^ 64)) (le-ltb (length s) entry_width h))

-- the next line
pub line_ended : (ends : Bool) (line r : ℕ) → ends ≡ true → r ≡ (line + 1) % 2 ^ 64 → r ≡ line_on ends line
line_ended ends line r e up = up ∙ sym (ap (λ t. line_on t line) e)
