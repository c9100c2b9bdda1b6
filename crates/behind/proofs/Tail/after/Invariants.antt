use Rattle.std.proofs.Common.{◌≡◌, ◌-◌, ◌++◌, length, drop}
use Rattle.places.specs.Shown.{last_bytes}
use Rattle.behind.specs.Tails.{most_kept}
use Rattle.behind.proofs.Tail.after.Given as goal

-- The bytes are put in from the end on.
abbrev pub invariant-loop-j : goal.invariant-loop-j
invariant-loop-j l = (length l.bytes ≡ most_kept) × (drop (most_kept - l.j) l.bytes ≡ last_bytes l.j (l.self.bytes ++ l.passed))
