use Prim.Native.Nat.{ℕ, ◌<◌}
use Rattle.sheet.proofs.TagLaws.{TagFits}
use Rattle.sheet.proofs.tags.tags_fit.Given as goal

-- Every tag passed so far has a name and is new; the first that is not settles the test.
abbrev pub invariant-loop-t : goal.invariant-loop-t
invariant-loop-t l = (k : ℕ) → k < l.t → TagFits l.s k
