use Prim.Native.Nat.{ℕ, ◌+◌, ◌*◌, ◌<◌}
use Rattle.layout.specs.Layout.{word_at}
use Rattle.sheet.specs.FieldTests.{Named}
use Rattle.sheet.proofs.fields.each_named.Given as goal

-- Every record passed so far has its fields named; the first that has not settles the test.
abbrev pub invariant-loop-k : goal.invariant-loop-k
invariant-loop-k l =
    (j : ℕ) → j < l.k → Named l.tags l.strings l.section (word_at l.s (l.at + l.width * j)) (word_at l.s (l.at + l.width * j + 2))
