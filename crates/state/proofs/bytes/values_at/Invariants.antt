use mathlib.Core.Path.{◌≡◌}
use Prim.Native.Nat.{◌+◌, ◌-◌}
use lib.Seq.{sets as stored}
use Rattle.runs.specs.Visits.{attributes}
use Rattle.layout.specs.Layout.{byte_at}
use Rattle.state.specs.Bytes.{gathered}
use Rattle.state.proofs.bytes.values_at.Given as goal

-- The loop is stated by what is left to read: filling in the rest now gives all the values (fill_more).
abbrev pub invariant-loop-i : goal.invariant-loop-i
invariant-loop-i l = stored l.values l.i (gathered (byte_at l.bytes) 1 (l.at + l.i) (attributes - l.i)) ≡ gathered (byte_at l.bytes) 1 l.at attributes
