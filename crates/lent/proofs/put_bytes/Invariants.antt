use mathlib.Core.Path.{◌≡◌}
use Prim.Native.Nat.{◌+◌}
use lib.ListN.{length, drop}
use Rattle.lent.specs.Put.{put}
use Rattle.lent.proofs.put_bytes.Given as goal

-- The loop is stated by what is left: putting the rest of `new` at n now leaves what putting all of it at `at` would have left (put_one).
abbrev pub invariant-loop-b : goal.invariant-loop-b
invariant-loop-b l = (l.n ≡ l.at + l.b-index) × (length l.memory ≡ length l.initial.memory) × (put l.write l.memory l.n (drop l.b-index l.new) ≡ put l.write l.initial.memory l.at l.new)
