use mathlib.Core.Path.{◌≡◌}
use Prim.Native.Nat.{◌+◌, ◌*◌, ◌-◌, ◌≤◌}
use lib.ListN.{length}
use Rattle.lent.specs.Put.{put}
use Rattle.printer.proofs.Laws.{Rest}
use Rattle.printer.proofs.put_characters.Given as goal

-- The loop is stated by what is left: writing the rest of the string at n now leaves what writing all of it at `at` would have left.
abbrev pub invariant-loop-b : goal.invariant-loop-b
invariant-loop-b l =
    (l.n + 2 * (length l.f - l.b-index) ≤ l.at + 2 * length l.f) × (length l.out ≡ length l.initial.out) × (l.n + length (Rest l.f l.b-index) ≡ l.at + length (Rest l.f 0)) × (put l.write l.out l.n (Rest l.f l.b-index) ≡ put l.write l.initial.out l.at (Rest l.f 0))
