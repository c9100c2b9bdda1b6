use mathlib.Core.Path.{◌≡◌}
use Prim.Native.Nat.{◌+◌, ◌*◌, ◌≤◌}
use lib.ListN.{length}
use Rattle.lines.specs.Lines.{most_of_a_line}
use Rattle.lines.proofs.Laws.{LinesLeft}
use Rattle.lines.proofs.put_lines.Given as goal

-- The loop is stated by what is left: writing the lines from q on at n now leaves what writing all of them at `at` would have left.
abbrev pub invariant-loop-q : goal.invariant-loop-q
invariant-loop-q l =
    (l.n ≤ l.at + most_of_a_line * l.q) × (length l.out ≡ length l.initial.out) × LinesLeft l.s (record { write = l.write; lent = l.initial.out; at = l.at }) l.q l.n l.out
