use Prim.Native.Nat.{◌≤◌}
use lib.ListN.{length, take}
use Rattle.text.specs.Names.{Name}
use Rattle.lexing.proofs.name_run.Given as goal

-- The loop keeps a name on its way.
abbrev pub invariant-loop-i : goal.invariant-loop-i
invariant-loop-i l = (l.i ≤ length l.x) × Name (take l.i l.x)
