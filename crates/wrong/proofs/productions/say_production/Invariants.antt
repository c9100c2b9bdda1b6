use Prim.Native.Nat.{◌<◌}
use Rattle.wrong.proofs.productions.say_production.Given as goal

-- Production by production; the nodes before each stay few.
abbrev pub invariant-loop-q : goal.invariant-loop-q
invariant-loop-q l = l.before < 65536
