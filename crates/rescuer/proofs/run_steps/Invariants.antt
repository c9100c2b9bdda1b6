use mathlib.Core.Path.{◌≡◌}
use lib.ListN.{length}
use borrow.Author.Rules.{rules}
use Rattle.turns.specs.Stands.{Grounds}
use Rattle.strides.specs.Strides.{left_to_do}
use Rattle.rescuer.specs.Ran.{Went}
use Rattle.rescuer.proofs.run_steps.Given as goal

-- The loop keeps `Went`, of what was handed in and of what is lent; each step leaves less to do.
-- Assumes nothing.
abbrev pub invariant-loop-l : goal.invariant-loop-l
invariant-loop-l l =
    (length l.stack ≡ length l.initial.stack) × (G : Grounds l.s l.g.tag) × Went G.sheet G.tags l.g l.part l.initial.here l.initial.stack l.initial.out l.initial.area l.initial.report l.p l.here l.deep l.stack l.out l.area l.report

abbrev pub decreases-loop-l : goal.decreases-loop-l
decreases-loop-l l = left_to_do (length l.part) l.p l.here
