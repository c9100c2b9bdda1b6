use mathlib.Core.Path.{◌≡◌}
use lib.ListN.{length}
use Rattle.state.specs.Bounds.{most_sets}
use Rattle.state.specs.Changes.{bare_saved, bare_from}
use Rattle.state.proofs.Frame.tidy.Given as goal

-- The loop is stated by what is left to make bare: the sets from the i-th on.
abbrev pub invariant-loop-i : goal.invariant-loop-i
invariant-loop-i l =
    (length l.saved ≡ most_sets) × (bare_from bare_saved l.i l.saved ≡ bare_from bare_saved l.self.«open» l.self.saved)
