use mathlib.Core.List.{List}
use mathlib.Core.Path.{◌≡◌}
use Prim.Native.Nat.{ℕ}
use lib.ListN.{length}
use Rattle.state.specs.Bounds.{most_sets}
use Rattle.live.specs.Live.{full}
use Rattle.acts.specs.Standing.{standing_at}
use Rattle.acts.proofs.Bracketing.{LeftIn}
use Rattle.acts.proofs.brackets.Given as goal

-- The loop is stated by what is left: any answer that is right for the brackets left, from the state that stands there and the output so far, is right for all.
abbrev pub invariant-loop-c : goal.invariant-loop-c
invariant-loop-c l =
    (length l.out ≡ length l.initial.out) × ((length l.sets ≡ most_sets) × ((b : List ℕ) → LeftIn l.s l.q l.line l.c-index (full l.z b) (record { write = l.write; lent = l.initial.out; at = l.at }) (full (standing_at l.z l.c-index l.env l.n l.sets) b) l.to l.out))
