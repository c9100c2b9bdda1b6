-- What comes of acts, of a run and the stack's bytes together. Assumes nothing.
use Rattle.std.specs.Prelude.{Option as Taken, Some, None}
use mathlib.Core.Path.{◌≡◌, refl, ap}
use mathlib.Core.List.{List}
use Prim.Native.Nat.{ℕ}
use Rattle.state.specs.declared.State.{State}
use Rattle.live.specs.Live.{full}
use Rattle.acts.specs.declared.Acted.{Acted}
use Rattle.acts.specs.Seen.{seen_if}
use Rattle.steps.specs.declared.Run.{Run}
use Rattle.steps.specs.Seen.{whole}
use Rattle.steps.specs.Parts.{answering_live, answering}

-- what the run reads of the stack is as it was
pub answered_whole : (u : Run) (x : Taken Acted) (b b' : List ℕ) → full u.live b' ≡ full u.live b → whole (answering_live u x) b' ≡ answering (full u.live b) u.at (seen_if x b')
answered_whole u None b b' e = ap (λ (y : State). record { number = 25; at = u.at; state = y }) e
answered_whole u (Some x) b b' e = refl
