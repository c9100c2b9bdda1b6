-- Number 29: 32 open elements fit, with the highest count, the highest values and a number that closes; one more of each does not, nor do other bytes than a state's.
-- Assumes nothing.
use mathlib.Core.Path.{◌≡◌, refl}
use mathlib.Core.Logic.{inl, inr}
use mathlib.Core.List.{List, [], ◌∷◌}
use mathlib.Core.Option.{some}
use Prim.Native.Nat.{ℕ, zero, suc, ◌≤◌, ◌<◌}
use native.Mathlib.Omega.{arith}
use lib.ListN.{get_or, replicate}
use Rattle.programs.specs.Limits.{Value}
use Rattle.runs.specs.Closing.{closed_by_end, closed_by_refusal, closed_by_count}
use Rattle.runs.specs.Visits.{grammar}
use Rattle.runs.specs.Examples.{Each, endless}
use Rattle.state.specs.Changes.{not_closed}
use Rattle.state.specs.Meaning.{Every, none, more}
use Rattle.fit.specs.Fit.{SetFits, FramesFit, ClosingFits}
use Rattle.edges.specs.Edges.{set_in_use, element_in_use, of_states}
use Rattle.edges.proofs.Fits.{EdgeFits}

-- equal things all fit where one does
every : {X : Type 0} (P : X → Type 0) (x : X) → P x → (n : ℕ) → Every P (replicate n x)
every P x p zero = none
every P x p (suc n) = more p (every P x p n)

values_fit : (n : ℕ) → Every Value (replicate n 63)
values_fit n = every Value 63 (omega arith) n

sets_fit : (n : ℕ) → Every SetFits (replicate n set_in_use)
sets_fit n = every SetFits set_in_use (values_fit 8) n

frames_fit : (n : ℕ) → FramesFit (grammar endless) (some 0) (replicate n element_in_use)
frames_fit zero = tt
frames_fit (suc n) =
    (record { nonterm = 0; allowed = refl; production = tt; nodes = 1 ∷ []; place = refl; sets = refl; values = sets_fit 2 }, frames_fit n)

-- a number that is none of those that close
no_closing : {c : ℕ} → 30 < c → (c ≡ not_closed → ⊥) → ClosingFits c → ⊥
no_closing l n (inl h) = n h
no_closing l n (inr closed_by_end) = omega arith
no_closing l n (inr (closed_by_refusal k h)) = omega arith
no_closing l n (inr closed_by_count) = omega arith

-- each of values that fit does; 0 where there is none
at_fits : (vs : List ℕ) (i : ℕ) → Every Value vs → get_or vs i 0 ≤ 63
at_fits [] i none = omega arith
at_fits (v ∷ vs) zero (more h r) = h
at_fits (v ∷ vs) (suc i) (more h r) = at_fits vs i r

pub states_fit : Each EdgeFits of_states
states_fit = (
  record { few = omega arith; closing = inr closed_by_count; count = omega arith; values = values_fit 8; frames = frames_fit 32 },
  (
    (λ a z e f. omega (arith, e, f.few), refl),
    (
      (λ a z e f. no_closing (omega (arith, e)) (λ h. omega (arith, e, h)) f.closing, refl),
      (
        (λ a z e f. omega (arith, e, f.count), refl),
        (
          (λ a z e f. omega (arith, e, at_fits z.values 0 f.values), refl),
          (
            (λ a z e f. omega (arith, e, at_fits z.values 7 f.values), refl),
            (
              (λ e. omega arith, refl),
              ((λ e. omega arith, refl), tt),
            ),
          ),
        ),
      ),
    ),
  ),
)
