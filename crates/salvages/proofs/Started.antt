-- A fresh state's bytes, and no more than 0 behind them, are those of a fresh salvage run; and any two allowed answers are equal.
-- Assumes nothing.
use mathlib.Core.Path.{◌≡◌, refl, sym, ap, ap₂, ◌∙◌}
use mathlib.Core.Bool.{true}
use mathlib.Core.List.{List, ◌++◌, append_assoc}
use Prim.Native.Nat.{ℕ, ◌+◌, ◌-◌, ◌≤◌, ◌<◌}
use native.Mathlib.Omega.{arith}
use lib.ListN.{length, take, drop, replicate, length-append, length-drop, length-replicate}
use Rattle.lent.specs.Put.{put}
use Rattle.lent.proofs.Laws.{put_all}
use Rattle.state.specs.Bounds.{state_width}
use Rattle.state.specs.Bytes.{number_bytes, bytes_of, Wrote}
use Rattle.state.specs.Changes.{fresh_state}
use Rattle.state.specs.declared.State.{State}
use Rattle.state.proofs.Tidy.{fresh_for}
use Rattle.rescue.specs.Held.{fresh_salvage}
use Rattle.rescued.specs.Bytes.{salvage_width, tail_bytes, no_return, mode_bytes, salvage_bytes}
use Rattle.rescuer.proofs.Going.{behind_it_lem}
use Rattle.salvages.specs.Started.{SalvageStarted, too_short, fresh, OneStart}

abbrev behind_it : List ℕ
behind_it = replicate (salvage_width - state_width) 0

none_behind : behind_it ≡ tail_bytes 0 0 0 0 0 no_return
unfolding tail_bytes number_bytes
none_behind = refl

fresh_is : bytes_of fresh_state ++ behind_it ≡ salvage_bytes fresh_salvage
unfolding mode_bytes
fresh_is = ap₂ (λ (z : State) (l : List ℕ). bytes_of z ++ l) fresh_for none_behind

pub started : {lent d after : List ℕ} {z : State} {r : ℕ} → salvage_width ≤ length lent → z ≡ fresh_state → Wrote state_width lent 0 (bytes_of z) d r →
    after ≡ put true d state_width behind_it → SalvageStarted lent after salvage_width
started {lent} {d} {after} {z} h e w f =
    let n : length behind_it ≡ salvage_width - state_width = length-replicate {A = ℕ} (salvage_width - state_width) 0 in
    let l : 0 + length (bytes_of z) ≡ state_width = omega (arith, w.wide) in
    let b : d ≡ bytes_of z ++ drop state_width lent = w.left ∙ put_all lent 0 (bytes_of z) (omega arith) ∙ ap (λ (k : ℕ). bytes_of z ++ drop k lent) l in
    let k : length d ≡ length (bytes_of z) + length (drop state_width lent) = ap (λ (x : List ℕ). length x) b ∙ length-append (bytes_of z) (drop state_width lent) in
    let i : state_width + length behind_it ≡ salvage_width = omega arith in
    let p : after ≡ take state_width d ++ (behind_it ++ drop (state_width + length behind_it) d) =
    f ∙ put_all d state_width behind_it (omega (arith, k, length-drop state_width lent)) ∙ append_assoc (take state_width d) behind_it (drop (state_width + length behind_it) d) in
    fresh h
    (behind_it_lem (bytes_of z) behind_it lent d after state_width w.wide b p
    ∙ ap₂ (λ (y : State) (j : ℕ). (bytes_of y ++ behind_it) ++ drop j lent) e i ∙ ap (λ (x : List ℕ). x ++ drop salvage_width lent) fresh_is) refl

pub one_start : OneStart
one_start lent after after' w w' (too_short h e) (too_short i f) = (e ∙ sym f, refl)
one_start lent after after' w w' (too_short h e) (fresh i f n) = absurd (omega (arith, h, i))
one_start lent after after' w w' (fresh h e m) (too_short i f) = absurd (omega (arith, h, i))
one_start lent after after' w w' (fresh h e m) (fresh i f n) = (e ∙ sym f, m ∙ sym n)
