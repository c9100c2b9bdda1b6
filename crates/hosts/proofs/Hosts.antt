-- For hosts in C, end to end: a stream fed to wickpollen_run in whatever parts and rooms, from the bytes that wickpollen_fresh writes, is answered with 0 in the
-- end exactly when it is accepted and its output has room in all that is lent; and then all is as the tree says. So it is of the other numbers.
-- Assumes nothing.
use mathlib.Core.Path.{◌≡◌, refl, sym, ap, ap₂, ◌∙◌, subst}
use mathlib.Core.Bool.{Bool, true, false, not}
use mathlib.Core.List.{List, ◌++◌}
use Prim.Native.Nat.{ℕ, ◌<◌, ◌≤◌}
use native.Mathlib.Omega.{arith}
use lib.Dec.{eqb}
use lib.ListN.{length, take, drop, get_or}
use lib.Seq.{take_at}
use Rattle.sheet.specs.Sheet.{Sheet, IsSheet}
use Rattle.runs.specs.Taken.{Passed}
use Rattle.calls.specs.Call.{Result}
use Rattle.calls.specs.Parts.{Feeds, at_once, closes, goes_on}
use Rattle.calls.proofs.Parts.{each_call}
use Rattle.state.specs.Bounds.{state_width}
use Rattle.state.specs.Bytes.{bytes_of, state_from}
use Rattle.state.specs.Changes.{fresh_state}
use Rattle.state.proofs.Widths.{fresh_wide}
use Rattle.converter.specs.Answered.{held_of}
use Rattle.converter.specs.Fed.{result_in, BytesCall}
use Rattle.converter.proofs.Theorems.{bytes_fed_converted, bytes_fed_accepted, bytes_as_lent}
use Rattle.converter.proofs.Told.{bytes_fed_exactly, bytes_fed_read_back}
use Rattle.capi.specs.Started.{StartedAs, too_short, fresh}
use Rattle.hosts.specs.Hosts.{RunCall, RunAsLent, HostAccepts, HostConverts, HostFedExactly, HostFedReadBack}

twice_not : (b : Bool) → not (not b) ≡ b
twice_not true = refl
twice_not false = refl

-- a call of wickpollen_run is one of the call over bytes
module _ {s part : List ℕ} {more : Bool} {room : ℕ} {b b' : List ℕ} {x : Result} {v : ℕ} (c : RunCall s part more room b b' x v) where
  run_bytes : BytesCall s part more room b b' x v
  run_bytes =
      let w = c.answered in
      let e : ◌≡◌ {A = Result} (record { number = c.number; taken = get_or c.counts 0 0; output = take (get_or c.counts 1 0) c.after; held = held_of (state_from b') })
      (result_in c.after b' w.answer) =
      ap₂ (λ (n : ℕ) (l : List ℕ). record { number = n; taken = get_or l 0 0; output = take (get_or l 1 0) c.after; held = held_of (state_from b') }) w.number w.counted in
      record {
        lent = c.lent;
        after = c.after;
        ended = not (eqb c.ended 0);
        counts = w.answer;
        answered = w.as_answered;
        told = twice_not (eqb c.ended 0) ∙ c.told;
        as_long = c.as_long;
        result = c.result ∙ e;
        visits = c.visits ∙ ap (λ (l : List ℕ). get_or l 2 0) w.counted;
      }

runs_bytes : {s : List ℕ} {more : Bool} {whole : List ℕ} {room : ℕ} {b : List ℕ} {x : Result} {v : ℕ} → Feeds (RunCall s) more whole room b x v → Feeds (BytesCall s) more whole room b x v
runs_bytes (at_once c) = at_once (run_bytes c)
runs_bytes (closes room extra p later b r n t c e) = closes room extra p later b r n t (run_bytes c) e
runs_bytes (goes_on room extra p later b r t c e d) = goes_on room extra p later b r t (run_bytes c) e (runs_bytes d)

run_as_lent : {s : List ℕ} (part : List ℕ) (more : Bool) (room : ℕ) (b b' : List ℕ) (x : Result) (v : ℕ) (c : RunCall s part more room b b' x v) →
    RunAsLent s part more room b b' x v c
unfolding run_bytes
run_as_lent part more room b b' x v c =
    let k = bytes_as_lent part more room b b' x v (run_bytes c) in
    record { is_written = ap (λ (l : List ℕ). get_or l 1 0) c.answered.counted ∙ k.is_written; left = k.left }

-- what wickpollen_fresh writes, where it writes
fresh_there : {lent area : List ℕ} {w : ℕ} → StartedAs lent area w → 0 < w → take state_width area ≡ bytes_of fresh_state
fresh_there (too_short h e) p = absurd (omega arith)
fresh_there {lent} (fresh h e n) p = ap (take state_width) e ∙ take_at (bytes_of fresh_state) (drop state_width lent) state_width fresh_wide

module _ {s : List ℕ} {a : Sheet} (i : IsSheet s a) (ok : Passed a) where
  host_fed : {lent area : List ℕ} {w : ℕ} → StartedAs lent area w → 0 < w → {more : Bool} {whole : List ℕ} {room : ℕ} {x : Result} {v : ℕ} →
      Feeds (RunCall s) more whole room (take state_width area) x v → Feeds (BytesCall s) more whole room (bytes_of fresh_state) x v
  host_fed started written {more} {whole} {room} {x} {v} d =
      subst (λ (b : List ℕ). Feeds (BytesCall s) more whole room b x v) (fresh_there started written) (runs_bytes d)

  pub host_converted : HostConverts s a
  host_converted lent area w st wr whole room x v d e y f =
      ((bytes_fed_converted i ok whole room x v (host_fed st wr d) e y f).0, each_call (RunAsLent s) run_as_lent d)

  pub host_accepted : HostAccepts s a
  host_accepted lent area w st wr whole room x v d = bytes_fed_accepted i ok whole room x v (host_fed st wr d)

  pub host_fed_exactly : HostFedExactly s a
  host_fed_exactly lent area w st wr whole more room x told d =
      (each_call (RunAsLent s) run_as_lent d, (bytes_fed_exactly i ok whole more room x told (host_fed st wr d)).1)

  pub host_fed_read_back : HostFedReadBack s a
  host_fed_read_back lent area w st wr whole more room x told d = bytes_fed_read_back i ok whole more room x told (host_fed st wr d)
