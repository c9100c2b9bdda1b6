-- In every step as many bytes wait as did before it, and as do when the call stops with it. So what waits when a call begins, and when it stops, waited in it.
-- Assumes nothing.
use mathlib.Core.Path.{◌≡◌, refl, sym, ap, subst}
use mathlib.Core.Bool.{Bool, true, false, cond}
use mathlib.Core.List.{List, [], ◌∷◌, ◌++◌}
use Prim.Native.Nat.{ℕ, ◌+◌, ◌≤◌}
use native.Mathlib.Omega.{arith}
use lib.Dec.{leb}
use lib.ListN.{length, length-append}
use Rattle.runs.specs.Machine.{Configuration}
use Rattle.runs.specs.Spells.{Token as RunToken}
use Rattle.calls.specs.Names.{token_of}
use Rattle.calls.specs.Limits.{Taking, taken, refuses, no_room, one_token}
use Rattle.calls.specs.Held.{leaves_open}
use Rattle.calls.specs.Call.{room_left}
use Rattle.salvage.specs.Salvage.{root_only, begins_record, lost, damaged}
use Rattle.salvaging.specs.declared.Resumed.{Resumed}
use Rattle.salvaging.specs.declared.Resumed.TheVariants.{Here, Waits, Nowhere}
use Rattle.rescue.specs.Held.{Mode, between, inside, skipping, waiting_in, Rescued}
use Rattle.rescue.specs.Step.{Setting, Step, on, stop, stay, in_stream, last_byte, drops_at, closes_at, breaks_at, whole_at, record_token, other_token, token_step, number_step, skip_step, skip_to, reported, StepIs, at_token, at_none, at_bytes}
use Rattle.rescue.specs.Call.{larger, Rescues, goes, halts}
use Rattle.rescue.proofs.One.{GoesBy, goes_by}
use Rattle.rescue.proofs.Whole.{reports, reports_end}

abbrev WaitBy : Mode → Step → Type 0
WaitBy m (on next m' w ds k) = length (waiting_in m) ≤ k
WaitBy m (stop n to m' ds k) = (length (waiting_in m) ≤ k) × (length (waiting_in m') ≤ k)

wait_reported : (spare p : ℕ) (m : Mode) (t : Step) → WaitBy m t → WaitBy m (reported spare p m t)
wait_reported spare p m (on next m' w ds k) h = by (leb (length ds) spare)
  where
    by : (o : Bool) → WaitBy m (cond o (on next m' w ds k) (stay 17 p m))
    by true = h
    by false = (omega arith, omega arith)
wait_reported spare p m (stop n to m' ds k) h = by (leb (length ds) spare)
  where
    by : (o : Bool) → WaitBy m (cond o (stop n to m' ds k) (stay 17 p m))
    by true = h
    by false = (omega arith, omega arith)

module _ (c : Setting) where
  wait_breaks : (at : ℕ) (m : Mode) (z : Configuration) (f n : ℕ) → WaitBy m (breaks_at c at m z f n)
  wait_breaks at m z f n = by (leaves_open n) (damaged n)
    where
      by : (o d : Bool) → WaitBy m (cond o (stay n at m) (cond d (drops_at c at m z f n) (closes_at c at m z f n)))
      by true d = (omega arith, omega arith)
      by false true = omega arith
      by false false = (omega arith, omega arith)

  wait_record : (at room : ℕ) (m : Mode) (z : Configuration) (f : ℕ) (v : List ℕ) (next : ℕ) (u : Taking) → waiting_in m ≡ v → WaitBy m (record_token c at room m z f v next u)
  wait_record at room m z f v next (taken y w) e = by (root_only y.control) (leb (length (v ++ w)) room)
    where
      longer : length (waiting_in m) ≤ length (v ++ w)
      longer = omega (arith, ap length e, length-append v w)

      by : (o d : Bool) → WaitBy m (cond o (cond d (on next (between y) (v ++ w) [] (length (v ++ w))) (stop 17 at m [] (length (v ++ w)))) (on next (inside z y f (v ++ w)) [] [] (length (v ++ w))))
      by true true = longer
      by true false = (longer, longer)
      by false d = longer
  wait_record at room m z f v next (refuses n) e = wait_breaks at m z f n
  wait_record at room m z f v next no_room e = (omega arith, omega arith)

  wait_other : (at : ℕ) (z : Configuration) (next : ℕ) (u : Taking) → WaitBy (between z) (other_token at (between z) next u)
  wait_other at z next (taken y w) = omega arith
  wait_other at z next (refuses n) = (omega arith, omega arith)
  wait_other at z next no_room = (omega arith, omega arith)

  wait_token : (at room next : ℕ) (k : RunToken) (m : Mode) → WaitBy m (token_step c at room next k m)
  wait_token at room next k (between z) = by (begins_record c.tags z.control k)
    where
      by : (o : Bool) → WaitBy (between z)
          (cond o (record_token c at room (between z) z (in_stream c at) [] next (one_token c.sheet z (room_left c.area []) k)) (other_token at (between z) next (one_token c.sheet z room k)))
      by true = wait_record at room (between z) z (in_stream c at) [] next (one_token c.sheet z (room_left c.area []) k) refl
      by false = wait_other at z next (one_token c.sheet z room k)
  wait_token at room next k (inside z y f v) = wait_record at room (inside z y f v) z f v next (one_token c.sheet y (room_left c.area v) k) refl
  wait_token at room next k (skipping z f n) = (omega arith, omega arith)

  wait_number : (at n : ℕ) (m : Mode) → WaitBy m (number_step c at n m)
  wait_number at n (between z) = (omega arith, omega arith)
  wait_number at n (inside z y f v) = wait_breaks at (inside z y f v) z f n
  wait_number at n (skipping z f k) = (omega arith, omega arith)

  wait_out : (z : Configuration) (f n to : ℕ) (b : Bool) → WaitBy (skipping z f n) (cond b (stay 16 to (skipping z f n)) (stop 27 (length c.part) (between z) (lost f (last_byte c) n ∷ []) 0))
  wait_out z f n to true = (omega arith, omega arith)
  wait_out z f n to false = (omega arith, omega arith)

  wait_skip : (z : Configuration) (f n : ℕ) (r : Resumed) → WaitBy (skipping z f n) (skip_step c z f n r)
  wait_skip z f n (Here to) = omega arith
  wait_skip z f n (Waits to) = wait_out z f n to c.more
  wait_skip z f n Nowhere = wait_out z f n (length c.part) c.more

  wait_step : (at room spare : ℕ) (m : Mode) (t : Step) → StepIs c at room spare m t → WaitBy m t
  wait_step at room spare m t (at_token e next q r) = wait_reported spare at m (token_step c at room next (token_of c.sheet c.part e) m) (wait_token at room next (token_of c.sheet c.part e) m)
  wait_step at room spare m t (at_none y n q r g) = wait_reported spare at m (number_step c at n m) (wait_number at n m)
  wait_step at room spare m t (at_bytes z f n r e g) =
      subst (λ (k : Mode). WaitBy k (reported spare (skip_to c r) k (skip_step c z f n r))) (sym e) (wait_reported spare (skip_to c r) (skipping z f n) (skip_step c z f n r) (wait_skip z f n r))

  -- what waits when it begins
  pub began_waited : {at room spare : ℕ} {m : Mode} {r : Rescued} → Rescues c at room spare m r → length (waiting_in m) ≤ r.waited
  began_waited (goes {at} {room} {spare} {m} next m' w ds k st d) = let h : length (waiting_in m) ≤ k = wait_step at room spare m (on next m' w ds k) st in omega arith
  began_waited (halts {at} {room} {spare} {m} n to m' ds k st) = (wait_step at room spare m (stop n to m' ds k) st).0

  -- and when it stops
  pub run_waited : {at room spare : ℕ} {m : Mode} {r : Rescued} → Rescues c at room spare m r → length (waiting_in r.held.mode) ≤ r.waited
  run_waited (goes next m' w ds k st d) = let h = run_waited d in omega (arith, h)
  run_waited (halts {at} {room} {spare} {m} n to m' ds k st) = (wait_step at room spare m (stop n to m' ds k) st).1

  -- all of a record waits with its last token, whether the output has room for it or not
  pub whole_waited : {at room spare : ℕ} {m : Mode} {r : Rescued} (next : ℕ) (y : Configuration) (u : List ℕ) → StepIs c at room spare m (reported spare at m (whole_at at room m next y u)) →
      Rescues c at room spare m r → length u ≤ r.waited
  whole_waited {at} {room} {spare} {m} {r} next y u st d = by (leb (length u) room) (goes_by c d (reported spare at m (whole_at at room m next y u)) st)
    where
      by : (o : Bool) → GoesBy c at room spare m r (reported spare at m (cond o (on next (between y) u [] (length u)) (stop 17 at m [] (length u)))) → length u ≤ r.waited
      by true g =
          let (r', i, e) = subst (GoesBy c at room spare m r) (reports spare at m next (between y) u [] (length u) (omega arith)) g in
          let h : r.waited ≡ larger (length u) r'.waited = ap (λ (q : Rescued). q.waited) e in
          omega arith
      by false g =
          let h : r.waited ≡ length u = ap (λ (q : Rescued). q.waited) (subst (GoesBy c at room spare m r) (reports_end spare at m 17 at m [] (length u) (omega arith)) g) in
          omega arith
