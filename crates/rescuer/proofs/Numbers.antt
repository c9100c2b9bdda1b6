-- The number that a step stops with is one of document 01's, so a byte holds it.
-- Assumes nothing.
use mathlib.Core.Path.{◌≡◌, refl, sym, ap, subst, ◌∙◌}
use mathlib.Core.Bool.{Bool, true, false, cond}
use mathlib.Core.Logic.{◌⊎◌, inl, inr}
use mathlib.Core.List.{List, [], ◌∷◌, ◌++◌}
use mathlib.Core.Option.{some}
use Prim.Native.Nat.{ℕ, ◌≤◌}
use native.Mathlib.Omega.{arith}
use lib.Dec.{eqb, leb, ltb}
use lib.ListN.{length, drop}
use Rattle.expressions.specs.Grammar.{only_if}
use Rattle.tokens.specs.declared.Event.{Event}
use Rattle.tokens.specs.declared.Answer.TheVariants.{Token as Read}
use Rattle.tokens.specs.Stream.{ReadAs}
use Rattle.sheet.specs.Sheet.{Sheet}
use Rattle.runs.specs.Machine.{Configuration}
use Rattle.runs.specs.Spells.{Token}
use Rattle.calls.specs.Names.{token_of}
use Rattle.calls.specs.Limits.{Taking, taken, refuses, no_room, one_token}
use Rattle.calls.specs.Held.{leaves_open}
use Rattle.calls.specs.Call.{room_left, Stop, stops, no_token, Runs, halts, stopped_at}
use Rattle.converter.specs.Promises.{InTable}
use Rattle.converter.proofs.Replies.{run_number}
use Rattle.salvage.specs.Salvage.{root_only, begins_record, LostStretch, lost, damaged}
use Rattle.salvaging.specs.declared.Resumed.{Resumed}
use Rattle.salvaging.specs.declared.Resumed.TheVariants.{Here, Waits, Nowhere}
use Rattle.rescue.specs.Held.{Mode, between, inside, skipping, run_of, waiting_in}
use Rattle.rescue.specs.Step.{Setting, Step, on, stop, stay, in_stream, byte_before, last_byte, drops_at, closes_at, breaks_at, whole_at, record_token, other_token, token_step, number_step, ran_out, skip_step, reported, StepIs, at_token, at_none, at_bytes}
use Rattle.strides.specs.Strides.{number_in}

few : {a : Sheet} {part : List ℕ} {more : Bool} {at room n : ℕ} {z : Configuration} → Stop a part more at room z n → n ≤ 30
few d = by (run_number (halts d))
  where
    by : {n : ℕ} → InTable n → n ≤ 30
    by (inl h) = omega arith
    by (inr (inl h)) = omega arith
    by (inr (inr (inl h))) = omega arith
    by (inr (inr (inr h))) = h.1

-- of two steps, by a test
either : (b : Bool) (s t : Step) → number_in s ≤ 30 → number_in t ≤ 30 → number_in (cond b s t) ≤ 30
either true s t h k = h
either false s t h k = k

module _ (c : Setting) (at room : ℕ) where
  few_broken : (m : Mode) (z : Configuration) (f n : ℕ) → n ≤ 30 → number_in (breaks_at c at m z f n) ≤ 30
  few_broken m z f n h =
      either (leaves_open n) (stay n at m) (cond (damaged n) (drops_at c at m z f n) (closes_at c at m z f n)) h (either (damaged n) (drops_at c at m z f n) (closes_at c at m z f n) (omega arith) h)

  few_record : (m : Mode) (z : Configuration) (f : ℕ) (v : List ℕ) (next : ℕ) (k : Taking) → ((n : ℕ) → k ≡ refuses n → n ≤ 30) → number_in (record_token c at room m z f v next k) ≤ 30
  few_record m z f v next (taken y w) h =
      either (root_only y.control) (whole_at at room m next y (v ++ w)) (on next (inside z y f (v ++ w)) [] [] (length (v ++ w)))
      (either (leb (length (v ++ w)) room) (on next (between y) (v ++ w) [] (length (v ++ w))) (stop 17 at m [] (length (v ++ w))) (omega arith) (omega arith)) (omega arith)
  few_record m z f v next (refuses n) h = few_broken m z f n (h n refl)
  few_record m z f v next no_room h = omega arith

  few_other : (m : Mode) (next : ℕ) (k : Taking) → ((n : ℕ) → k ≡ refuses n → n ≤ 30) → number_in (other_token at m next k) ≤ 30
  few_other m next (taken y w) h = omega arith
  few_other m next (refuses n) h = h n refl
  few_other m next no_room h = omega arith

  few_reported : (spare p : ℕ) (m : Mode) (s : Step) → number_in s ≤ 30 → number_in (reported spare p m s) ≤ 30
  few_reported spare p m (on next m' w ds k) h = either (leb (length ds) spare) (on next m' w ds k) (stay 17 p m) (omega arith) (omega arith)
  few_reported spare p m (stop n to m' ds k) h = either (leb (length ds) spare) (stop n to m' ds k) (stay 17 p m) h (omega arith)

  module _ (e : Event) (next : ℕ) (means : ReadAs c.more c.part at (Read e (record { at = next }))) where
    few_refused : (z : Configuration) (left n : ℕ) → one_token c.sheet z left (token_of c.sheet c.part e) ≡ refuses n → n ≤ 30
    few_refused z left n q = few {a = c.sheet} {part = c.part} {more = c.more} {at = at} {room = left} {z = z} (stops e next n means q)

    few_token : (m : Mode) → number_in (token_step c at room next (token_of c.sheet c.part e) m) ≤ 30
    few_token (between z) =
        either (begins_record c.tags z.control (token_of c.sheet c.part e))
        (record_token c at room (between z) z (in_stream c at) [] next (one_token c.sheet z (room_left c.area []) (token_of c.sheet c.part e)))
        (other_token at (between z) next (one_token c.sheet z room (token_of c.sheet c.part e)))
        (few_record (between z) z (in_stream c at) [] next (one_token c.sheet z (room_left c.area []) (token_of c.sheet c.part e)) (few_refused z (room_left c.area [])))
        (few_other (between z) next (one_token c.sheet z room (token_of c.sheet c.part e)) (few_refused z room))
    few_token (inside z y f v) = few_record (inside z y f v) z f v next (one_token c.sheet y (room_left c.area v) (token_of c.sheet c.part e)) (few_refused y (room_left c.area v))
    few_token (skipping z f n) = omega arith

  few_number : (n : ℕ) (m : Mode) → n ≤ 30 → number_in (number_step c at n m) ≤ 30
  few_number n (between z) h = h
  few_number n (inside z y f v) h = few_broken (inside z y f v) z f n h
  few_number n (skipping z f k) h = omega arith

  few_ran : (to : ℕ) (z : Configuration) (f n : ℕ) → number_in (ran_out c to z f n) ≤ 30
  few_ran to z f n = either c.more (stay 16 to (skipping z f n)) (stop 27 (length c.part) (between z) (lost f (last_byte c) n ∷ []) 0) (omega arith) (omega arith)

  few_skipped : (z : Configuration) (f n : ℕ) (r : Resumed) → number_in (skip_step c z f n r) ≤ 30
  few_skipped z f n (Here to) = omega arith
  few_skipped z f n (Waits to) = few_ran to z f n
  few_skipped z f n Nowhere = few_ran (length c.part) z f n

pub step_few : {c : Setting} {at room spare : ℕ} {m : Mode} {s : Step} → StepIs c at room spare m s → number_in s ≤ 30
step_few {c} {at} {room} {spare} {m} (at_token e next rd means) = few_reported c at room spare at m (token_step c at room next (token_of c.sheet c.part e) m) (few_token c at room e next means m)
step_few {c} {at} {room} {spare} {m} (at_none x n rd means q) =
    few_reported c at room spare at m (number_step c at n m) (few_number c at room n m (few {a = c.sheet} {part = c.part} {more = c.more} {at = at} {room = room} {z = run_of m} (no_token x n means q)))
step_few {c} {at} {room} {spare} {m} (at_bytes z f n r e h) = few_reported c at room spare _ m (skip_step c z f n r) (few_skipped c at room z f n r)
