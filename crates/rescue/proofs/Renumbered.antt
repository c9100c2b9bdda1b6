-- Passing over behind a record that was refused with 21, and with 20: all is the same but the number.
-- Assumes nothing.
use mathlib.Core.Path.{◌≡◌, refl, sym, subst}
use mathlib.Core.Bool.{Bool, true, false, cond}
use mathlib.Core.List.{List, [], ◌∷◌}
use Prim.Native.Nat.{ℕ, ◌+◌, ◌-◌, ◌≤◌}
use native.Mathlib.Omega.{arith}
use lib.Dec.{leb}
use lib.ListN.{length}
use Rattle.runs.specs.Machine.{Configuration}
use Rattle.calls.specs.Held.{leaves_open, closing_of}
use Rattle.salvage.specs.Resumption.{record_start, root_end}
use Rattle.salvage.specs.Salvage.{lost}
use Rattle.salvaging.specs.declared.Resumed.{Resumed}
use Rattle.salvaging.specs.declared.Resumed.TheVariants.{Here, Waits, Nowhere}
use Rattle.salvaging.specs.Resumed.{ResumedIs}
use Rattle.rescue.specs.Held.{between, skipping, Rescued}
use Rattle.rescue.specs.Step.{Setting, on, stop, stay, byte_before, last_byte, skip_step, skip_to, reported, StepIs, at_bytes}
use Rattle.rescue.specs.Call.{halted, after_step, Rescues, goes, halts}
use Rattle.rescue.specs.Parts.{CutIn, cut_stretch, no_more, and_then, same_mode, cut_mode, same_number, SameRescue}
use Rattle.rescue.proofs.One.{GoesBy, goes_by}
use Rattle.rescue.proofs.Lift.{same_report, cut_later}
use Rattle.rescue.proofs.Resumed.{some_resumed}

pub same_rescue : (whole : List ℕ) (base : ℕ) (r : Rescued) → SameRescue whole base r r
same_rescue whole base r =
    record {
      number = same_number r.number r.held.closing;
      taken = refl;
      output = refl;
      report = same_report whole base r.report;
      waited = refl;
      mode = same_mode r.held.mode;
      passed = refl;
    }

module _ (c : Setting) (at room spare : ℕ) (z : Configuration) (f : ℕ) (cut : CutIn c.part c.before f (c.before + at)) (within : at ≤ length c.part) where
  abbrev With21 : Rescued → Type 0
  With21 r = (r' : Rescued) × Rescues c at room spare (skipping z f 21) r' × SameRescue c.part c.before r' r

  -- a stop that leaves it passing over
  still : (n to : ℕ) (r : Rescued) → at ≤ to → r ≡ halted c n to (skipping z f 20) [] 0 → StepIs c at room spare (skipping z f 21) (stop n to (skipping z f 21) [] 0) → With21 r
  still n to r l e st = (
    halted c n to (skipping z f 21) [] 0,
    halts n to (skipping z f 21) [] 0 st,
    subst (SameRescue c.part c.before (halted c n to (skipping z f 21) [] 0)) (sym e)
        (record { number = same_number n (closing_of (leaves_open n) n); taken = refl; output = refl; report = no_more; waited = refl; mode = cut_mode z f (cut_later (omega (arith, l)) cut); passed = refl }),
  )

  ran_out : (to : ℕ) (r : Rescued) → at ≤ to → (o d : Bool) →
      GoesBy c at room spare (skipping z f 20) r
      (cond o (cond d (stay 16 to (skipping z f 20)) (stay 17 (length c.part) (skipping z f 20)))
      (cond (leb 1 spare) (stop 27 (length c.part) (between z) (lost f (last_byte c) 20 ∷ []) 0) (stay 17 (length c.part) (skipping z f 20)))) →
      StepIs c at room spare (skipping z f 21)
      (cond o (cond d (stay 16 to (skipping z f 21)) (stay 17 (length c.part) (skipping z f 21)))
      (cond (leb 1 spare) (stop 27 (length c.part) (between z) (lost f (last_byte c) 21 ∷ []) 0) (stay 17 (length c.part) (skipping z f 21)))) → With21 r
  ran_out to r l true true g st = still 16 to r l g st
  ran_out to r l true false g st = still 17 (length c.part) r within g st
  ran_out to r l false d g st = by (leb 1 spare) g st
    where
      by : (o : Bool) →
          GoesBy c at room spare (skipping z f 20) r (cond o (stop 27 (length c.part) (between z) (lost f (last_byte c) 20 ∷ []) 0) (stay 17 (length c.part) (skipping z f 20))) →
          StepIs c at room spare (skipping z f 21) (cond o (stop 27 (length c.part) (between z) (lost f (last_byte c) 21 ∷ []) 0) (stay 17 (length c.part) (skipping z f 21))) → With21 r
      by true e st = (
        halted c 27 (length c.part) (between z) (lost f (last_byte c) 21 ∷ []) 0,
        halts 27 (length c.part) (between z) (lost f (last_byte c) 21 ∷ []) 0 st,
        subst (SameRescue c.part c.before (halted c 27 (length c.part) (between z) (lost f (last_byte c) 21 ∷ []) 0)) (sym e)
            (record {
              number = same_number 27 _;
              taken = refl;
              output = refl;
              report = and_then (cut_stretch f (last_byte c) (cut_later (omega (arith, within)) cut)) no_more;
              waited = refl;
              mode = same_mode (between z);
              passed = refl;
            }),
      )
      by false e st = still 17 (length c.part) r within e st

  on_here : (to : ℕ) (r : Rescued) → at ≤ to → (o : Bool) →
      GoesBy c at room spare (skipping z f 20) r (cond o (on to (between z) [] (lost f (byte_before c to) 20 ∷ []) 0) (stay 17 to (skipping z f 20))) →
      StepIs c at room spare (skipping z f 21) (cond o (on to (between z) [] (lost f (byte_before c to) 21 ∷ []) 0) (stay 17 to (skipping z f 21))) → With21 r
  on_here to r l true (r', d, e) st = (
    after_step [] (lost f (byte_before c to) 21 ∷ []) 0 r',
    goes to (between z) [] (lost f (byte_before c to) 21 ∷ []) 0 st d,
    subst (SameRescue c.part c.before (after_step [] (lost f (byte_before c to) 21 ∷ []) 0 r')) (sym e)
        (record {
          number = same_number r'.number r'.held.closing;
          taken = refl;
          output = refl;
          report = and_then (cut_stretch f (byte_before c to) (cut_later (omega (arith, l)) cut)) (same_report c.part c.before r'.report);
          waited = refl;
          mode = same_mode r'.held.mode;
          passed = refl;
        }),
  )
  on_here to r l false e st = still 17 to r l e st

  pub renumber : (r : Rescued) → Rescues c at room spare (skipping z f 20) r → With21 r
  renumber r d =
      let (k, h) = some_resumed (record_start c.sheet c.tags) (root_end c.sheet c.tags) c.part at in
      by k h (goes_by c d (reported spare (skip_to c k) (skipping z f 20) (skip_step c z f 20 k)) (at_bytes z f 20 k refl h)) (at_bytes z f 21 k refl h)
    where
      out : (to : ℕ) → at ≤ to → (o : Bool) →
          GoesBy c at room spare (skipping z f 20) r
          (reported spare (length c.part) (skipping z f 20) (cond o (stay 16 to (skipping z f 20)) (stop 27 (length c.part) (between z) (lost f (last_byte c) 20 ∷ []) 0))) →
          StepIs c at room spare (skipping z f 21)
          (reported spare (length c.part) (skipping z f 21) (cond o (stay 16 to (skipping z f 21)) (stop 27 (length c.part) (between z) (lost f (last_byte c) 21 ∷ []) 0))) → With21 r
      out to l true g st = ran_out to r l true (leb 0 spare) g st
      out to l false g st = ran_out to r l false true g st

      by : (k : Resumed) → ResumedIs (record_start c.sheet c.tags) (root_end c.sheet c.tags) c.part at k →
          GoesBy c at room spare (skipping z f 20) r (reported spare (skip_to c k) (skipping z f 20) (skip_step c z f 20 k)) →
          StepIs c at room spare (skipping z f 21) (reported spare (skip_to c k) (skipping z f 21) (skip_step c z f 21 k)) → With21 r
      by (Here to) h g st = on_here to r h.0 (leb 1 spare) g st
      by (Waits to) h g st = out to h.0 c.more g st
      by Nowhere h g st = out (length c.part) within c.more g st
