-- Wider bounds leave a sheet that keeps the narrower ones as it was.
-- Assumes nothing.
use mathlib.Core.Path.{refl}
use native.Mathlib.Omega.{arith}
use Rattle.programs.specs.Bounds.{Bounds, bounds}
use Rattle.runs.proofs.SheetFits.{programs_fit_in}
use Rattle.widening.specs.CallByCall.{fresh_in}
use Rattle.widening.specs.AsBefore.{Wider, AsBefore, old_bounds, OldAsBefore, FreshIsToday}
use Rattle.widening.proofs.Calls.{calls_alike, fresh_alike}
use Rattle.widening.proofs.Sheets.{sheet_wider, one_sheet, one_number}

pub as_before : (b b' : Bounds) → Wider b b' → AsBefore b b'
as_before b b' w = record {
  still_a_sheet = λ s a. sheet_wider b b' w s a;
  same_sheet = λ s k a. one_sheet b b' w s k a;
  same_number = λ s k n. one_number b b' w s k n;
  same_passing = λ s k. (
    (λ x. (x.0, (one_sheet b b' w s k x.0).0 x.1, x.2)),
    (λ x. (x.0, (one_sheet b b' w s k x.0).1 x.1, x.2)),
  );
  same_calls = λ s a z qs hs. (let wide = w.of_attributes in (
    calls_alike a b (programs_fit_in z) (fresh_in b') (fresh_alike b.highest_attribute b b' (omega arith) wide),
    calls_alike a b (programs_fit_in z) (fresh_in b) (fresh_alike b.highest_attribute b' b wide (omega arith)),
  ));
}

pub old_as_before : OldAsBefore
old_as_before = as_before old_bounds bounds (record { of_attributes = omega arith; of_values = omega arith })

pub fresh_is_today : FreshIsToday
fresh_is_today = refl
