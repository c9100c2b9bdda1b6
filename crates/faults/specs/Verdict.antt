-- The number that a sheet is answered with where no list is lent: 0 where it passes, 1 to 9 where it does not.
-- Assumes nothing.
use Rattle.std.specs.Prelude.{List, ℕ, ◌≤◌}
use Rattle.expressions.specs.FaultList.{FaultNumber}
use Rattle.sheet.specs.Defect.{DefectIs}
use Rattle.sheet.specs.Sheet.{Sheet, grammar_of, IsSheet}

pub data VerdictIs (s : List ℕ) : ℕ → Type 0 where
  malformed : {n : ℕ} → 1 ≤ n → DefectIs s n → VerdictIs s n
  of_sheet : {n : ℕ} (a : Sheet) → IsSheet s a → FaultNumber (grammar_of a.rules) n → VerdictIs s n
