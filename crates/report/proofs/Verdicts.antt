-- With a list of 65,536 bytes the checker's number is the one that is answered where none is lent.
-- Assumes nothing.
use Rattle.std.proofs.Common.{ℕ, ◌≤◌, List, length}
use Rattle.sheet.specs.Sheet.{grammar_of}
use Rattle.faults.specs.Checked.{ListedAs, too_short, all_listed, CheckedAs, malformed, well_formed_lem}
use Rattle.faults.specs.Verdict.{VerdictIs, malformed as no_sheet, of_sheet}
use Rattle.faults.specs.declared.Checked.{Checked}
use Rattle.faults.proofs.Theorems.{list_long_enough}

pub verdict_reported : {s lent after : List ℕ} {r : Checked} → CheckedAs s lent after r → 65536 ≤ length lent → VerdictIs s r.number
verdict_reported (malformed h d c e) k = no_sheet h d
verdict_reported {s} {lent} {after} {r} (well_formed_lem a i l is c z) k = by z
  where
    by : ListedAs (grammar_of a.rules) l lent after r.number → VerdictIs s r.number
    by (too_short h q f) = absurd (list_long_enough (well_formed_lem a i l is c z) k q)
    by (all_listed h q f) = of_sheet a i q
